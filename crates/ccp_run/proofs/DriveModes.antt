-- The modes of driven flows have what the theorem asks of a mode.
use Rattle.std.proofs.Common.{◌≡◌, ◌⊎◌, inl, inr, Bool, List, ℕ, Option, Some, None, refl, true≢false}
use Rattle.ccp_words.specs.declared.mode.DriveText.{DriveText}
use Rattle.run_ending.specs.declared.refusal.Refusal.{Refusal}
use Rattle.ccp_run.specs.Drive.{IsDriveInput, IsNoDrive, drive_rules, drive_text_rules}
use Rattle.ccp_run.specs.DriveInputs.{drive_refusal}
use Rattle.ccp_run.proofs.ModeLaws.{IsMode, settled_by}

module _ (bytes : List ℕ) where
  found : (refusal : Option Refusal) → drive_refusal bytes ≡ refusal → IsDriveInput bytes ⊎ ((refusal : Refusal) × IsNoDrive bytes refusal)
  found None is = inl is
  found (Some refusal) is = inr (refusal, is)

pub drive_mode : IsMode drive_rules
drive_mode = record {
  settled = λ bytes.
      settled_by drive_rules bytes (drive_refusal bytes) (found bytes (drive_refusal bytes) refl) (λ input. input) (λ refusal is. is)
      (λ output made. made.input.whole);
  begins = refl;
  quiet = λ quiet bytes. absurd (true≢false quiet);
  plain = λ plain. absurd (true≢false plain);
  unread = λ unread bytes refusal refused. absurd (true≢false unread);
}

pub drive_text_mode : (text : DriveText) (wire : Bool) → IsMode (drive_text_rules text wire)
drive_text_mode text wire = record {
  settled = λ bytes.
      settled_by (drive_text_rules text wire) bytes (drive_refusal bytes) (found bytes (drive_refusal bytes) refl) (λ input. input) (λ refusal is. is)
      (λ output made. made.input.whole);
  begins = refl;
  quiet = λ quiet bytes. refl;
  plain = λ plain. absurd (true≢false plain);
  unread = λ unread bytes refusal refused. absurd (true≢false unread);
}
