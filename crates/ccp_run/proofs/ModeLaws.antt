-- What the theorem asks of each mode's rules, which a mode that reads its input to the end mostly has at once.
use Rattle.std.proofs.Common.{◌≡◌, ◌∙◌, ◌⊎◌, refl, sym, false, Option, Some, None, List, ℕ, [], true≢false}
use Rattle.std.proofs.lemmas.Option.{same_Some, none-some}
use Rattle.run_ending.specs.declared.outcome.ModeOutput.{ModeOutput}
use Rattle.run_ending.specs.declared.refusal.Limit.{Limit}
use Rattle.run_ending.specs.declared.refusal.Refusal.{Refusal}
use Rattle.ccp_run.specs.Rules.{Rules, reads_whole}
use Rattle.ccp_run.specs.Settled.{IsSettledBy}

pub record IsMode (rules : Rules) : Type 0 where
  pub settled : (bytes : List ℕ) → IsSettledBy rules bytes
  -- no bytes have no answers
  pub begins : rules.answers_before [] ≡ []
  -- a mode that doesn't answer its input as it comes writes nothing before the input's end
  pub quiet : rules.is_answered ≡ false → (bytes : List ℕ) → rules.answers_before bytes ≡ []
  -- a mode that doesn't judge its input as it comes doesn't answer it so either, and refuses nothing before its end
  pub plain : rules.is_stream ≡ false → (rules.is_answered ≡ false) × ((bytes : List ℕ) → rules.GoesOn bytes)
  -- a mode that doesn't read its source refuses nothing
  pub unread : rules.is_read ≡ false → (bytes : List ℕ) (refusal : Refusal) → rules.IsRefused bytes refusal → ⊥

-- a mode that reads its input to the end and then writes
module _ (most : Limit) (inputs : List ℕ → Type 0) (made : List ℕ → ModeOutput → Type 0) (refused : List ℕ → Refusal → Type 0) where
  pub reads_to_end : ((bytes : List ℕ) → IsSettledBy (reads_whole most inputs made refused) bytes) → IsMode (reads_whole most inputs made refused)
  reads_to_end settled = record {
    settled = settled;
    begins = refl;
    quiet = λ _ bytes. refl;
    plain = λ _. (refl, λ bytes. tt);
    unread = λ not bytes refusal bad. true≢false not;
  }

-- ---- settled inputs

-- bytes are settled by what is found of them: an input has no refusal, and each refusal is the one that is found
module _ (rules : Rules) (bytes : List ℕ) (found : Option Refusal)
    (some : rules.IsInput bytes ⊎ ((refusal : Refusal) × rules.IsRefused bytes refusal))
    (none : rules.IsInput bytes → found ≡ None)
    (one : (refusal : Refusal) → rules.IsRefused bytes refusal → found ≡ Some refusal)
    (made : (output : ModeOutput) → rules.IsMade bytes output → rules.IsInput bytes) where
  pub settled_by : IsSettledBy rules bytes
  settled_by = record {
    some = some;
    apart = λ refusal input bad. none-some refusal (sym (none input) ∙ one refusal bad);
    one_refusal = λ left right l r. same_Some left right (sym (one left l) ∙ one right r);
    made = made;
  }
