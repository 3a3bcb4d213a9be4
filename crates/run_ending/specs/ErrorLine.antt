-- The line that reports why an input is refused.
use Rattle.std.specs.Prelude.{ℕ, List, codes, decimal}
use Rattle.ccp_base.specs.Limits.{most_input_bytes, most_audit_bytes}
use Rattle.portus_build.specs.RefusalText.{refusal_text}
use Rattle.reply_frames.specs.declared.fault.BadKind.{BadKind}
use Rattle.reply_frames.specs.declared.fault.BadKind.TheVariants as bad
use Rattle.scene_faults.specs.RefusalText as scene
use Rattle.ccp_base.specs.Text.{◌⧺◌}
use Rattle.run_ending.specs.declared.refusal.Limit.{Limit}
use Rattle.run_ending.specs.declared.refusal.Limit.TheVariants.{Input, Audit}
use Rattle.run_ending.specs.declared.refusal.Refusal.{Refusal}
use Rattle.run_ending.specs.declared.refusal.Refusal.TheVariants.{TooLong, NoSeparator, Program, Line, TooManyAcks, Scene, Frame, FrameCut}

abbrev pub most_bytes : Limit → ℕ
most_bytes Input = most_input_bytes
most_bytes Audit = most_audit_bytes

-- the name of the field in which a byte is bad
abbrev pub field_name : BadKind → List ℕ
field_name bad.Kind = codes "Kind"
field_name bad.Version = codes "Version"
field_name bad.Count = codes "Count"
field_name bad.Length = codes "Length"
field_name bad.Flag = codes "Flag"
field_name bad.Op = codes "Op"
field_name bad.Class = codes "Class"
field_name bad.Index = codes "Index"
field_name bad.FaultKind = codes "FaultKind"

abbrev pub refusal_part : Refusal → List ℕ
refusal_part (TooLong Input) = codes "more than 1048576 bytes\n"
refusal_part (TooLong Audit) = codes "more than 67108864 bytes\n"
refusal_part NoSeparator = codes "no separator\n"
refusal_part (Program fault) = codes "program " ⧺ refusal_text fault ⧺ codes "\n"
refusal_part (Line number) = codes "acknowledgement line " ⧺ decimal number ⧺ codes "\n"
refusal_part TooManyAcks = codes "too many acknowledgements\n"
refusal_part (Scene fault) = scene.refusal_text fault ⧺ codes "\n"
refusal_part (Frame field place) = codes "frame " ⧺ field_name field ⧺ codes " at " ⧺ decimal place ⧺ codes "\n"
refusal_part (FrameCut place) = codes "frame cut at " ⧺ decimal place ⧺ codes "\n"

abbrev pub refusal_line : Refusal → List ℕ
refusal_line refusal = codes "ccp: input refused: " ⧺ refusal_part refusal
