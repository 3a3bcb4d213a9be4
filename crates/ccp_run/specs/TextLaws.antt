-- What the texts of `timeline` and `acks` say to other modes: to `audit` and to `fold`.
use Rattle.std.specs.Prelude.{◌≡◌, ◌≤◌, ◌<◌, ◌^◌, ℕ, false, Ok, List, length, codes}
use Rattle.std.specs.List.{All}
use Rattle.ccp_base.specs.declared.ack.Ack.{Ack}
use Rattle.ccp_base.specs.declared.parts.Separator.TheVariants.{LineFeed}
use Rattle.ccp_base.specs.Acknowledgement.{primitives}
use Rattle.ccp_base.specs.Limits.{most_acks}
use Rattle.ccp_base.specs.Parts.{parts_of}
use Rattle.fold_run.specs.Acknowledgements.{acks_of_lines}
use Rattle.fold_run.specs.Separated.{Cut}
use Rattle.campaign_report.specs.AcksText.{ack_lines}
use Rattle.run_ending.specs.declared.outcome.ModeOutput.{ModeOutput}
use Rattle.ccp_run.specs.AuditRuns.{IsAuditCut, IsAuditOutput}
use Rattle.ccp_run.specs.Timeline.{IsTimelineOutput}

-- if a scenario and the text of its timeline are given to `audit`, it says yes
abbrev pub AuditsTimelines : Type 0
AuditsTimelines =
    (bytes : List ℕ) (output : ModeOutput) → IsTimelineOutput false bytes output
    → (input : List ℕ) (cut : Cut) → IsAuditCut input cut → cut.program ≡ bytes → cut.rest ≡ output.text
    → (made : ModeOutput) → IsAuditOutput input made → made.text ≡ codes "yes\n"

-- each primitive of an acknowledgement is a number of 64 bits
abbrev pub IsOf64Bits : Ack → Type 0
IsOf64Bits ack = All (λ (value : ℕ). value < 2 ^ 64) (primitives ack)

-- the lines of acknowledgements, as many as `fold` takes, are read by `fold` as these, whatever the number of the first
-- line
abbrev pub ReadsAcksBack : Type 0
ReadsAcksBack =
    (acks : List Ack) (next : ℕ) → length acks ≤ most_acks → All IsOf64Bits acks
    → acks_of_lines next (parts_of LineFeed (ack_lines acks)) ≡ Ok acks
