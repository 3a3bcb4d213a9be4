use Rattle.std.proofs.Common.{◌≡◌, ◌++◌, drop}
use Rattle.ccp_run.specs.DriveTexts.{acks_from}
use Rattle.ccp_run.proofs.modes.drive_text.put_acks.Given as goal

abbrev pub invariant-loop-flow : goal.invariant-loop-flow
invariant-loop-flow l =
    (l.number ≡ l.flow-index)
    × (l.text ++ acks_from l.number l.programs (drop l.flow-index l.flows) ≡ l.initial.text ++ acks_from 0 l.programs l.flows)
