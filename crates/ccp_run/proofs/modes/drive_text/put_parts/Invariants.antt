use Rattle.std.proofs.Common.{◌≡◌, ◌++◌, drop}
use Rattle.ccp_run.specs.Drive.{flow_parts}
use Rattle.ccp_run.proofs.modes.drive_text.put_parts.Given as goal

abbrev pub invariant-loop-flow : goal.invariant-loop-flow
invariant-loop-flow l =
    l.text ++ flow_parts l.programs (drop l.flow-index l.flows) ≡ l.initial.text ++ flow_parts l.programs l.flows
