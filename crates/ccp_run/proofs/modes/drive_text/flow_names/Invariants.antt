use Rattle.std.proofs.Common.{◌≡◌, ◌++◌, drop}
use Rattle.ccp_run.specs.Drive.{flow_names}
use Rattle.ccp_run.proofs.modes.drive_text.flow_names.Given as goal

abbrev pub invariant-loop-flow : goal.invariant-loop-flow
invariant-loop-flow l = l.names ++ flow_names (drop l.flow-index l.flows) ≡ flow_names l.flows
