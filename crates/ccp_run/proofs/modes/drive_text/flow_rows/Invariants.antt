use Rattle.std.proofs.Common.{◌≡◌, ◌++◌, drop, map}
use Rattle.ccp_run.specs.Drive.{flow_row}
use Rattle.ccp_run.proofs.modes.drive_text.flow_rows.Given as goal

abbrev pub invariant-loop-flow : goal.invariant-loop-flow
invariant-loop-flow l =
    l.rows ++ map (flow_row l.programs) (drop l.flow-index l.flows) ≡ map (flow_row l.programs) l.flows
