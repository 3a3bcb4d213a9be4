use Rattle.std.proofs.Common.{◌≡◌, ◌++◌, length, map}
use Rattle.flow_core.specs.LiveText.{fault_lines}
use Rattle.source_flow.specs.SourceAccounts.{failure_of}
use Rattle.run_audit.proofs.lines.put_faults.Given as goal

abbrev pub invariant-loop-fault : goal.invariant-loop-fault
invariant-loop-fault l =
    l.text ++ fault_lines (map failure_of l.left) ≡ l.initial.text ++ fault_lines (map failure_of l.faults)

abbrev pub decreases-loop-fault : goal.decreases-loop-fault
decreases-loop-fault l = length l.left
