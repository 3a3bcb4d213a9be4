use Rattle.std.proofs.Common.{◌≡◌, ◌++◌, length}
use Rattle.live_install.specs.RolloutText.{fault_lines}
use Rattle.live_install.specs.BookText.{failures_in}
use Rattle.live_install.proofs.text.put_faults.Given as goal

abbrev pub invariant-loop-notice : goal.invariant-loop-notice
invariant-loop-notice l =
    l.text ++ fault_lines (failures_in l.entries l.left) ≡ l.initial.text ++ fault_lines (failures_in l.entries l.faults)

abbrev pub decreases-loop-notice : goal.decreases-loop-notice
decreases-loop-notice l = length l.left
