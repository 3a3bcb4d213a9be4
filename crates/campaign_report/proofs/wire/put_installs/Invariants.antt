use Rattle.std.proofs.Common.{◌≡◌, ◌++◌, length}
use Rattle.campaign_report.specs.WireText.{wire_text}
use Rattle.campaign_report.proofs.wire.put_installs.Given as goal

abbrev pub invariant-loop-program : goal.invariant-loop-program
invariant-loop-program l = l.text ++ wire_text l.left ≡ l.initial.text ++ wire_text l.programs

abbrev pub decreases-loop-program : goal.decreases-loop-program
decreases-loop-program l = length l.left
