use Rattle.std.proofs.Common.{◌≡◌, ◌++◌, drop}
use Rattle.live_install.specs.RolloutText.{change_lines}
use Rattle.live_install.proofs.entry_lines.put_changes.Given as goal

abbrev pub invariant-loop-number : goal.invariant-loop-number
invariant-loop-number l =
    l.text ++ change_lines l.number (drop l.number l.epochs) ≡ l.initial.text ++ change_lines 0 l.epochs
