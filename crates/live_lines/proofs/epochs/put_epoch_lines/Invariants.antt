use Rattle.std.proofs.Common.{◌≡◌, ◌++◌, drop}
use Rattle.flow_core.specs.LiveText.{epoch_lines}
use Rattle.live_lines.proofs.epochs.put_epoch_lines.Given as goal

abbrev pub invariant-loop-number : goal.invariant-loop-number
invariant-loop-number l =
    l.text ++ epoch_lines l.number (drop l.number l.epochs) ≡ l.initial.text ++ epoch_lines 0 l.epochs
