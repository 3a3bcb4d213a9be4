use Rattle.std.proofs.Common.{◌≡◌, ◌+◌, ◌++◌, length, map}
use Rattle.open_flow.specs.Entries.{installed_of}
use Rattle.live_install.specs.RolloutText.{entry_lines}
use Rattle.live_install.proofs.entry_lines.put_entries.Given as goal

abbrev pub invariant-loop-at : goal.invariant-loop-at
invariant-loop-at l =
    (l.text ++ entry_lines l.step l.left_at (map installed_of l.left) ≡ l.initial.text ++ entry_lines 0 l.installed (map installed_of l.entries))
    × (l.step + length l.left_at ≡ length l.installed)

abbrev pub decreases-loop-at : goal.decreases-loop-at
decreases-loop-at l = length l.left_at
