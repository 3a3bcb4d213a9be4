use Rattle.std.proofs.Common.{◌≡◌, ◌++◌, drop}
use Rattle.reg_code.specs.ListingText.{start_lines}
use Rattle.reg_code.proofs.text.put_starts.Given as goal

abbrev pub invariant-loop-i : goal.invariant-loop-i
invariant-loop-i l = l.text ++ start_lines l.class l.i (drop l.i l.starts) ≡ l.initial.text ++ start_lines l.class 0 l.starts
