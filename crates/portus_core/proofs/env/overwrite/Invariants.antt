use Rattle.std.proofs.Common.{◌≡◌, length, take}
use Rattle.portus_core.proofs.env.overwrite.Given as goal

abbrev pub invariant-loop-i : goal.invariant-loop-i
invariant-loop-i l = record {
  long : length l.numbers ≡ length l.others;
  same : take l.i l.numbers ≡ take l.i l.others;
}
