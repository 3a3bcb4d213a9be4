use Rattle.std.proofs.Common.{◌≡◌, ◌++◌, length, take, drop}
use Rattle.portus_core.specs.OneAcknowledgement.{reset}
use Rattle.portus_core.proofs.mean.reset.Given as goal

abbrev pub invariant-loop-i : goal.invariant-loop-i
invariant-loop-i l = record {
  long : length l.values ≡ length l.decls;
  same : take l.i l.values ++ reset (drop l.i l.decls) (drop l.i l.values) ≡ reset l.decls l.initial.values;
}
