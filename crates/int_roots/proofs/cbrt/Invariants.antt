-- The root lies from k on, in a stretch that is as long as the bits that are left can distinguish.
use Rattle.std.proofs.Common.{◌+◌, ◌*◌, ◌^◌, ◌<◌, ◌≤◌}
use Rattle.int_roots.proofs.cbrt.Given as goal

abbrev pub invariant-loop-bit : goal.invariant-loop-bit
invariant-loop-bit l = record {
  within : l.k * l.k * l.k ≤ l.n;
  below : l.n < (l.k + 2 ^ l.bit) * (l.k + 2 ^ l.bit) * (l.k + 2 ^ l.bit);
  fits : l.k + 2 ^ l.bit ≤ 2 ^ 32;
}
