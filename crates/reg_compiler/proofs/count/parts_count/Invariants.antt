use Rattle.std.proofs.Common.{◌≡◌, ◌+◌, ◌^◌, ◌<◌, map, drop}
use Rattle.portus_core.specs.Programs.{part_of}
use Rattle.reg_compiler.specs.Counts.{parts_count}
use Rattle.reg_compiler.specs.Refusal.{shown_count}
use Rattle.reg_compiler.proofs.count.parts_count.Given as goal

abbrev pub invariant-loop-block : goal.invariant-loop-block
invariant-loop-block l = record {
  within : l.total < 2 ^ 64;
  same : shown_count (l.total + parts_count (map part_of (drop l.block-index l.blocks))) ≡ shown_count (parts_count (map part_of l.blocks));
}
