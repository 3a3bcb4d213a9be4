use Rattle.std.proofs.Common.{◌≡◌, map, drop}
use Rattle.portus_core.specs.Programs.{part_of}
use Rattle.reg_compiler.specs.Needs.{deep_parts}
use Rattle.reg_compiler.proofs.need.too_deep_place.Given as goal

abbrev pub invariant-loop-block : goal.invariant-loop-block
invariant-loop-block l = deep_parts (map part_of (drop l.block-index l.block-items)) ≡ deep_parts (map part_of l.block-items)
