use Rattle.std.proofs.Common.{◌≡◌, max, min, map, drop}
use Rattle.portus_core.specs.Programs.{part_of}
use Rattle.reg_compiler.specs.Needs.{parts_need}
use Rattle.reg_compiler.proofs.need.parts_need.Given as goal

abbrev pub invariant-loop-block : goal.invariant-loop-block
invariant-loop-block l = max l.greatest (min (parts_need (map part_of (drop l.block-index l.blocks))) 9) ≡ min (parts_need (map part_of l.blocks)) 9
