use Rattle.std.proofs.Common.{◌≡◌, ◌≤◌, ◌++◌, IsTrue, map, drop, length}
use Rattle.portus_core.specs.Programs.{part_of}
use Rattle.reg_compiler.specs.Needs.{parts_need}
use Rattle.reg_compiler.specs.Numbered.{are_numbered}
use Rattle.reg_compiler.specs.CompiledCode.{lines_of, event_of}
use Rattle.reg_compiler.proofs.block.blocks.Given as goal

abbrev pub invariant-loop-item : goal.invariant-loop-item
invariant-loop-item l = record {
  names : IsTrue (are_numbered (map part_of (drop l.item-index l.blocks)));
  fits : parts_need (map part_of (drop l.item-index l.blocks)) ≤ 8;
  size : length (lines_of (map part_of (drop l.item-index l.blocks))) ≤ 256;
  events : l.events ++ map event_of (map part_of (drop l.item-index l.blocks)) ≡ l.initial.events ++ map event_of (map part_of l.blocks);
  lines : l.lines ++ lines_of (map part_of (drop l.item-index l.blocks)) ≡ l.initial.lines ++ lines_of (map part_of l.blocks);
}
