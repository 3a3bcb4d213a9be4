use Rattle.std.proofs.Common.{◌≡◌, IsTrue, map, drop}
use Rattle.portus_core.specs.Programs.{part_of}
use Rattle.portus_core.specs.Runnable.{are_runnable}
use Rattle.portus_core.specs.Blocks.{blocks_of}
use Rattle.portus_core.specs.Progress.{going_of, KeepsShape}
use Rattle.portus_core.proofs.blocks.blocks.Given as goal

abbrev pub invariant-loop-block : goal.invariant-loop-block
invariant-loop-block l = record {
  runnable : IsTrue (are_runnable (map part_of (drop l.block-index l.blocks)));
  same : blocks_of (map part_of (drop l.block-index l.blocks)) l.ack (going_of l.env l.progress) ≡ blocks_of (map part_of l.blocks) l.ack (going_of l.initial.env l.initial.progress);
  shape : KeepsShape l.initial.env l.env;
}
