use Rattle.std.proofs.Common.{◌≡◌, ◌+◌, ◌^◌, ◌<◌, map, drop}
use Rattle.portus_core.specs.Programs.{action_of}
use Rattle.reg_compiler.specs.Counts.{body_count}
use Rattle.reg_compiler.specs.Refusal.{shown_count}
use Rattle.reg_compiler.proofs.count.body_count.Given as goal

abbrev pub invariant-loop-cmd : goal.invariant-loop-cmd
invariant-loop-cmd l = record {
  within : l.total < 2 ^ 64;
  same : shown_count (l.total + body_count (map action_of (drop l.cmd-index l.cmds))) ≡ shown_count (body_count (map action_of l.cmds));
}
