use Rattle.std.proofs.Common.{◌≡◌, IsTrue, map, drop}
use Rattle.portus_core.specs.Programs.{action_of}
use Rattle.portus_core.specs.Runnable.{is_runnable_body}
use Rattle.portus_core.specs.Command.{run_commands}
use Rattle.portus_core.specs.Progress.{going_of, KeepsShape}
use Rattle.portus_core.proofs.blocks.body.Given as goal

abbrev pub invariant-loop-cmd : goal.invariant-loop-cmd
invariant-loop-cmd l = record {
  runnable : IsTrue (is_runnable_body (map action_of (drop l.cmd-index l.cmds)));
  same : run_commands (map action_of (drop l.cmd-index l.cmds)) l.ack (going_of l.env l.progress) ≡ run_commands (map action_of l.cmds) l.ack (going_of l.initial.env l.initial.progress);
  shape : KeepsShape l.initial.env l.env;
}
