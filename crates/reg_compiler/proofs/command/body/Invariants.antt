use Rattle.std.proofs.Common.{◌≡◌, ◌≤◌, ◌++◌, IsTrue, map, drop}
use Rattle.portus_core.specs.Programs.{action_of}
use Rattle.reg_compiler.specs.Needs.{body_need}
use Rattle.reg_compiler.specs.Numbered.{is_numbered_body}
use Rattle.reg_compiler.specs.CompiledCode.{body_lines}
use Rattle.reg_compiler.proofs.command.body.Given as goal

abbrev pub invariant-loop-cmd : goal.invariant-loop-cmd
invariant-loop-cmd l = record {
  names : IsTrue (is_numbered_body (map action_of (drop l.cmd-index l.cmds)));
  fits : body_need (map action_of (drop l.cmd-index l.cmds)) ≤ 8;
  same : l.lines ++ body_lines (map action_of (drop l.cmd-index l.cmds)) ≡ l.initial.lines ++ body_lines (map action_of l.cmds);
}
