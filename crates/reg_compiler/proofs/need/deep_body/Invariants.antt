use Rattle.std.proofs.Common.{◌≡◌, map, drop}
use Rattle.portus_core.specs.Programs.{action_of}
use Rattle.reg_compiler.specs.Needs.{deep_body}
use Rattle.reg_compiler.proofs.need.deep_body.Given as goal

abbrev pub invariant-loop-cmd : goal.invariant-loop-cmd
invariant-loop-cmd l = deep_body (map action_of (drop l.cmd-index l.cmds)) ≡ deep_body (map action_of l.cmds)
