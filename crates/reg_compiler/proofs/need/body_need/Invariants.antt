use Rattle.std.proofs.Common.{◌≡◌, max, min, map, drop}
use Rattle.portus_core.specs.Programs.{action_of}
use Rattle.reg_compiler.specs.Needs.{body_need}
use Rattle.reg_compiler.proofs.need.body_need.Given as goal

abbrev pub invariant-loop-cmd : goal.invariant-loop-cmd
invariant-loop-cmd l = max l.greatest (min (body_need (map action_of (drop l.cmd-index l.cmds))) 9) ≡ min (body_need (map action_of l.cmds)) 9
