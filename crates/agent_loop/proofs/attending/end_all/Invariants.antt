use Rattle.std.proofs.Common.{◌≡◌, ◌++◌, map, length, vec_len}
use Rattle.agent_loop.specs.Crews.{agent_duty_of}
use Rattle.agent_loop.proofs.attending.end_all.Given as goal

abbrev pub invariant-loop-alloc : goal.invariant-loop-alloc
invariant-loop-alloc g l =
    l.all.items ++ map (agent_duty_of (length l.table)) l.left.items ≡ map (agent_duty_of (length l.table)) l.initial.left.items

abbrev pub decreases-loop-alloc : goal.decreases-loop-alloc
decreases-loop-alloc g l = vec_len l.left
