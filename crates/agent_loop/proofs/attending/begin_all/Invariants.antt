use Rattle.std.proofs.Common.{◌≡◌, map, length}
use Rattle.agent_loop.specs.Crews.{agent_duty_of, agent_duties}
use Rattle.agent_loop.proofs.attending.begin_all.Given as goal

abbrev pub invariant-loop-agent : goal.invariant-loop-agent
invariant-loop-agent g l =
    map (agent_duty_of (length l.table)) l.attendings.items ≡ agent_duties l.fn.workers.datapaths.count (length l.table) l.agent
