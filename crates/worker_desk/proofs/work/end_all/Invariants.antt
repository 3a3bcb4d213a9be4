use Rattle.std.proofs.Common.{◌≡◌, ◌++◌, map, vec_len}
use Rattle.worker_desk.specs.Works.{duty_of}
use Rattle.worker_desk.proofs.work.end_all.Given as goal

abbrev pub invariant-loop-left : goal.invariant-loop-left
invariant-loop-left g l = l.all.items ++ map duty_of l.left.items ≡ map duty_of l.initial.left.items

abbrev pub decreases-loop-left : goal.decreases-loop-left
decreases-loop-left g l = vec_len l.left
