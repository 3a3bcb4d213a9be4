use Rattle.std.proofs.Common.{◌≡◌, map, length}
use Rattle.worker_desk.specs.Works.{duty_of, duties}
use Rattle.flow_table.specs.Duties.{duty}
use Rattle.flow_table.proofs.serving.begin_serving.Given as goal

abbrev pub invariant-loop-worker : goal.invariant-loop-worker
invariant-loop-worker g l = map duty_of l.works.items ≡ duties (duty l.datapaths.count (length l.table)) l.worker
