use Rattle.std.proofs.Common.{◌≡◌, ℕ, ◌<◌, ◌≤◌, take, slice_index}
use Rattle.worker_desk.specs.Serving.{flows_of_worker}
use Rattle.worker_desk.proofs.row.row_of.Given as goal

abbrev pub invariant-loop-flow : goal.invariant-loop-flow
invariant-loop-flow l = record {
  within : l.count ≤ l.flow;
  row : take l.count l.row ≡ flows_of_worker l.first l.workers l.flow;
  below : (k : ℕ) → k < l.count → slice_index l.row k < l.flow;
}
