-- The flow numbers of a rollout's cases, as a table of flows requires them.
use Rattle.std.proofs.Common.{ℕ, ◌+◌, List, [], ◌∷◌}
use Rattle.scene_members.specs.declared.open_case.OpenCase.{OpenCase}
use Rattle.scene_members.specs.OpenCases.{AreOpenFlowsFrom}
use Rattle.flow_table.specs.NumberedCases.{AreNumbered}

pub open_flows_numbered : (flow : ℕ) (cases : List OpenCase) → AreOpenFlowsFrom flow cases
    → AreNumbered (λ (case : OpenCase). case.flow) flow cases
open_flows_numbered flow [] flows = flows
open_flows_numbered flow (case ∷ rest) flows = (flows.0, open_flows_numbered (flow + 1) rest flows.1)
