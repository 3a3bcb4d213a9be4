-- A table of a rollout's flows may be shared by threads.
use denote.Param.Send.{IsSend, sendable}
use Rattle.std.proofs.Crossing.{crosses}
use Rattle.open_flow.proofs.SendLemmas.{cell-send}
use Rattle.live_install.specs.contracts.rollout_flow.RolloutFlow as Flow

pub flow-send : IsSend Flow.the_row
flow-send = search (cell-send, crosses, sendable) depth 60 fits 20000
