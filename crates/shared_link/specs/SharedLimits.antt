-- The limits of a link that several flows share.
use Rattle.std.specs.Prelude.{◌≤◌, length}
use Rattle.std.specs.List.{All}
use Rattle.std.specs.Option.{ForSome}
use Rattle.std.specs.List.Sorted.{IsStrictlyIncreasing}
use Rattle.ccp_base.specs.Limits.{most_flows, most_segment_bytes, most_queue, most_mark, most_delay_us, most_timeout_us, most_quantum_us}
use Rattle.shared_link.specs.declared.shared_case.FlowLink.{FlowLink}
use Rattle.shared_link.specs.declared.shared_case.SharedCase.{SharedCase}

-- what a flow has of its own is within the limits
pub record IsFlowWithin (flow : FlowLink) : Type 0 where
  pub mss : (1 ≤ flow.mss) × (flow.mss ≤ most_segment_bytes)
  pub delay_us : flow.delay_us ≤ most_delay_us
  pub timeout_us : (1 ≤ flow.timeout_us) × (flow.timeout_us ≤ most_timeout_us)
  pub losses : IsStrictlyIncreasing flow.losses
  pub mark : ForSome flow.mark (λ m. (1 ≤ m) × (m ≤ most_mark))

-- the link and its flows are within the limits
pub record IsWithin (case : SharedCase) : Type 0 where
  pub few : length case.flows ≤ most_flows
  pub flows : All IsFlowWithin case.flows
  pub queue : (1 ≤ case.queue) × (case.queue ≤ most_queue)
  pub quantum_us : (1 ≤ case.quantum_us) × (case.quantum_us ≤ most_quantum_us)
