-- A flow that keeps of its history the acknowledgements alone.
use Rattle.std.specs.Prelude.{List}
use Rattle.ccp_base.specs.declared.ack.Ack.{Ack}
use Rattle.flow_core.specs.Cores.{CoreState}
use Rattle.campaign_core.specs.declared.given_flow.BareFlow.{BareFlow}
use Rattle.campaign_core.specs.GivenFlows.{bare_flow_at}

pub record ListedState : Type 0 where
  pub flow : BareFlow
  pub acks : List Ack

-- after a history
abbrev pub listed_flow_at : CoreState → ListedState
listed_flow_at core = record { flow = bare_flow_at core; acks = core.acks }
