use Rattle.driven_flow.proofs.AgentLemmas.{agent-flow}
use Rattle.driven_flow.proofs.driven.DrivenFlow.agent_law.Goals as goal

pub returns : goal.returns
returns c = agent-flow c.args.self.now c.args.case.now
