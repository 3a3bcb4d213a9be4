use Rattle.cubic_agent.proofs.LawLemmas.{bounded, sets_window}
use Rattle.cubic_agent.proofs.laws.windows_law.Goals as goal

pub returns-clause-agent : goal.returns-clause-agent
returns-clause-agent c = λ mss ss ca tolds segment. bounded mss segment ss ca tolds

pub returns-clause-replies : goal.returns-clause-replies
returns-clause-replies c = λ mss ss ca tolds next segment. sets_window mss segment ss ca tolds next
