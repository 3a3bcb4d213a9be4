use Rattle.cubic_agent.proofs.LawLemmas.{grows}
use Rattle.cubic_agent.proofs.laws.growth_law.Goals as goal

pub returns : goal.returns
returns c = λ mss ss ca tolds report segment. grows mss segment ss ca tolds report
