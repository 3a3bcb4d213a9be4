use Rattle.reno_agent.proofs.LawLemmas.{is_calm, once}
use Rattle.reno_agent.proofs.laws.calm_law.Goals as goal

pub returns-clause-calm : goal.returns-clause-calm
returns-clause-calm c = λ mss ss ca tolds report segment. is_calm mss segment ss ca tolds report

pub returns-clause-once : goal.returns-clause-once
returns-clause-once c = λ mss ss ca tolds segment. once mss segment ss ca tolds
