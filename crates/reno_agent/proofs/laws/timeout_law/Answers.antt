use Rattle.reno_agent.proofs.LawLemmas.{restarts, answers_timeout}
use Rattle.reno_agent.proofs.laws.timeout_law.Goals as goal

pub returns-clause-restart : goal.returns-clause-restart
returns-clause-restart c = λ mss ss ca tolds report segment. restarts mss segment ss ca tolds report

pub returns-clause-answered : goal.returns-clause-answered
returns-clause-answered c = λ mss ss ca tolds report segment. answers_timeout mss segment ss ca tolds report
