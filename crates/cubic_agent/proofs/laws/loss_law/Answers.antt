use Rattle.cubic_agent.proofs.LawLemmas.{decreases, answers_loss}
use Rattle.cubic_agent.proofs.laws.loss_law.Goals as goal

pub returns-clause-cut : goal.returns-clause-cut
returns-clause-cut c = λ mss ss ca tolds report segment. decreases mss segment ss ca tolds report

pub returns-clause-answered : goal.returns-clause-answered
returns-clause-answered c = λ mss ss ca tolds report segment. answers_loss mss segment ss ca tolds report
