use Rattle.reno_agent.proofs.LawLemmas.{halves, answers_loss}
use Rattle.reno_agent.proofs.laws.loss_law.Goals as goal

pub returns-clause-cut : goal.returns-clause-cut
returns-clause-cut c = λ mss ss ca tolds report segment. halves mss segment ss ca tolds report

pub returns-clause-answered : goal.returns-clause-answered
returns-clause-answered c = λ mss ss ca tolds report segment. answers_loss mss segment ss ca tolds report
