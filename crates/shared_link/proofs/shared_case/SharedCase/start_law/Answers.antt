use Rattle.shared_link.specs.SharedRounds.{shared_run_of}
use Rattle.shared_link.proofs.StartLemmas.{waits_for_start, sent_from_start, may_send_at_once, over_link_time}
use Rattle.shared_link.proofs.shared_case.SharedCase.start_law.Goals as goal

pub returns-clause-waits : goal.returns-clause-waits
returns-clause-waits c = λ rounds asks flow. waits_for_start c.args.self.now asks (shared_run_of c.args.self.now rounds) flow

pub returns-clause-sent : goal.returns-clause-sent
returns-clause-sent c = λ rounds flow. sent_from_start c.args.self.now flow rounds

pub returns-clause-allowance : goal.returns-clause-allowance
returns-clause-allowance c = λ now asks flow. may_send_at_once c.args.self.now now asks flow

pub returns-clause-rates : goal.returns-clause-rates
returns-clause-rates c = over_link_time
