use Rattle.worker_desk.proofs.AttendingLemmas.{settled-then}
use Rattle.worker_desk.proofs.agent.settle.Goals as goal

pub returns-clause-log : goal.returns-clause-log
returns-clause-log g c = settled-then c.args.flow c.args.answer _ _ _ _ c.lock.ensures.log c.settle.ensures.log c.unlock.ensures.log
