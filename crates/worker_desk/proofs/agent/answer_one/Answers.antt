use Rattle.worker_desk.proofs.AttendingLemmas.{answered-then}
use Rattle.worker_desk.proofs.agent.answer_one.Goals as goal

pub returns-clause-tends : goal.returns-clause-tends
returns-clause-tends g c =
    answered-then c.args.worker c.args.flow c.in-Some.ticket c.answer.result _ _ _ _ _ c.answer.ensures
    c.in-Some.ensures.log c.pass.ensures.log c.settle.ensures.log c.pass-2.ensures.log
