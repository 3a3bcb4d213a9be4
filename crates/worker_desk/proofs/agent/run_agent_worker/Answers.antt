use Rattle.std.proofs.Common.{rules, arith}
use Rattle.worker_desk.proofs.AttendingLemmas.{flow-then, other-then}
use Rattle.worker_desk.proofs.agent.run_agent_worker.Goals as goal

pub loop-flow-preserved-then-flow-flows : goal.loop-flow-preserved-then-flow-flows
loop-flow-preserved-then-flow-flows g c = record {
  free = search rules;
  same = search rules;
  rest = λ end then. c.loop-flow.invariant.rest end
      (flow-then c.args.worker _ c.in-Some.flow _ _ _ end (omega (arith, c.in-Some.ensures.flows, c.flow_count-flows.ensures))
      c.in-Some.ensures.log c.answer_one.ensures.tends then);
}

pub loop-flow-preserved : goal.loop-flow-preserved
loop-flow-preserved g c = record {
  free = search rules;
  same = search rules;
  rest = λ end then. c.loop-flow.invariant.rest end
      (other-then c.args.worker _ c.in-Some.flow _ _ end (omega (arith, c.in-Some.ensures.flows, c.flow_count-flows.ensures))
      c.in-Some.ensures.log then);
}
