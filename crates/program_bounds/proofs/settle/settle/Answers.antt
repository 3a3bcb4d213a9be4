use Rattle.std.proofs.Common.{◌⊎◌, inl, inr, List, subst}
use Rattle.portus_core.specs.ProgramForm.{form_of}
use Rattle.portus_core.specs.OneAcknowledgement.{answered}
use Rattle.range_cases.specs.declared.case.Case.{Case}
use Rattle.range_cases.specs.Cases.{IsAmong}
use Rattle.program_bounds.specs.Turns.{IsSettled}
use Rattle.program_bounds.proofs.SettleLemmas.{settle_step, among_none}
use Rattle.program_bounds.proofs.settle.settle.Goals as goal

pub loop-case-preserved : goal.loop-case-preserved
loop-case-preserved c = record {
  settled = λ ack going room among shape has.
      let out = answered (form_of c.args.program.now) going.asked room going.env in
      settle_step c.loop-case.report c.settle_case.new.report c.loop-case.next c.settle_case.new.next c.in-Some.case.now c.in-Some.rest.now ack going out.0 out.1
      c.settle_case.ensures.keeps c.settle_case.ensures.within (λ is. c.settle_case.ensures.settled ack going room is shape has)
      (subst (λ (xs : List Case). IsAmong xs ack going ⊎ IsSettled c.loop-case.report c.loop-case.next out) c.in-Some.ensures.cases.0 (c.loop-case.invariant.settled ack going room among shape has));
  within = λ env kept. c.settle_case.ensures.within env (c.loop-case.invariant.within env kept);
  keeps = λ fields cwnd rate shown. c.settle_case.ensures.keeps fields cwnd rate (c.loop-case.invariant.keeps fields cwnd rate shown);
}

pub returns-clause-settled : goal.returns-clause-settled
returns-clause-settled c ack going room among shape has =
    elim (c.loop-case.invariant.settled ack going room among shape has) [
      | inl later ↦ absurd (among_none c.loop-case.left.now ack going c.in_default.ensures.cases later)
      | inr done ↦ done
    ]
