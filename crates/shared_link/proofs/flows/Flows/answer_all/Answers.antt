use Rattle.std.proofs.Common.{◌≡◌, ◌≢◌, ℕ, ◌+◌, ◌<◌, ◌≤◌, List, [], ◌∷◌, length, get_or, vec_capacity, subst, ap, sym, ◌∙◌, arith, inl, inr}
use Rattle.std.proofs.lemmas.Bool.{cases_lt}
use Rattle.std.proofs.Common.{length-append}
use Rattle.ccp_base.specs.declared.ack.Ack.{Ack}
use Rattle.shared_link.specs.declared.flow_traffic.FlowTraffic.{FlowTraffic}
use Rattle.shared_link.specs.SharedRounds.{flow_link_at}
use Rattle.shared_link.specs.Kept.{IsFlowReady, most_answers, AnsweredTo}
use Rattle.shared_link.proofs.FlowsLemmas.{answered-more}
use Rattle.shared_link.proofs.flows.Flows.answer_all.Goals as goal

pub answer_one-acks-requires-clause-room : goal.answer_one-acks-requires-clause-room
answer_one-acks-requires-clause-room c = λ other.
    let f = c.loop-flow.flow in
    let asks = c.args.asks.now in
    let inv = c.loop-flow.invariant in
    let within : f < length c.loop-flow.self.traffic.items = omega (arith, c.loop-flow-test.true, c.len.ensures) in
    subst (λ (t : FlowTraffic). most_answers asks f t ≤ vec_capacity t.acks) (sym (inv.5 f other (omega arith) within))
    (c.requires.room f (omega (arith, within, inv.1)) other)

pub loop-flow-preserved : goal.loop-flow-preserved
loop-flow-preserved c =
    let case = c.args.case.now in
    let f = c.loop-flow.flow in
    let flows = c.loop-flow.self.traffic.items in
    let after = c.answer_one-acks.new.self.traffic.items in
    let given = c.answer_one-acks.ensures in
    let within : f < length flows = omega (arith, c.loop-flow-test.true, c.len.ensures) in
    let inv = c.loop-flow.invariant in (
      omega (arith, within, given.count),
      given.count ∙ inv.1,
      ap length c.push_reserved.ensures.items ∙ length-append c.loop-flow.answers.items (c.answer_one-acks.result ∷ []) ∙ ap (λ n. n + 1) inv.2,
      c.push_reserved.ensures.capacity ∙ inv.3,
      λ flow other below.
          elim (cases_lt flow f) as (λ _. IsFlowReady (flow_link_at case flow) (c.args.rounds + 1) (get_or after flow other)) [
            | inl before ↦
                (let apart : flow ≢ f = omega arith in
                subst (λ (t : FlowTraffic). IsFlowReady (flow_link_at case flow) (c.args.rounds + 1) t) (sym (given.others flow other apart)) (inv.4 flow other before))
            | inr not_before ↦
                (let same : f ≡ flow = omega arith in
                subst (λ (k : ℕ). IsFlowReady (flow_link_at case k) (c.args.rounds + 1) (get_or after k other)) same (given.ready other))
          ],
      λ flow other above inside. (let apart : flow ≢ f = omega arith in given.others flow other apart ∙ inv.5 flow other (omega arith) (omega (arith, inside, given.count))),
      λ now sent givens settled follows.
          subst (λ (xs : List (List Ack)). AnsweredTo case c.args.asks.now c.args.end after xs (f + 1) sent givens) (sym c.push_reserved.ensures.items)
          (answered-more case c.requires.valid c.args.asks.now c.args.end now flows after f within c.loop-flow.answers.items c.answer_one-acks.result given.count given.others given.answered sent givens settled (inv.6 now sent givens settled follows)),
    )

pub returns-clause-answered : goal.returns-clause-answered
returns-clause-answered c = λ now sent givens settled follows.
    let case = c.args.case.now in
    let all : c.loop-flow.flow ≡ length c.loop-flow.self.traffic.items = omega (arith, c.loop-flow-test.false, c.len.ensures, c.loop-flow.invariant.0) in
    subst (λ k. AnsweredTo case c.args.asks.now c.args.end c.loop-flow.self.traffic.items c.loop-flow.answers.items k sent givens) all (c.loop-flow.invariant.6 now sent givens settled follows)
