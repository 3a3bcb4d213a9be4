use Rattle.std.proofs.Common.{◌≤◌, ◌<◌, cond, ltb-true, ltb-false, min, max, vec_capacity, length, set, get_or, subst, ap, sym, ◌∙◌, arith, rules, get_or-set_other, get_or-set_same}
use Rattle.std.proofs.lemmas.List.{length-set}
use Rattle.shared_link.specs.declared.flow_traffic.FlowTraffic.{FlowTraffic}
use Rattle.shared_link.specs.declared.shared_case.FlowLink.{FlowLink}
use Rattle.link_model.specs.Link.{chance_past}
use Rattle.link_model.specs.Chances.{chance_number}
use Rattle.shared_link.specs.SharedRounds.{ask_at, with_packet}
use Rattle.shared_link.specs.Kept.{flow_under_way, with_one, fate_now, IsFlowKept, AreReady, ArePrepared, Follows}
use Rattle.shared_link.specs.KeptFlows.{MaySend, HasEnough}
use Rattle.shared_link.proofs.FlowsLemmas.{ready-set, prepared-set, follows-sent}
use Rattle.shared_link.proofs.LackingLemmas.{may_send-lacks}
use Rattle.shared_link.proofs.flows.send_one.Goals as goal

pub send-requires-clause-kept : goal.send-requires-clause-kept
send-requires-clause-kept c =
    let case = c.args.case.now in
    let f = c.args.flow in
    let old = get_or c.args.flows.now f c.index-flows-flow.result in
    let ready = c.requires.ready.each f c.index-flows-flow.result c.requires.flow in
    subst (λ (l : FlowLink). IsFlowKept l old) (sym c.link_of.ensures) ready.kept

pub send-requires-clause-sent : goal.send-requires-clause-sent
send-requires-clause-sent c =
    let case = c.args.case.now in
    let f = c.args.flow in
    let old = get_or c.args.flows.now f c.index-flows-flow.result in
    let ready = c.requires.ready.each f c.index-flows-flow.result c.requires.flow in
    let sent = ready.sent in
    let few = ready.kept.few in
    omega (arith, sent, few, c.requires.sending.rounds)

pub send-requires-clause-room : goal.send-requires-clause-room
send-requires-clause-room c = c.requires.lacks c.index-flows-flow.result

pub returns-clause-ready : goal.returns-clause-ready
returns-clause-ready c =
    let case = c.args.case.now in
    let f = c.args.flow in
    let old = get_or c.args.flows.now f c.index-flows-flow.result in
    let new = c.send.new.self in
    let rounds = c.args.sending.now.rounds in
    let ready = c.requires.ready.each f c.index-flows-flow.result c.requires.flow in
    let flows = c.args.flows.now in
    subst (λ n. AreReady case n (set flows f new)) (sym c.send.ensures.rounds)
    (ready-set case rounds flows f new c.requires.flow c.requires.ready
    (record {
      kept = subst (λ (l : FlowLink). IsFlowKept l new) c.link_of.ensures c.send.ensures.kept;
      sent = omega (arith, ready.sent, c.send.ensures.sent, c.send.ensures.in_flight);
      acks = ap (λ v. v.items) c.send.ensures.acks ∙ ready.acks;
    }))

pub returns-clause-prepared : goal.returns-clause-prepared
returns-clause-prepared c =
    let case = c.args.case.now in
    let f = c.args.flow in
    let flows = c.args.flows.now in
    let old = get_or c.args.flows.now f c.index-flows-flow.result in
    let new = c.send.new.self in
    let asks = c.args.asks.now in
    let count = length-set flows f new in
    let below : old.in_flight < old.allowance = c.requires.lacks c.index-flows-flow.result in
    let now = c.args.sending.now.now in
    let kept = c.requires.prepared f c.index-flows-flow.result c.requires.flow in
    let room : min (ask_at asks f).left (max old.in_flight old.allowance) ≤ vec_capacity old.acks = kept.room in
    let here : min (ask_at asks f).left (max new.in_flight new.allowance) ≤ vec_capacity new.acks = omega (arith, room, below, c.send.ensures.allowance, c.send.ensures.in_flight, ap vec_capacity c.send.ensures.acks) in
    subst (λ n. ArePrepared case n asks (length (set flows f new)) (set flows f new)) (sym c.send.ensures.now)
    (prepared-set case now asks (length flows) (length (set flows f new)) flows f new c.requires.flow (omega (arith, count)) c.requires.prepared (λ flow under apart. omega (arith, under, count))
    (record { allowance = c.send.ensures.allowance ∙ kept.allowance; room = here }))

pub returns-clause-count : goal.returns-clause-count
returns-clause-count c = length-set c.args.flows.now c.args.flow c.send.new.self

pub returns-clause-others : goal.returns-clause-others
returns-clause-others c = λ at other apart. get_or-set_other c.args.flows.now c.args.flow at c.send.new.self other apart

pub returns-clause-follows : goal.returns-clause-follows
returns-clause-follows c = λ sent givens follows.
    let case = c.args.case.now in
    let f = c.args.flow in
    let flows = c.args.flows.now in
    let old = get_or c.args.flows.now f c.index-flows-flow.result in
    let new = c.send.new.self in
    let before = c.args.sending.now in
    let after = c.send.new.sending in
    let link = c.link_of.ensures in
    let standing = c.send.ensures.standing ∙ ap (λ (l : FlowLink). with_one case.trace l.delay_us before.now (fate_now case.trace l case.queue old.sent before) (flow_under_way old)) link in
    let chance = c.send.ensures.chance ∙ ap (λ (l : FlowLink). chance_past (fate_now case.trace l case.queue old.sent before) (chance_number case.trace before.next)) link in
    let lacks = may_send-lacks case before.rounds before.now c.args.asks.now flows c.requires.ready c.requires.prepared sent givens follows.traffic f c.requires.flow c.requires.lacks in
    subst (λ b. Follows case (set flows f new) after (cond b (with_packet case before.now f sent) sent) givens) (sym lacks)
    (follows-sent case c.requires.sending.valid flows before sent givens follows c.requires.sending f c.requires.flow old (ap (get_or flows f) c.index-flows-flow.is) new after c.send.ensures.now standing chance)

pub returns-clause-more : goal.returns-clause-more
returns-clause-more c = λ is other.
    let new = c.send.new.self in
    let may : new.in_flight < new.allowance = ltb-true new.in_flight new.allowance (search rules) in
    subst (λ (t : FlowTraffic). MaySend t) (sym (get_or-set_same c.args.flows.now c.args.flow new other c.requires.flow)) may

pub returns-clause-enough : goal.returns-clause-enough
returns-clause-enough c = λ is other.
    let new = c.send.new.self in
    let enough : new.allowance ≤ new.in_flight = ltb-false new.in_flight new.allowance (search rules) in
    subst (λ (t : FlowTraffic). HasEnough t) (sym (get_or-set_same c.args.flows.now c.args.flow new other c.requires.flow)) enough
