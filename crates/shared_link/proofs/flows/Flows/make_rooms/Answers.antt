use Rattle.std.proofs.Common.{ℕ, ◌+◌, ◌≤◌, min, max, List, length, vec_capacity, subst, ap, sym, ◌∙◌, arith}
use Rattle.std.proofs.Math.Seq.{map-set_same}
use Rattle.std.proofs.lemmas.List.{length-set}
use Rattle.shared_link.specs.declared.flow_traffic.FlowTraffic.{FlowTraffic}
use Rattle.shared_link.specs.declared.shared_case.FlowLink.{FlowLink}
use Rattle.shared_link.specs.declared.round.Ask.{Ask}
use Rattle.shared_link.specs.SharedRounds.{flow_link_at, ask_at}
use Rattle.shared_link.specs.Kept.{flow_under_way, IsFlowKept, IsFlowReady}
use Rattle.shared_link.specs.KeptFlows.{ListsLacking}
use Rattle.shared_link.proofs.FlowsLemmas.{ready-set, prepared-set}
use Rattle.shared_link.proofs.flows.Flows.make_rooms.Goals as goal

pub returns-in_err-make_room-clause-same : goal.returns-in_err-make_room-clause-same
returns-in_err-make_room-clause-same c =
    map-set_same flow_under_way c.loop-flow.self.traffic.items c.loop-flow.flow c.make_room.new.self c.index_mut.result.now
    (c.make_room.ensures.standing ∙ ap flow_under_way c.index_mut.ensures.value)
    ∙ c.loop-flow.invariant.3

pub loop-flow-preserved : goal.loop-flow-preserved
loop-flow-preserved c =
    let case = c.args.case.now in
    let f = c.loop-flow.flow in
    let flows = c.loop-flow.self.traffic.items in
    let old = c.index_mut.result.now in
    let new = c.make_room.new.self in
    let rounds = c.args.rounds in
    let asks = c.args.asks.now in
    let within : f + 1 ≤ length flows = omega (arith, c.loop-flow-test.true, c.len.ensures) in
    let ready = subst (λ (x : FlowTraffic). IsFlowReady (flow_link_at case f) rounds x) (sym c.index_mut.ensures.value) (c.loop-flow.invariant.1.each f old (omega (arith, within))) in
    let room : min c.ask_of-left.result.left (max new.in_flight c.allowance_of-allowance.result) ≤ vec_capacity new.acks = c.in_ok-make_room.ensures.room in
    let asked : min (ask_at asks f).left (max new.in_flight c.allowance_of-allowance.result) ≤ vec_capacity new.acks = subst (λ (a : Ask). min a.left (max new.in_flight c.allowance_of-allowance.result) ≤ vec_capacity new.acks) c.ask_of-left.ensures room in
    let here : min (ask_at asks f).left (max new.in_flight new.allowance) ≤ vec_capacity new.acks = subst (λ (m : ℕ). min (ask_at asks f).left (max new.in_flight m) ≤ vec_capacity new.acks) (sym c.in_ok-make_room.ensures.allowance) asked in (
      omega (arith, within, length-set flows f new),
      ready-set case rounds flows f new (omega (arith, within)) c.loop-flow.invariant.1
          (record {
            kept = subst (λ (l : FlowLink). IsFlowKept l new) c.link_of.ensures c.make_room.ensures.kept;
            sent = omega (arith, ready.sent, c.make_room.ensures.sent, c.make_room.ensures.in_flight);
            acks = c.make_room.ensures.acks;
          }),
      prepared-set case c.args.now asks f (f + 1) flows f new (omega (arith, within)) within c.loop-flow.invariant.2 (λ flow under apart. omega (arith, under, apart))
          (record { allowance = c.in_ok-make_room.ensures.allowance ∙ c.allowance_of-allowance.ensures.value; room = here }),
      map-set_same flow_under_way flows f new old (c.make_room.ensures.standing ∙ ap flow_under_way c.index_mut.ensures.value) ∙ c.loop-flow.invariant.3,
    )

pub returns-clause-lacking : goal.returns-clause-lacking
returns-clause-lacking c =
    subst (λ (flows : List FlowTraffic). ListsLacking flows c.list_lacking.new.lacking.items) c.as_slice.ensures.value c.in_ok-list_lacking.ensures
