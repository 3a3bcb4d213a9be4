use Rattle.std.proofs.Common.{List, length, subst, sym, rules}
use Rattle.std.proofs.lemmas.List.{with_items_is, places}
use Rattle.shared_link.specs.declared.flow_traffic.FlowTraffic.{FlowTraffic}
use Rattle.ccp_base.specs.Limits.{most_flight}
use Rattle.shared_link.specs.SharedRounds.{allowed, turns_of}
use Rattle.shared_link.specs.Kept.{AreReady, ArePrepared, Follows}
use Rattle.shared_link.proofs.flows.Flows.send_all.Goals as goal

pub returns-clause-ready : goal.returns-clause-ready
returns-clause-ready c =
    subst (λ (flows : List FlowTraffic). AreReady c.args.case.now c.send_turns.new.sending.rounds flows)
    (sym (with_items_is c.args.self.now.traffic c.send_turns.new.flows (search (rules, places)))) c.send_turns.ensures.ready

pub returns-clause-prepared : goal.returns-clause-prepared
returns-clause-prepared c =
    subst (λ (flows : List FlowTraffic). ArePrepared c.args.case.now c.send_turns.new.sending.now c.args.asks.now (length flows) flows)
    (sym (with_items_is c.args.self.now.traffic c.send_turns.new.flows (search (rules, places)))) c.send_turns.ensures.prepared

pub returns-clause-follows : goal.returns-clause-follows
returns-clause-follows c = λ sent givens follows.
    let case = c.args.case.now in
    let after = c.send_turns.new in
    let may = allowed case c.args.sending.now.now c.args.asks.now in
    let sent_by_all = turns_of case c.args.sending.now.now may givens most_flight sent in
    subst (λ (flows : List FlowTraffic). Follows case flows after.sending sent_by_all givens)
    (sym (with_items_is c.args.self.now.traffic after.flows (search (rules, places))))
    (c.send_turns.ensures.follows sent givens
    (subst (λ (flows : List FlowTraffic). Follows case flows c.args.sending.now sent givens) (sym c.as_mut_slice.ensures.value) follows))
