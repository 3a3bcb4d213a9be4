use Rattle.std.proofs.Common.{◌+◌, ◌≤◌, List, refl, ap, subst, sym, arith}
use Rattle.link_model.specs.declared.arrival.Arrival.{Arrival}
use Rattle.link_model.specs.Horizon.{ArriveWithin}
use Rattle.link_model.specs.LinkMoves.{flight_count}
use Rattle.link_model.proofs.HorizonLemmas.{length_le_count, count-push, ArriveWithin-push}
use Rattle.shared_link.specs.Kept.{horizon}
use Rattle.shared_link.proofs.TimeLemmas.{own_soon, own_not_before}
use Rattle.shared_link.proofs.flow_traffic.FlowTraffic.serve.Goals as goal

pub time_of-own-requires-clause-fits : goal.time_of-own-requires-clause-fits
time_of-own-requires-clause-fits c =
    let is = c.requires.sending in
    omega (arith, own_soon c.args.trace.now is.valid c.args.sending.now is c.requires.waiting, is.now)

pub overflow_add-arrival : goal.overflow_add-arrival
overflow_add-arrival c =
    let is = c.requires.sending in
    omega (arith, own_soon c.args.trace.now is.valid c.args.sending.now is c.requires.waiting, is.now, c.time_of-own.ensures.time, c.requires.link.delay_us)

pub put-requires : goal.put-requires
put-requires c =
    let old = c.args.self.now in
    omega (arith, length_le_count old.flight.items old.lost, c.requires.kept.count, c.requires.kept.places, c.requires.room)

pub returns-clause-kept : goal.returns-clause-kept
returns-clause-kept c =
    let old = c.args.self.now in
    let kept = c.requires.kept in
    let is = c.requires.sending in
    let last : Arrival = record { lost = old.lost; sent_at = c.args.sending.now.now; at = c.time_of-own.result + c.args.link.now.delay_us; marked = c.is_marked.result } in
    let soon = own_soon c.args.trace.now is.valid c.args.sending.now is c.requires.waiting in
    let not_before = own_not_before c.args.trace.now is.valid c.args.sending.now is c.requires.waiting in
    let within : last.at ≤ horizon = omega (arith, soon, is.now, c.time_of-own.ensures.time, c.requires.link.delay_us) in
    let order : last.sent_at ≤ last.at = omega (arith, not_before, c.time_of-own.ensures.time) in
    record {
      places = omega (arith, kept.places, c.put.ensures.capacity);
      count = omega (arith, kept.count, ap (λ xs. flight_count xs 0) c.put.ensures.items, count-push old.flight.items last old.lost refl);
      few = omega (arith, kept.allowance, c.requires.room);
      allowance = kept.allowance;
      passed = λ i below. omega (arith, kept.passed i below);
      arrivals = subst (λ (xs : List Arrival). ArriveWithin horizon xs) (sym c.put.ensures.items) (ArriveWithin-push horizon old.flight.items last kept.arrivals order within);
      time = kept.time;
      since = omega arith;
      sum = omega (arith, kept.sum);
    }
