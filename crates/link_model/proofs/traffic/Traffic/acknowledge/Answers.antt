use Rattle.std.proofs.Common.{◌≡◌, ◌≤◌, ◌+◌, ◌-◌, ℕ, List, slice_get, max, refl, ap, subst, sym, ◌∙◌, arith}
use Rattle.link_model.specs.declared.arrival.Arrival.{Arrival}
use Rattle.link_model.specs.Chances.{chance_number}
use Rattle.link_model.specs.Standing.{packet_ack}
use Rattle.link_model.specs.LinkMoves.{flight_count, ack_by}
use Rattle.link_model.specs.Rated.{rated}
use Rattle.link_model.specs.Rings.{arrivals_in}
use Rattle.link_model.specs.Lines.{AreQueued}
use Rattle.link_model.specs.Horizon.{horizon, ArriveWithin, ArriveInOrder}
use Rattle.link_model.proofs.HorizonLemmas.{ArriveWithin-more}
use Rattle.link_model.proofs.LineLemmas.{queued-first, queued-same}
use Rattle.link_model.proofs.traffic.Traffic.acknowledge.Goals as goal

pub returns-clause-kept : goal.returns-clause-kept
returns-clause-kept c =
    let case = c.args.case.now in
    let old = c.args.self.now in
    let kept = c.requires.kept in
    let first = c.take_first-arrival.result in
    let flight = c.take_first-arrival.new.self in
    let rest = arrivals_in flight in
    let all = c.take_first-arrival.ensures.first in
    let some = c.is_empty.ensures.some c.if-is_empty.false in
    let limit = horizon old.sent old.calls + case.delay_us in
    let count = ap (λ xs. flight_count xs old.lost) all in
    let within = subst (λ (xs : List Arrival). ArriveWithin limit xs) all kept.timely.arrivals in
    let order = subst (λ (xs : List Arrival). ArriveInOrder old.time (old.line.next.at + case.delay_us) xs) all kept.order in
    let later : limit ≤ horizon old.sent (old.calls + 1) = omega (arith, case.delay_within) in
    let chance = chance_number case.trace old.line.next.chance in
    let queued = subst (λ (xs : List Arrival). AreQueued case old.time chance (max old.line.gone old.flight.taken) old.flight.taken old.flight.put xs) all kept.line.queued in
    let from_is : max old.line.gone flight.taken ≡ max old.line.gone (old.flight.taken + 1) = omega (arith, c.take_first-arrival.ensures.taken) in
    record {
      valid = kept.valid;
      ring = c.take_first-arrival.ensures.ring;
      put = omega (arith, kept.put, c.take_first-arrival.ensures.put);
      line = record {
        next = kept.line.next;
        gone = omega (arith, kept.line.gone, c.take_first-arrival.ensures.put);
        queued = queued-same case first.at chance (max old.line.gone (old.flight.taken + 1)) (old.flight.taken + 1) old.flight.put chance (max old.line.gone flight.taken) flight.taken flight.put
            rest rest refl from_is c.take_first-arrival.ensures.taken c.take_first-arrival.ensures.put refl
            (queued-first case kept.valid old.time chance old.line.gone old.flight.taken old.flight.put first rest queued some order.0);
        free = kept.line.free;
      };
      order = order.2;
      count = omega (arith, kept.count, count);
      few = omega (arith, kept.few);
      passed = kept.passed;
      next_loss = kept.next_loss;
      timely = record {
        time = omega (arith, within.1, later);
        chances = λ k under. omega (arith, kept.timely.chances k under);
        arrivals = ArriveWithin-more limit (horizon old.sent (old.calls + 1) + case.delay_us) rest (omega (arith, later)) within.2;
      };
    }

-- the packet that leaves is the first one, and those that stay are counted
pub returns-clause-ack : goal.returns-clause-ack
returns-clause-ack c =
    let case = c.args.case.now in
    let old = c.args.self.now in
    let first = c.take_first-arrival.result in
    let rest = arrivals_in c.take_first-arrival.new.self in
    let all = c.take_first-arrival.ensures.first in
    let count = ap (λ xs. flight_count xs old.lost) all in
    let stay : old.in_flight - (first.lost + 1) ≡ flight_count rest old.lost = omega (arith, c.requires.kept.count, count) in
    c.arrival_ack.ensures
    ∙ ap (λ (n : ℕ). rated c.args.rates (packet_ack case first old.past n c.take_first-arrival.new.self.taken old.sent)) stay
    ∙ ap (λ (n : ℕ). rated c.args.rates (packet_ack case first old.past (flight_count rest old.lost) n old.sent)) c.take_first-arrival.ensures.taken
    ∙ sym (ap (λ (xs : List Arrival). rated c.args.rates (ack_by case (record { time = old.time; past = old.past; arrivals = xs; lost = old.lost; chance = chance_number case.trace old.line.next.chance; sent = old.sent; acked = old.flight.taken; calls = old.calls }) (slice_get xs 0))) all)
