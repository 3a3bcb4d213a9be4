use Rattle.std.proofs.Common.{◌≡◌, ◌≤◌, ◌+◌, ◌-◌, ◌∷◌, [], ◌++◌, List, max, refl, ap, subst, sym, arith}
use Rattle.link_model.specs.declared.arrival.Arrival.{Arrival}
use Rattle.link_model.specs.Chances.{chance_number, chance_time}
use Rattle.link_model.specs.Link.{is_marked, arrival_of}
use Rattle.link_model.specs.Standing.{Standing}
use Rattle.link_model.specs.LinkMoves.{flight_count, standing_in, waiting_now}
use Rattle.link_model.specs.Rings.{arrivals_in}
use Rattle.link_model.specs.Horizon.{ArriveInOrder, IsTimely}
use Rattle.link_model.proofs.HorizonLemmas.{length_le_count, count-push, now_soon, is_timely-served, ArriveInOrder-push}
use Rattle.link_model.proofs.RingLemmas.{length-read}
use Rattle.link_model.proofs.LineLemmas.{queued-push, queued-same}
use Rattle.link_model.proofs.SendingLemmas.{served_standing}
use Rattle.link_model.proofs.traffic.Traffic.serve.Goals as goal

pub overflow_add-arrival : goal.overflow_add-arrival
overflow_add-arrival c =
    let case = c.args.case.now in
    let same = ap (chance_time case.trace) c.advance_to.ensures.next in
    omega (arith, c.advance_to.ensures.line.next.at, same, case.delay_within, now_soon case c.requires.kept.valid (standing_in case.trace c.args.self.now) c.requires.kept.timely, c.requires.sent, c.requires.calls)

pub push-requires-clause-room : goal.push-requires-clause-room
push-requires-clause-room c =
    let old = c.args.self.now in
    omega (arith, length_le_count (arrivals_in old.flight) old.lost, c.requires.kept.count, c.requires.room)

pub take_chance-requires-clause-time : goal.take_chance-requires-clause-time
take_chance-requires-clause-time c =
    let case = c.args.case.now in
    let same = ap (chance_time case.trace) c.advance_to.ensures.next in
    omega (arith, c.advance_to.ensures.line.next.at, same, now_soon case c.requires.kept.valid (standing_in case.trace c.args.self.now) c.requires.kept.timely, c.requires.sent, c.requires.calls)

pub returns-clause-standing : goal.returns-clause-standing
returns-clause-standing c =
    let case = c.args.case.now in
    let old = c.args.self.now in
    let own = c.advance_to.new.self.next in
    served_standing case (standing_in case.trace old) own c.args.marked (arrivals_in c.push.new.self) (chance_number case.trace c.take_chance.new.self.next.chance) c.push.new.self.taken
    c.advance_to.ensures.line.next.at c.advance_to.ensures.next c.requires.mark c.push.ensures.arrivals c.take_chance.ensures.number c.push.ensures.taken

pub returns-clause-kept : goal.returns-clause-kept
returns-clause-kept c =
    let case = c.args.case.now in
    let old = c.args.self.now in
    let kept = c.requires.kept in
    let line = c.advance_to.new.self in
    let before = c.advance_to.ensures.line in
    let after = c.take_chance.new.self in
    let flight = c.push.new.self in
    let standing = standing_in case.trace old in
    let chance = chance_number case.trace line.next.chance in
    let from = max line.gone old.flight.taken in
    let last : Arrival = record { lost = old.lost; sent_at = old.time; at = line.next.at + case.delay_us; marked = c.args.marked } in
    let same = served_standing case standing line.next c.args.marked (arrivals_in flight) (chance_number case.trace after.next.chance) flight.taken
    before.next.at c.advance_to.ensures.next c.requires.mark c.push.ensures.arrivals c.take_chance.ensures.number c.push.ensures.taken in
    let own : last.at ≡ arrival_of case chance = ap (λ t. t + case.delay_us) before.next.at in
    let left : old.flight.taken ≤ from = omega arith in
    let within : from ≤ old.flight.put = omega (arith, before.gone, kept.ring.order) in
    let from_is : max after.gone flight.taken ≡ from = omega (arith, c.take_chance.ensures.gone, c.push.ensures.taken) in
    let queued = queued-push case kept.valid old.time chance from old.flight.taken old.flight.put (arrivals_in old.flight) before.queued last left within
    (length-read old.flight.places.items old.flight.taken (old.flight.put - old.flight.taken)) own in
    let limit = after.next.at + case.delay_us in
    let order = ArriveInOrder-push old.time (old.line.next.at + case.delay_us) limit (arrivals_in old.flight) last kept.order
    (omega (arith, c.advance_to.ensures.late)) (omega (arith, c.advance_to.ensures.order)) (omega (arith, c.take_chance.ensures.order)) in
    record {
      valid = kept.valid;
      ring = c.push.ensures.ring;
      put = omega (arith, kept.put, c.push.ensures.put);
      line = record {
        next = c.take_chance.ensures.next;
        gone = omega (arith, before.gone, c.take_chance.ensures.gone, c.push.ensures.put);
        queued = queued-same case old.time (chance + 1) from old.flight.taken (old.flight.put + 1) (chance_number case.trace after.next.chance) (max after.gone flight.taken) flight.taken flight.put
            (arrivals_in old.flight ++ last ∷ []) (arrivals_in flight) c.take_chance.ensures.number from_is c.push.ensures.taken c.push.ensures.put c.push.ensures.arrivals queued;
        free = omega (arith, before.free, c.take_chance.ensures.gone, c.take_chance.ensures.free);
      };
      order = subst (λ (xs : List Arrival). ArriveInOrder old.time limit xs) (sym c.push.ensures.arrivals) order;
      count = omega (arith, kept.count, ap (λ xs. flight_count xs 0) c.push.ensures.arrivals, count-push (arrivals_in old.flight) last old.lost refl);
      few = c.requires.room;
      passed = λ i below. omega (arith, kept.passed i below);
      next_loss = kept.next_loss;
      timely = subst (λ (s : Standing). IsTimely case s) (sym same) (is_timely-served case kept.valid standing kept.timely (is_marked case.mark (waiting_now case standing)));
    }
