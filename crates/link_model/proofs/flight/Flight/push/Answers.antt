use Rattle.std.proofs.Common.{◌≡◌, ◌<◌, ◌≤◌, ◌+◌, ◌-◌, ◌%◌, length, ◌∙◌, ap, length-set, arith}
use Rattle.ccp_base.specs.Limits.{most_flight}
use Rattle.link_model.specs.Rings.{read_from}
use Rattle.link_model.proofs.RingLemmas.{length-read, push-read, grow-read, place_below, full_from}
use Rattle.link_model.proofs.flight.Flight.push.Goals as goal

pub returns-then-place-len-clause-ring : goal.returns-then-place-len-clause-ring
returns-then-place-len-clause-ring c =
    let old = c.args.self.now in
    let long = length-read old.places.items old.taken (old.put - old.taken) in
    let within : old.put % most_flight < length old.places.items = omega (arith, c.if-place-len.true, c.len.ensures, old.places.ok.0) in
    let full : most_flight ≤ old.put = full_from old.put (length old.places.items) within c.requires.ring.places in
    record {
      capacity = c.requires.ring.capacity;
      places = length-set old.places.items (old.put % most_flight) c.args.arrival ∙ omega (arith, c.requires.ring.places, full);
      order = omega (arith, c.requires.ring.order);
      room = omega (arith, long, c.requires.room, c.requires.ring.order);
    }

pub returns-then-place-len-clause-arrivals : goal.returns-then-place-len-clause-arrivals
returns-then-place-len-clause-arrivals c =
    let old = c.args.self.now in
    let long = length-read old.places.items old.taken (old.put - old.taken) in
    let within : old.put % most_flight < length old.places.items = omega (arith, c.if-place-len.true, c.len.ensures, old.places.ok.0) in
    push-read old.places.items c.args.arrival old.taken old.put within c.requires.ring.order (omega (arith, long, c.requires.room, c.requires.ring.order))

pub returns-clause-arrivals : goal.returns-clause-arrivals
returns-clause-arrivals c =
    let old = c.args.self.now in
    let under : old.put < most_flight = omega (arith, c.if-place-len.false, c.len.ensures, old.places.ok.0, c.requires.ring.places, place_below old.put) in
    let long : length old.places.items ≡ old.put = omega (arith, c.requires.ring.places, under) in
    ap (λ xs. read_from xs old.taken (old.put + 1 - old.taken)) c.push_reserved.ensures.items
    ∙ grow-read old.places.items c.args.arrival old.taken old.put long c.requires.ring.order under
