use Rattle.std.proofs.Common.{ap, ◌∙◌}
use Rattle.link_model.specs.declared.arrival.Arrival.{Arrival}
use Rattle.link_model.proofs.RingLemmas.{read-count}
use Rattle.link_model.proofs.flight.Flight.arrival_time.Goals as goal

pub returns : goal.returns
returns c =
    let flight = c.args.self.now in
    ap (λ (a : Arrival). a.at) (c.packet.ensures ∙ read-count flight.places.items flight.taken flight.put c.args.count c.requires.from c.requires.to)
