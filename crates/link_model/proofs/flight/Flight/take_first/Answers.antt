use Rattle.std.proofs.Common.{◌∷◌, ◌+◌, ◌-◌, ap, sym, ◌∙◌}
use Rattle.link_model.specs.declared.arrival.Arrival.{Arrival}
use Rattle.link_model.specs.Rings.{read_from}
use Rattle.link_model.proofs.RingLemmas.{read-first}
use Rattle.link_model.proofs.flight.Flight.take_first.Goals as goal

pub returns-clause-first : goal.returns-clause-first
returns-clause-first c =
    let old = c.args.self.now in
    read-first old.places.items old.taken old.put c.requires.some
    ∙ sym (ap (λ (a : Arrival). a ∷ read_from old.places.items (old.taken + 1) (old.put - (old.taken + 1))) c.packet-first.ensures)
