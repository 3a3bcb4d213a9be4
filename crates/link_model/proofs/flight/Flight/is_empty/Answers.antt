use Rattle.std.proofs.Common.{eqb-true}
use Rattle.link_model.proofs.RingLemmas.{read-none}
use Rattle.link_model.proofs.flight.Flight.is_empty.Goals as goal

pub returns-clause-none : goal.returns-clause-none
returns-clause-none c = let flight = c.args.self.now in λ is. read-none flight.places.items flight.taken flight.put (eqb-true flight.taken flight.put is)
