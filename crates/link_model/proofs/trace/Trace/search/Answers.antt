use Rattle.std.proofs.Common.{ap, arith}
use Rattle.link_model.specs.Chances.{chance_time}
use Rattle.link_model.proofs.LineLemmas.{due_soon}
use Rattle.link_model.proofs.trace.Trace.search.Goals as goal

pub time_of-at-requires-clause-fits : goal.time_of-at-requires-clause-fits
time_of-at-requires-clause-fits c =
    let times = c.args.self.now in
    omega (arith, ap (chance_time times) c.find_first_chance-chance.ensures.number, due_soon times c.requires.valid c.args.now, c.requires.time)
