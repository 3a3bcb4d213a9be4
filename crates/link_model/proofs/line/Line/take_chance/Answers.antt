use Rattle.std.proofs.Common.{arith}
use Rattle.link_model.specs.Chances.{chance_number}
use Rattle.link_model.proofs.LineLemmas.{after_soon, coming_rises}
use Rattle.link_model.proofs.line.Line.take_chance.Goals as goal

pub next_chance-self-requires-clause-fits : goal.next_chance-self-requires-clause-fits
next_chance-self-requires-clause-fits c =
    let times = c.args.trace.now in
    omega (arith, after_soon times c.requires.valid (chance_number times c.args.self.now.next.chance), c.requires.next.at, c.requires.time)

pub returns-clause-order : goal.returns-clause-order
returns-clause-order c =
    coming_rises c.args.trace.now c.requires.valid c.args.self.now.next c.next_chance-self.result c.requires.next c.next_chance-self.ensures.coming (omega (arith, c.next_chance-self.ensures.number))
