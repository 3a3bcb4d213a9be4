use Rattle.std.proofs.Common.{arith}
use Rattle.link_model.specs.Chances.{chance_number}
use Rattle.link_model.proofs.ChanceLemmas.{chance_time_rises}
use Rattle.link_model.proofs.LineLemmas.{after_soon}
use Rattle.link_model.proofs.trace.Trace.first_due.Goals as goal

pub next_chance-after-requires-clause-fits : goal.next_chance-after-requires-clause-fits
next_chance-after-requires-clause-fits c =
    let times = c.args.self.now in
    omega (arith, after_soon times c.requires.valid (chance_number times c.args.coming.chance), c.requires.coming.at, c.requires.early, c.requires.time)

pub returns-then-after-now-clause-first : goal.returns-then-after-now-clause-first
returns-then-after-now-clause-first c =
    let times = c.args.self.now in
    record {
      from = omega arith;
      late = omega (arith, c.if-after-now.true, c.next_chance-after.ensures.coming.at);
      before = λ j above under.
          omega (arith, chance_time_rises times c.requires.valid j (chance_number times c.args.coming.chance) (omega (arith, under, c.next_chance-after.ensures.number)), c.requires.coming.at, c.requires.early);
    }
