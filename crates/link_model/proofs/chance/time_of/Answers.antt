use Rattle.std.proofs.Common.{◌*◌, ap, arith}
use Rattle.link_model.proofs.ChanceLemmas.{time_at}
use Rattle.link_model.proofs.chance.time_of.Goals as goal

pub overflow_mul-result : goal.overflow_mul-result
overflow_mul-result c =
    let turns = ap (λ p. p * c.args.chance.turn) c.period.ensures in
    omega (arith, turns, time_at c.args.times.now c.requires.valid c.args.chance.turn c.args.chance.place c.requires.place, c.requires.fits)

pub overflow_add-result : goal.overflow_add-result
overflow_add-result c =
    let turns = ap (λ p. p * c.args.chance.turn) c.period.ensures in
    omega (arith, turns, time_at c.args.times.now c.requires.valid c.args.chance.turn c.args.chance.place c.requires.place, c.requires.fits)

pub overflow_mul-result-2 : goal.overflow_mul-result-2
overflow_mul-result-2 c =
    let turns = ap (λ p. p * c.args.chance.turn) c.period.ensures in
    omega (arith, turns, time_at c.args.times.now c.requires.valid c.args.chance.turn c.args.chance.place c.requires.place, c.requires.fits)

pub returns : goal.returns
returns c =
    let turns = ap (λ p. p * c.args.chance.turn) c.period.ensures in
    omega (arith, turns, time_at c.args.times.now c.requires.valid c.args.chance.turn c.args.chance.place c.requires.place, c.from.ensures)
