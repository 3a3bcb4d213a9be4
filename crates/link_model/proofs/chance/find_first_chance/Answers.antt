use Rattle.std.proofs.Common.{◌/◌, sym, refl}
use Rattle.link_model.proofs.ChanceLemmas.{turn_chance, place_inside}
use Rattle.link_model.proofs.chance.find_first_chance.Goals as goal

pub returns-clause-number : goal.returns-clause-number
returns-clause-number c =
    sym (turn_chance c.args.times.now c.requires.valid c.args.at c.period-period.result c.saturating_sub.result (c.saturating_sub.result / c.period-period.result) c.place_from-place.result
    c.period-period.ensures c.saturating_sub.ensures refl c.place_from-place.ensures.within c.place_from-place.ensures.before c.place_from-place.ensures.from)

pub returns-clause-place : goal.returns-clause-place
returns-clause-place c =
    place_inside c.args.times.now c.requires.valid c.args.at c.period-period.result c.saturating_sub.result (c.saturating_sub.result / c.period-period.result) c.place_from-place.result
    c.period-period.ensures c.saturating_sub.ensures refl c.place_from-place.ensures.within c.place_from-place.ensures.before
