use Rattle.std.proofs.Common.{◌<◌, ◌≤◌, ◌+◌, length, ap, arith}
use Rattle.link_model.specs.Chances.{chance_number, chance_time}
use Rattle.link_model.proofs.ChanceLemmas.{chance_time_rises}
use Rattle.link_model.proofs.LineLemmas.{turn_far_below, inside_number, inside_time, wrapped_number, wrapped_time}
use Rattle.link_model.proofs.chance.next_chance.Goals as goal

pub overflow_add-result : goal.overflow_add-result
overflow_add-result c =
    let inside : c.args.coming.chance.place + 1 < length c.args.times.now = omega (arith, c.if-place-times.true) in
    omega (arith, c.from.ensures, inside_time c.args.times.now c.requires.valid c.args.coming c.requires.coming inside, c.requires.fits)

pub returns-then-place-times-clause-coming : goal.returns-then-place-times-clause-coming
returns-then-place-times-clause-coming c =
    let inside : c.args.coming.chance.place + 1 < length c.args.times.now = omega (arith, c.if-place-times.true) in
    let times = c.args.times.now in
    record {
      place = inside;
      at = omega (arith, c.from.ensures, ap (chance_time times) (inside_number times c.requires.valid c.args.coming c.requires.coming), inside_time c.args.times.now c.requires.valid c.args.coming c.requires.coming inside);
    }

pub overflow_add-result-2 : goal.overflow_add-result-2
overflow_add-result-2 c =
    let coming = c.args.coming in
    omega (arith, turn_far_below c.args.times.now c.requires.valid coming.chance.turn coming.chance.place c.requires.coming.place, chance_time_rises c.args.times.now c.requires.valid (chance_number c.args.times.now coming.chance) (chance_number c.args.times.now coming.chance + 1) (omega arith), c.requires.fits)

pub overflow_add-result-3 : goal.overflow_add-result-3
overflow_add-result-3 c =
    let wraps : length c.args.times.now ≤ c.args.coming.chance.place + 1 = omega (arith, c.if-place-times.false) in
    omega (arith, c.from-2.ensures, wrapped_time c.args.times.now c.requires.valid c.args.coming c.requires.coming wraps, c.requires.fits)

pub returns-clause-coming : goal.returns-clause-coming
returns-clause-coming c =
    let times = c.args.times.now in
    let wraps : length times ≤ c.args.coming.chance.place + 1 = omega (arith, c.if-place-times.false) in
    record {
      place = c.requires.valid.some;
      at = omega (arith, c.from-2.ensures, ap (chance_time times) (wrapped_number times c.requires.valid c.args.coming c.requires.coming wraps), wrapped_time times c.requires.valid c.args.coming c.requires.coming wraps);
    }
