use Rattle.std.proofs.Common.{◌*◌, length, ap, arith}
use Rattle.link_model.proofs.ChanceLemmas.{turns_rise, turns_between}
use Rattle.link_model.proofs.chance.count_between.Goals as goal

pub overflow_sub-count : goal.overflow_sub-count
overflow_sub-count c =
    let n = length c.args.times.now in
    let order = turns_rise n c.args.from.turn c.args.from.place c.args.to.turn c.args.to.place c.requires.from c.requires.to c.requires.order in
    let turns = ap (λ t. t * n) c.from.ensures in
    omega (arith, turns, turns_between n c.args.from.turn c.args.to.turn order, c.requires.order)

pub overflow_cast-result : goal.overflow_cast-result
overflow_cast-result c =
    let n = length c.args.times.now in
    let order = turns_rise n c.args.from.turn c.args.from.place c.args.to.turn c.args.to.place c.requires.from c.requires.to c.requires.order in
    let turns = ap (λ t. t * n) c.from.ensures in
    omega (arith, turns, turns_between n c.args.from.turn c.args.to.turn order, c.requires.order, c.requires.few)

pub returns : goal.returns
returns c =
    let n = length c.args.times.now in
    let order = turns_rise n c.args.from.turn c.args.from.place c.args.to.turn c.args.to.place c.requires.from c.requires.to c.requires.order in
    let turns = ap (λ t. t * n) c.from.ensures in
    omega (arith, turns, turns_between n c.args.from.turn c.args.to.turn order, c.requires.order)
