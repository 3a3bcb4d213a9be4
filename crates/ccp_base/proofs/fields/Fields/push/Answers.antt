use Rattle.std.proofs.Common.{◌<◌, List, length, subst, sym}
use Rattle.ccp_base.specs.InPlace.{IsPadded-push_held}
use Rattle.ccp_base.specs.FieldReg.{Pair, pair_of, blank}
use Rattle.ccp_base.proofs.fields.Fields.push.Goals as goal

pub invariant_of-self : goal.invariant_of-self
invariant_of-self c =
    let inside = c.self.inside in
    IsPadded-push_held 66 blank inside.pairs inside.count (pair_of c.args.reg c.args.value) c.self.invariant
    (subst (λ (xs : List Pair). length xs < 66) (sym c.self.view_is) c.requires)
