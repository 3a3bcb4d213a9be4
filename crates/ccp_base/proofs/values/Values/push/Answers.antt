use Rattle.std.proofs.Common.{ℕ, ◌<◌, List, length, subst, sym}
use Rattle.ccp_base.specs.InPlace.{IsPadded-push_held}
use Rattle.ccp_base.proofs.values.Values.push.Goals as goal

pub invariant_of-self : goal.invariant_of-self
invariant_of-self c =
    let inside = c.self.inside in
    IsPadded-push_held 64 0 inside.numbers inside.count c.args.value c.self.invariant
    (subst (λ (xs : List ℕ). length xs < 64) (sym c.self.view_is) c.requires)
