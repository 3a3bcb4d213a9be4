use Rattle.scope_types.proofs.Sizes.{falls_left, falls_right}
use Rattle.scope_types.proofs.expression.+expression.Goals as goal

pub expression-requires : goal.expression-requires
expression-requires t c =
    let three = c.in-Three-Word-default-default.ensures in
    (falls_left t c.args.tree.now c.in-List.at c.in-List.parts _ _ _ _ c.decreases c.in-List.is c.as_slice-in-List.ensures.value three, tt)

pub expression-requires-in-Some : goal.expression-requires-in-Some
expression-requires-in-Some t c =
    let three = c.in-Three-Word-default-default.ensures in
    (falls_right t c.args.tree.now c.in-List.at c.in-List.parts _ _ _ _ c.decreases c.in-List.is c.as_slice-in-List.ensures.value three, tt)
