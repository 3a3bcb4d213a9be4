use Rattle.std.proofs.Common.{◌∷◌, ◌++◌, ap, ◌∙◌}
use Rattle.fold_run.proofs.names.after_equals.Goals as goal

pub returns-in-Some-split_first : goal.returns-in-Some-split_first
returns-in-Some-split_first c =
    let name = c.args.name.now in
    let rest = c.in-Some-split_first.rest.now in
    c.in-Some.ensures ∙ ap (λ xs. name ++ xs) (c.in-Some-split_first.ensures.cases.0 ∙ ap (λ byte. byte ∷ rest) c.if-first-eq61.true)
