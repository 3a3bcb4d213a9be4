use Rattle.std.proofs.Common.{◌++◌, length, ap, ◌∙◌}
use Rattle.std.proofs.lemmas.List.{drop-replicate}
use Rattle.ccp_base.proofs.name.pad.Goals as goal

pub returns : goal.returns
returns c =
    let text = c.args.text.now in
    c.write_front.ensures ∙ ap (λ xs. text ++ xs) (drop-replicate (length text) 64 0)
