use Rattle.std.proofs.Common.{position, ap, ◌∙◌, sym}
use Rattle.scope_types.proofs.DeclarationsFound.{has_name, found}
use Rattle.scope_types.proofs.declarations.Declarations.position.Goals as goal

pub returns-in_err-index : goal.returns-in_err-index
returns-in_err-index c =
    c.from_residual.ensures
    ∙ c.in_err-index.ensures.index
    ∙ ap (position (has_name c.args.name.now)) c.self.view_is
    ∙ sym (found c.args.self.now c.args.name.now)

pub returns : goal.returns
returns c =
    c.in_ok-index.ensures.index
    ∙ ap (position (has_name c.args.name.now)) c.self.view_is
    ∙ sym (found c.args.self.now c.args.name.now)
