use Rattle.std.proofs.Common.{◌∙◌, sym}
use Rattle.portus_build.proofs.LookLemmas.{number_of-all}
use Rattle.portus_build.proofs.calls.number_of.Goals as goal

pub returns-clause-number : goal.returns-clause-number
returns-clause-number c =
    c.in_ok-index.ensures.index ∙ sym (number_of-all c.args.name.now c.args.decls.now c.requires)

pub returns-in_err-index-clause-number : goal.returns-in_err-index-clause-number
returns-in_err-index-clause-number c =
    c.from_residual.ensures ∙ c.in_err-index.ensures.index ∙ sym (number_of-all c.args.name.now c.args.decls.now c.requires)
