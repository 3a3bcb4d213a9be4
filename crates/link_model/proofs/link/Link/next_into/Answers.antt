use Rattle.std.proofs.Common.{◌++◌, ◌∷◌, [], ◌∙◌, ap, sym}
use Rattle.link_model.specs.Link.{run_of}
use Rattle.link_model.specs.Standing.{standing_of}
use Rattle.link_model.specs.Rated.{rated}
use Rattle.link_model.proofs.Compact.{next_ack_same, next_standing_same}
use Rattle.link_model.proofs.link.Link.next_into.Goals as goal

pub returns-clause-ack : goal.returns-clause-ack
returns-clause-ack c =
    λ windows stands.
    c.step.ensures.ack
    ∙ ap (rated c.args.rates) (next_ack_same c.args.self.now.case c.step.ensures.valid windows c.args.window c.args.self.now.standing stands)

pub returns-clause-stands : goal.returns-clause-stands
returns-clause-stands c =
    λ windows stands.
    c.step.ensures.standing
    ∙ next_standing_same c.args.self.now.case c.step.ensures.valid windows c.args.window c.args.self.now.standing stands
    ∙ ap (λ case. standing_of case (run_of case (windows ++ c.args.window ∷ []))) (sym c.step.ensures.case)
