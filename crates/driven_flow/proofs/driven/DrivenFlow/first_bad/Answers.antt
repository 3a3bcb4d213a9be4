use Rattle.std.proofs.Common.{ℕ, ap, ◌∙◌}
use Rattle.driven_flow.specs.Driven.{DrivenState, bad_in, present_of}
use Rattle.driven_flow.specs.DrivenStates.{driven_of}
use Rattle.driven_flow.proofs.StateLemmas.{present-same}
use Rattle.driven_flow.proofs.driven.DrivenFlow.first_bad.Goals as goal

pub returns : goal.returns
returns c =
    let s = c.self.inside.state in
    let given = c.args.answer.now in
    c.first_bad.ensures
    ∙ ap (λ (running : ℕ). bad_in s.programs.now running given) (present-same (driven_of s) s.running s.link s.journal s.sums s.peak c.self.invariant)
    ∙ ap (λ (d : DrivenState). bad_in d.programs (present_of d) given) c.self.view_is
