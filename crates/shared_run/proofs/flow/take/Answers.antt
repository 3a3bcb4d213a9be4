use Rattle.std.proofs.Common.{◌≡◌, true, false, rules, sym, ◌∙◌}
use Rattle.flow_core.specs.declared.letter.Letter.TheVariants.{T}
use Rattle.campaign_core.proofs.GivenFlowLemmas.{legal-is}
use Rattle.shared_run.proofs.RoundFlowLemmas.{may-T}
use Rattle.shared_run.proofs.flow.take.Goals as goal

pub returns-then-not-may_take : goal.returns-then-not-may_take
returns-then-not-may_take g c core after =
    let flow = g.F.GivenFlow in
    let old = c.args.flow.now in
    let no : c.may_take.result ≡ false = search rules in
    (sym (legal-is flow.at flow.bare_of g.met.F.GivenFlow.bare_law old.flow old.tally c.bare.result.now c.bare.ensures T core after) ∙ sym c.may_take.ensures ∙ no, after)

pub take-requires : goal.take-requires
take-requires g c =
    let flow = g.F.GivenFlow in
    let old = c.args.flow.now in
    let yes : c.may_take.result ≡ true = search rules in
    may-T flow.at old.flow old.tally c.requires
    (λ core after.
    sym (legal-is flow.at flow.bare_of g.met.F.GivenFlow.bare_law old.flow old.tally c.bare.result.now c.bare.ensures T core after) ∙ sym c.may_take.ensures ∙ yes)

pub returns : goal.returns
returns g c core after =
    let flow = g.F.GivenFlow in
    let old = c.args.flow.now in
    let yes : c.may_take.result ≡ true = search rules in (
      sym (legal-is flow.at flow.bare_of g.met.F.GivenFlow.bare_law old.flow old.tally c.bare.result.now c.bare.ensures T core after) ∙ sym c.may_take.ensures ∙ yes,
      c.in_ok-take.ensures core after,
    )
