use Rattle.std.proofs.Common.{ap, sym, ◌∙◌, subst}
use Rattle.ccp_base.specs.declared.ack.Ack.{Ack}
use Rattle.link_model.specs.Rated.{rated}
use Rattle.campaign_core.specs.CampaignRow.{sums_with, AreRoomy}
use Rattle.shared_run.proofs.RoundFlowLemmas.{may-A, roomy-sums}
use Rattle.shared_run.proofs.flow.hear_rated.Goals as goal

pub hear-requires-clause-left : goal.hear-requires-clause-left
hear-requires-clause-left g c = may-A g.F.GivenFlow.at c.args.flow.now.flow c.args.flow.now.tally c.args.unrated.now c.requires.may

pub hear-requires-clause-roomy : goal.hear-requires-clause-roomy
hear-requires-clause-roomy g c =
    let old = c.args.flow.now in
    subst (λ (a : Ack). AreRoomy (sums_with a old.tally.sums)) (sym c.ack.ensures)
    (roomy-sums g.F.GivenFlow.at old.flow old.tally c.args.unrated.now c.requires.may)

pub returns : goal.returns
returns g c =
    let unrated = c.args.unrated.now in
    c.hear.ensures unrated (c.ack.ensures ∙ ap (λ rates. rated rates unrated) (sym c.requires.gets))
