use Rattle.std.proofs.Common.{◌≡◌, false, rules, ap, sym, ◌∙◌, subst}
use Rattle.link_model.specs.Rated.{rated}
use Rattle.campaign_core.specs.declared.sums.Sums.{Sums}
use Rattle.campaign_core.specs.CampaignRow.{AreRoomy}
use Rattle.campaign_core.proofs.GivenFlowLemmas.{sums-heard}
use Rattle.shared_run.proofs.RoundFlowLemmas.{may-A, roomy-sums}
use Rattle.shared_run.proofs.flow.hear.Goals as goal

pub hear-requires-clause-left : goal.hear-requires-clause-left
hear-requires-clause-left g c = may-A g.F.GivenFlow.at c.args.flow.now.flow c.args.flow.now.tally c.args.unrated.now c.requires

pub hear-requires-clause-roomy : goal.hear-requires-clause-roomy
hear-requires-clause-roomy g c =
    let old = c.args.flow.now in
    let unrated = c.args.unrated.now in
    subst (λ (s : Sums). AreRoomy s) (sym (sums-heard false c.without_rates.result.now unrated old.tally.sums c.without_rates.ensures))
    (roomy-sums g.F.GivenFlow.at old.flow old.tally unrated c.requires)

pub returns : goal.returns
returns g c =
    let unrated = c.args.unrated.now in
    let no : c.gets_rates.result ≡ false = search rules in
    c.hear.ensures unrated (c.without_rates.ensures ∙ ap (λ rates. rated rates unrated) (sym no ∙ c.gets_rates.ensures))
