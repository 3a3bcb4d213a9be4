use Rattle.std.proofs.Common.{◌≡◌, ◌∙◌, ℕ, List, length, map, ap, sym, subst, arith}
use Rattle.std.specs.Prelude.{IfOk}
use Rattle.std.proofs.lemmas.List.{length-map}
use Rattle.campaign_gate.specs.CampaignBooks.{acks_of_case}
use Rattle.campaign_report.specs.AcksText.{acks_text}
use Rattle.scenario_json.specs.Cases.{case_names}
use Rattle.ccp_run.specs.Campaign.{case_agents}
use Rattle.ccp_run.proofs.modes.acks.labelled_text.Goals as goal

pub acks_text-requires-clause-within : goal.acks_text-requires-clause-within
acks_text-requires-clause-within g c =
    let few = c.requires.few in
    let count : length c.in_ok-acks.acks ≡ length c.args.cases = ap length c.in_ok-acks.ensures.acks ∙ length-map c.args.cases acks_of_case in
    omega (arith, count, few)

pub acks_text-requires-clause-names : goal.acks_text-requires-clause-names
acks_text-requires-clause-names g c =
    let cases = c.args.cases in
    ap length c.requires.names ∙ length-map cases (λ case. case.name) ∙ sym (ap length c.in_ok-acks.ensures.acks ∙ length-map cases acks_of_case)

pub acks_text-requires-clause-agents : goal.acks_text-requires-clause-agents
acks_text-requires-clause-agents g c =
    let cases = c.args.cases in
    ap length c.requires.agents ∙ length-map cases (λ case. case.agent) ∙ sym (ap length c.in_ok-acks.ensures.acks ∙ length-map cases acks_of_case)

pub returns-clause-text : goal.returns-clause-text
returns-clause-text g c =
    let cases = c.args.cases in
    let whole : acks_text c.args.names.now c.args.agents.now c.in_ok-acks.acks ≡ acks_text (case_names cases) (case_agents cases) (map acks_of_case cases) =
    λ i. acks_text (c.requires.names i) (c.requires.agents i) (c.in_ok-acks.ensures.acks i) in
    subst (λ (t : List ℕ). IfOk c.acks_text.result (λ text. text ≡ t)) whole c.acks_text.ensures
