use Rattle.std.proofs.Common.{◌≡◌, ℕ, Some, option_map, List, ap, sym, ◌∙◌}
use Rattle.ccp_base.specs.declared.place.Place.{Place}
use Rattle.portus_core.specs.ProgramForm.{form_of}
use Rattle.reg_compiler.specs.declared.built.Built.{Built}
use Rattle.flow_core.specs.declared.case.Case.{Case}
use Rattle.flow_core.specs.Readings.{Flow, over_sources}
use Rattle.source_flow.specs.Sourced.{built_numbered}
use Rattle.source_flow.specs.SourceAccounts.{flow_by, account_after}
use Rattle.source_flow.proofs.FoundLemmas.{source-found}
use Rattle.source_flow.proofs.calls.account.Goals as goal

-- the flow over the programs that were found is the one over the list
flow-found : (programs : List (ℕ × Built)) (case : Case) (ss ca : Built)
    → built_numbered programs case.ss.role.number ≡ Some ss → built_numbered programs case.ca.role.number ≡ Some ca
    → flow_by programs case ≡ over_sources case (form_of ss.program) (form_of ca.program)
flow-found programs case ss ca ss_is ca_is =
    λ i. over_sources case (source-found programs case.ss.role.number ss ss_is i) (source-found programs case.ca.role.number ca ca_is i)

pub returns : goal.returns
returns c =
    let programs = c.args.programs.now in
    let case = c.args.case.now in
    let ss : Built = c.in-Some.ss.now in
    let ca : Built = c.in-Some-built_at.ca.now in
    let ss_is : built_numbered programs case.ss.role.number ≡ Some ss =
    ap (λ list. built_numbered list case.ss.role.number) (sym c.as_slice.ensures) ∙ sym c.built_at.ensures ∙ ap (option_map (λ built. built.now)) c.in-Some.is in
    let ca_is : built_numbered programs case.ca.role.number ≡ Some ca =
    ap (λ list. built_numbered list case.ca.role.number) (sym c.as_slice-2.ensures) ∙ sym c.built_at-2.ensures ∙ ap (option_map (λ built. built.now)) c.in-Some-built_at.is in
    c.in_ok-found.ensures ∙ ap (λ (flow : Flow Place). account_after flow case.link c.args.word.now) (sym (flow-found programs case ss ca ss_is ca_is))
