-- The programs of a scenario's cases are among its programs.
use Rattle.std.proofs.Common.{◌≡◌, ◌∙◌, ℕ, Option, Some, None, option_map, List, slice_get, ap, sym, subst, refl}
use Rattle.std.specs.List.{All}
use Rattle.std.proofs.lemmas.Option.{same_Some, none-some}
use Rattle.portus_core.specs.ProgramForm.{form_of}
use Rattle.reg_code.specs.declared.code.Code.{Code}
use Rattle.reg_compiler.specs.declared.built.Built.{Built}
use Rattle.reg_compiler.specs.Simulation.{Simulates}
use Rattle.flow_core.specs.declared.case.Case.{Case}
use Rattle.flow_core.specs.declared.case.Coded.{Coded}
use Rattle.scenario_json.specs.Cases.{coded_of, coded_at, IsCoded, AreNumberedFrom}
use Rattle.source_flow.specs.Sourced.{built_numbered, SimulatedBy, IsSourced}
use Rattle.ccp_run.proofs.CodedLemmas.{found_at}

module _ (programs : List (ℕ × Built)) (numbered : AreNumberedFrom 0 programs) where
  simulated_by : (number : ℕ) (coded : Coded) → coded_at programs number ≡ Some coded → (at : Option (ℕ × Built)) → slice_get programs number ≡ at → SimulatedBy coded (built_numbered programs number)
  simulated_by number coded is None none =
      let bad : None ≡ Some coded = sym (ap (λ o. option_map (coded_of number) o) none) ∙ is in absurd (none-some coded bad)
  simulated_by number coded is (Some one) some =
      let both : Some (coded_of number one) ≡ Some coded = sym (ap (λ o. option_map (coded_of number) o) some) ∙ is in
      let same : coded_of number one ≡ coded = same_Some (coded_of number one) coded both in
      let at = found_at programs numbered number one some in
      subst (λ (o : Option Built). SimulatedBy coded o) (sym at.built)
      (subst (λ (code : Code). Simulates (form_of one.1.program) code one.1.places) (ap (λ c. c.code.code) same) one.1.simulates)

  sourced_case : (case : Case) → IsCoded programs case → IsSourced programs case
  sourced_case case coded = record {
    ss = simulated_by case.ss.role.number case.ss coded.ss (slice_get programs case.ss.role.number) refl;
    ca = simulated_by case.ca.role.number case.ca coded.ca (slice_get programs case.ca.role.number) refl;
  }

pub sourced : (programs : List (ℕ × Built)) → AreNumberedFrom 0 programs → (cases : List Case) → All (IsCoded programs) cases → All (IsSourced programs) cases
sourced programs numbered cases coded = λ k d below. sourced_case programs numbered _ (coded k d below)
