-- The codes of a scenario's cases simulate the programs of their numbers.
use Rattle.std.proofs.Common.{◌≡◌, ◌∙◌, ℕ, zero, suc, ◌+◌, ◌==◌, true, false, if◌then◌else◌, Option, Some, None, option_map, List, [], ◌∷◌, slice_get, ap, sym, subst, refl, arith}
use Rattle.std.proofs.lemmas.Bool.{eq-eqb, ne_eqb}
use Rattle.std.proofs.lemmas.Option.{same_Some, none-some}
use Rattle.ccp_base.specs.declared.place.Place.{Place}
use Rattle.portus_core.specs.Programs.{Form}
use Rattle.portus_core.specs.ProgramForm.{form_of}
use Rattle.reg_code.specs.declared.code.Code.{Code}
use Rattle.reg_compiler.specs.declared.built.Built.{Built}
use Rattle.reg_compiler.specs.Simulation.{Simulates}
use Rattle.flow_core.specs.declared.case.Coded.{Coded}
use Rattle.flow_core.specs.LiveText.{source_at}
use Rattle.campaign_report.specs.BookText.{program_places}
use Rattle.scenario_json.specs.Cases.{coded_of, coded_at, AreNumberedFrom}
use Rattle.reg_compiler.specs.Sources.{sources_of}
use Rattle.source_flow.specs.Sourced.{built_numbered}

-- the program of this number is this one
pub record IsAt (programs : List (ℕ × Built)) (number : ℕ) (one : ℕ × Built) : Type 0 where
  pub source : source_at (sources_of programs) number ≡ form_of one.1.program
  pub places : program_places programs number ≡ one.1.places
  pub built : built_numbered programs number ≡ Some one.1

-- the program at a place is the one with the number of the place
found : (k : ℕ) (programs : List (ℕ × Built)) → AreNumberedFrom k programs → (i : ℕ) (one : ℕ × Built)
    → slice_get programs i ≡ Some one → IsAt programs (k + i) one
found k [] numbered i one is = absurd (none-some one is)
found k (first ∷ rest) numbered zero one is =
    let same : first ≡ one = same_Some first one is in
    let here : (first.0 == (k + 0)) ≡ true = eq-eqb first.0 (k + 0) (omega (arith, numbered.0)) in
    record {
      source = ap (λ b. if b then form_of first.1.program else source_at (sources_of rest) (k + 0)) here ∙ ap (λ o. form_of o.1.program) same;
      places = ap (λ b. if b then first.1.places else program_places rest (k + 0)) here ∙ ap (λ o. o.1.places) same;
      built = ap (λ b. if b then Some first.1 else built_numbered rest (k + 0)) here ∙ ap (λ o. Some o.1) same;
    }
found k (first ∷ rest) numbered (suc i) one is =
    let past : (first.0 == (k + suc i)) ≡ false = ne_eqb first.0 (k + suc i) (λ e. omega (arith, numbered.0, e)) in
    let on : k + suc i ≡ (k + 1) + i = omega arith in
    let next = found (k + 1) rest numbered.1 i one is in
    record {
      source = ap (λ b. if b then form_of first.1.program else source_at (sources_of rest) (k + suc i)) past
          ∙ ap (λ n. source_at (sources_of rest) n) on ∙ next.source;
      places = ap (λ b. if b then first.1.places else program_places rest (k + suc i)) past
          ∙ ap (λ n. program_places rest n) on ∙ next.places;
      built = ap (λ b. if b then Some first.1 else built_numbered rest (k + suc i)) past
          ∙ ap (λ n. built_numbered rest n) on ∙ next.built;
    }

pub found_at : (programs : List (ℕ × Built)) → AreNumberedFrom 0 programs → (i : ℕ) (one : ℕ × Built)
    → slice_get programs i ≡ Some one → IsAt programs i one
found_at programs numbered i one is =
    let at : 0 + i ≡ i = omega arith in subst (λ (n : ℕ). IsAt programs n one) at (found 0 programs numbered i one is)

module _ (programs : List (ℕ × Built)) (numbered : AreNumberedFrom 0 programs) (number : ℕ) (coded : Coded) (is : coded_at programs number ≡ Some coded) where
  simulated_by : (at : Option (ℕ × Built)) → slice_get programs number ≡ at → Simulates (source_at (sources_of programs) number) coded.code.code (program_places programs number)
  simulated_by None none =
      let bad : None ≡ Some coded = sym (ap (λ o. option_map (coded_of number) o) none) ∙ is in absurd (none-some coded bad)
  simulated_by (Some one) some =
      let both : Some (coded_of number one) ≡ Some coded = sym (ap (λ o. option_map (coded_of number) o) some) ∙ is in
      let same : coded_of number one ≡ coded = same_Some (coded_of number one) coded both in
      let code : one.1.code.code ≡ coded.code.code = ap (λ c. c.code.code) same in
      let at = found_at programs numbered number one some in
      subst (λ (form : Form). Simulates form coded.code.code (program_places programs number)) (sym at.source)
      (subst (λ (places : List Place). Simulates (form_of one.1.program) coded.code.code places) (sym at.places)
      (subst (λ (code : Code). Simulates (form_of one.1.program) code one.1.places) code one.1.simulates))

  -- a case's code simulates the source of its program's number, with the places there
  pub simulated : Simulates (source_at (sources_of programs) number) coded.code.code (program_places programs number)
  simulated = simulated_by (slice_get programs number) refl
