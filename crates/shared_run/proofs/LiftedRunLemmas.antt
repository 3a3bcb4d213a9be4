-- If the cases' codes simulate programs, the run over the codes is the run over the programs.
use Rattle.std.specs.Prelude.{◌≡◌, ℕ, zero, suc, ◌-◌, Bool, true, false, if◌then◌else◌, Some, List, [], ◌∷◌, length, map, slice_get, refl}
use Rattle.std.proofs.Common.{ap, sym, ◌∙◌, subst}
use Rattle.ccp_base.specs.declared.ack.Ack.{Ack}
use Rattle.ccp_base.specs.declared.place.Place.{Place}
use Rattle.flow_core.specs.declared.case.Case.{Case}
use Rattle.flow_core.specs.Readings.{over_codes}
use Rattle.flow_core.specs.Cores.{CoreState}
use Rattle.shared_link.specs.declared.round.Ask.{Ask}
use Rattle.shared_link.specs.declared.shared_case.SharedCase.{SharedCase}
use Rattle.shared_link.specs.SharedRounds.{acks_after}
use Rattle.campaign_core.specs.FlowRow.{CaseReading, opened, flow_row}
use Rattle.shared_run.specs.RoundLetters.{round_part, closed_flow}
use Rattle.shared_run.specs.LiftedFlow.{ReadAlike}
use Rattle.shared_run.proofs.TurnLemmas.{part-case, settled-case}
use Rattle.shared_run.proofs.LiftedFlowLemmas.{lifted as flow-lifted}
use Rattle.shared_run.specs.SharedHistory.{Progress, progress, asks_of, parts, after_asks, after_round, have_all, ends_or, rounds_from, round_limit, whole_run, flows_at_end}
use Rattle.shared_run.specs.LiftedRun.{AreSimulated, HaveOneRun, RunHoldsForSources}

module _ (sources : CaseReading Place) (link : SharedCase) where
  -- each flow's codes simulate its programs
  abbrev AreFit : List CoreState → Type 0
  AreFit [] = Unit {0}
  AreFit (core ∷ rest) = AreSimulated sources core.case × AreFit rest

  alike-of : (core : CoreState) → AreSimulated sources core.case → ReadAlike over_codes sources core
  alike-of core sim =
      flow-lifted core.case sources sim.ss sim.ca sim.ss_places sim.ca_places sim.read sim.ss_simulates sim.ca_simulates core.acks core.word

  fit-at : (core other : CoreState) → core.case ≡ other.case → AreSimulated sources other.case → AreSimulated sources core.case
  fit-at core other same sim = subst (λ (case : Case). AreSimulated sources case) (sym same) sim

  -- ---- a round

  asks-lift : (flows : List CoreState) → AreFit flows → asks_of over_codes flows ≡ asks_of sources flows
  asks-lift [] fit = refl
  asks-lift (core ∷ rest) fit =
      λ i. record { window = (alike-of core fit.0).window i; left = core.case.acks - length core.acks } ∷ asks-lift rest fit.1 i

  parts-lift : (lists : List (List Ack)) (flows : List CoreState) → AreFit flows → parts over_codes lists flows ≡ parts sources lists flows
  parts-lift [] flows fit = refl
  parts-lift (acks ∷ others) [] fit = refl
  parts-lift (acks ∷ others) (core ∷ rest) fit = λ i. (alike-of core fit.0).part acks i ∷ parts-lift others rest fit.1 i

  fit-parts : (lists : List (List Ack)) (flows : List CoreState) → AreFit flows → AreFit (parts sources lists flows)
  fit-parts [] flows fit = fit
  fit-parts (acks ∷ others) [] fit = fit
  fit-parts (acks ∷ others) (core ∷ rest) fit =
      (fit-at (round_part sources acks core) core (part-case sources acks core) fit.0, fit-parts others rest fit.1)

  round-lifts : (run : Progress) → AreFit run.flows → after_round link over_codes run ≡ after_round link sources run
  round-lifts run fit =
      ap (λ (asks : List Ask). after_asks link over_codes asks run) (asks-lift run.flows fit)
      ∙ ap (λ (flows : List CoreState). progress (after_round link sources run).history flows)
      (parts-lift (acks_after link run.history (asks_of sources run.flows)) run.flows fit)

  fit-round : (run : Progress) → AreFit run.flows → AreFit (after_round link sources run).flows
  fit-round run fit = fit-parts (acks_after link run.history (asks_of sources run.flows)) run.flows fit

  -- ---- rounds

  rounds-lift : (n : ℕ) (run : Progress) → AreFit run.flows → rounds_from link over_codes n run ≡ rounds_from link sources n run
  rounds-lift zero run fit = refl
  rounds-lift (suc more) run fit =
      let next = after_round link sources run in
      let rest = rounds-lift more next (fit-round run fit) in
      ap (λ (r : Progress). ends_or (rounds_from link over_codes more) r) (round-lifts run fit)
      ∙ ap (λ (r : Progress). if have_all next.flows then next else r) rest

  fit-where : (ends : Bool) (now later : Progress) → AreFit now.flows → AreFit later.flows → AreFit (if ends then now else later).flows
  fit-where true now later here there = here
  fit-where false now later here there = there

  fit-rounds : (n : ℕ) (run : Progress) → AreFit run.flows → AreFit (rounds_from link sources n run).flows
  fit-rounds zero run fit = fit
  fit-rounds (suc more) run fit =
      let next = after_round link sources run in
      let here = fit-round run fit in
      fit-where (have_all next.flows) next (rounds_from link sources more next) here (fit-rounds more next here)

  -- ---- the end

  closes-lift : (flows : List CoreState) → AreFit flows → map (closed_flow over_codes) flows ≡ map (closed_flow sources) flows
  closes-lift [] fit = refl
  closes-lift (core ∷ rest) fit = λ i. (alike-of core fit.0).closed i ∷ closes-lift rest fit.1 i

  fit-closes : (flows : List CoreState) → AreFit flows → AreFit (map (closed_flow sources) flows)
  fit-closes [] fit = fit
  fit-closes (core ∷ rest) fit = (fit-at (closed_flow sources core) core (settled-case sources true core) fit.0, fit-closes rest fit.1)

  rows-lift : (flows : List CoreState) → AreFit flows → map (flow_row over_codes) flows ≡ map (flow_row sources) flows
  rows-lift [] fit = refl
  rows-lift (core ∷ rest) fit = λ i. (alike-of core fit.0).row i ∷ rows-lift rest fit.1 i

  fit-opened : (cases : List Case) → ((k : ℕ) (case : Case) → slice_get cases k ≡ Some case → AreSimulated sources case)
      → AreFit (map opened cases)
  fit-opened [] all = tt
  fit-opened (case ∷ rest) all = (all 0 case refl, fit-opened rest (λ k one is. all (suc k) one is))

  module _ (cases : List Case) (all : (k : ℕ) (case : Case) → slice_get cases k ≡ Some case → AreSimulated sources case) (rounds : ℕ) where
    run-lifts : whole_run link over_codes cases rounds ≡ whole_run link sources cases rounds
    run-lifts = rounds-lift (round_limit cases rounds) (progress [] (map opened cases)) (fit-opened cases all)

    fit-run : AreFit (whole_run link sources cases rounds).flows
    fit-run = fit-rounds (round_limit cases rounds) (progress [] (map opened cases)) (fit-opened cases all)

    flows-lift : flows_at_end link over_codes cases rounds ≡ flows_at_end link sources cases rounds
    flows-lift =
        ap (λ (run : Progress). map (closed_flow over_codes) run.flows) run-lifts
        ∙ closes-lift (whole_run link sources cases rounds).flows fit-run

    one-run : HaveOneRun sources link cases rounds
    one-run = record {
      run = run-lifts;
      flows = flows-lift;
      rows =
          ap (λ (flows : List CoreState). map (flow_row over_codes) flows) flows-lift
          ∙ rows-lift (flows_at_end link sources cases rounds) (fit-closes (whole_run link sources cases rounds).flows fit-run);
    }

pub lifted : (link : SharedCase) (cases : List Case) (rounds : ℕ) → RunHoldsForSources link cases rounds
lifted link cases rounds sources all = one-run sources link cases all rounds
