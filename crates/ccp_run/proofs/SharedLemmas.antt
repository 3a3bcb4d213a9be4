-- A scenario's codes simulate its programs in each of its cases, and its link is within the limits.
use Rattle.std.proofs.Common.{◌≡◌, ◌∙◌, ◌≤◌, sym, ℕ, zero, suc, Bool, true, false, if◌then◌else◌, Some, List, [], ◌∷◌, length, map, slice_get, ap, subst, refl, arith}
use Rattle.std.proofs.lemmas.List.{length-map}
use Rattle.std.proofs.lemmas.Option.{same_Some, none-some}
use Rattle.std.specs.List.{All}
use Rattle.ccp_base.specs.declared.ack.Ack.{Ack}
use Rattle.ccp_base.specs.Limits.{most_flows, most_queue, most_quantum_us}
use Rattle.reg_compiler.specs.declared.built.Built.{Built}
use Rattle.flow_core.specs.declared.case.Case.{Case}
use Rattle.flow_core.specs.Cores.{CoreState}
use Rattle.flow_core.specs.LiveText.{source_at, flow_from}
use Rattle.flow_core.specs.Readings.{over_codes}
use Rattle.campaign_report.specs.BookText.{program_places}
use Rattle.scene_core.specs.CasePlans.{plan_of, flow_link_of, link_at_once}
use Rattle.scenario_json.specs.Cases.{IsCoded, AreNumberedFrom}
use Rattle.reg_compiler.specs.Sources.{sources_of}
use Rattle.shared_link.specs.declared.shared_case.FlowLink.{FlowLink}
use Rattle.shared_link.specs.declared.shared_case.SharedCase.{SharedCase}
use Rattle.shared_link.specs.SharedLimits.{IsFlowWithin, IsWithin}
use Rattle.shared_link.specs.SharedRounds.{acks_after}
use Rattle.campaign_core.specs.FlowRow.{CaseReading, opened, flow_row}
use Rattle.shared_run.specs.RoundLetters.{closed_flow}
use Rattle.shared_run.specs.LiftedRun.{AreSimulated}
use Rattle.shared_run.proofs.TurnLemmas.{part-case, settled-case}
use Rattle.shared_run.specs.SharedHistory.{Progress, progress, asks_of, parts, after_round, have_all, rounds_from, round_limit, whole_run, flows_at_end, shared_rows}
use Rattle.ccp_run.proofs.CodedLemmas.{simulated}

module _ (programs : List (ℕ × Built)) (numbered : AreNumberedFrom 0 programs) where
  case_simulated : (case : Case) → IsCoded programs case → AreSimulated (flow_from (sources_of programs)) case
  case_simulated case coded =
      let ss = case.ss.role.number in
      let ca = case.ca.role.number in
      record {
        ss = source_at (sources_of programs) ss;
        ca = source_at (sources_of programs) ca;
        ss_places = program_places programs ss;
        ca_places = program_places programs ca;
        read = refl;
        ss_simulates = simulated programs numbered ss case.ss coded.ss;
        ca_simulates = simulated programs numbered ca case.ca coded.ca;
      }

  pub all_simulated : (cases : List Case) → All (IsCoded programs) cases → (k : ℕ) (case : Case) → slice_get cases k ≡ Some case
      → AreSimulated (flow_from (sources_of programs)) case
  all_simulated [] coded k case is = absurd (none-some case is)
  all_simulated (first ∷ rest) coded zero case is =
      subst (λ (c : Case). AreSimulated (flow_from (sources_of programs)) c) (same_Some first case is) (case_simulated first (coded 0 first (omega arith)))
  all_simulated (first ∷ rest) coded (suc k) case is =
      all_simulated rest (λ j d h. coded (suc j) d (omega (arith, h))) k case is

-- what a case has of its own on the link is within the limits
flow_within : (case : Case) → IsFlowWithin (flow_link_of (plan_of case))
flow_within case = record {
  mss = case.link.mss_within;
  delay_us = case.link.delay_within;
  timeout_us = case.link.timeout_within;
  losses = case.link.losses_rise;
  mark = case.link.mark_within;
}

flows_within : (cases : List Case) → All IsFlowWithin (map flow_link_of (map plan_of cases))
flows_within [] k d less = absurd (omega (arith, less))
flows_within (case ∷ rest) zero d less = flow_within case
flows_within (case ∷ rest) (suc k) d less = flows_within rest k d (omega (arith, less))

-- the limits of a flow say nothing of its start
start_within : (flow : FlowLink) → IsFlowWithin (link_at_once flow) → IsFlowWithin flow
start_within flow within = record {
  mss = within.mss;
  delay_us = within.delay_us;
  timeout_us = within.timeout_us;
  losses = within.losses;
  mark = within.mark;
}

starts_within : (flows : List FlowLink) → All IsFlowWithin (map link_at_once flows) → All IsFlowWithin flows
starts_within [] within k d less = absurd (omega (arith, less))
starts_within (flow ∷ rest) within zero d less = start_within flow (within 0 (link_at_once d) (omega arith))
starts_within (flow ∷ rest) within (suc k) d less =
    starts_within rest (λ j e h. within (suc j) e (omega (arith, h))) k d (omega (arith, less))

-- ---- the cases of a run's flows

abbrev pub case_of : CoreState → Case
case_of core = core.case

module _ {X : Type 0} (read : CaseReading X) where
  parts-cases : (lists : List (List Ack)) (flows : List CoreState) → map case_of (parts read lists flows) ≡ map case_of flows
  parts-cases [] flows = refl
  parts-cases (acks ∷ others) [] = refl
  parts-cases (acks ∷ others) (core ∷ rest) = λ i. part-case read acks core i ∷ parts-cases others rest i

  closed-cases : (flows : List CoreState) → map case_of (map (closed_flow read) flows) ≡ map case_of flows
  closed-cases [] = refl
  closed-cases (core ∷ rest) = λ i. settled-case read true core i ∷ closed-cases rest i

either-cases : (ends : Bool) (now later : Progress) (cases : List Case) → map case_of now.flows ≡ cases → map case_of later.flows ≡ cases
    → map case_of (if ends then now else later).flows ≡ cases
either-cases true now later cases here there = here
either-cases false now later cases here there = there

opened-cases : (cases : List Case) → map case_of (map opened cases) ≡ cases
opened-cases [] = refl
opened-cases (case ∷ rest) = ap (λ (cs : List Case). case ∷ cs) (opened-cases rest)

module _ {X : Type 0} (link : SharedCase) (read : CaseReading X) where
  rounds-cases : (n : ℕ) (run : Progress) → map case_of (rounds_from link read n run).flows ≡ map case_of run.flows
  rounds-cases zero run = refl
  rounds-cases (suc more) run =
      let next = after_round link read run in
      let here = parts-cases read (acks_after link run.history (asks_of read run.flows)) run.flows in
      either-cases (have_all next.flows) next (rounds_from link read more next) (map case_of run.flows) here (rounds-cases more next ∙ here)

  -- the flows at a run's end are those of its cases, in order
  pub flows-cases : (cases : List Case) (rounds : ℕ) → map case_of (flows_at_end link read cases rounds) ≡ cases
  flows-cases cases rounds =
      closed-cases read (whole_run link read cases rounds).flows
      ∙ rounds-cases (round_limit cases rounds) (progress [] (map opened cases))
      ∙ opened-cases cases

  pub flows-count : (cases : List Case) (rounds : ℕ) → length (flows_at_end link read cases rounds) ≡ length cases
  flows-count cases rounds =
      sym (length-map (flows_at_end link read cases rounds) case_of) ∙ ap length (flows-cases cases rounds)

-- one row a case
pub rows-count : (link : SharedCase) (cases : List Case) (rounds : ℕ) → length (shared_rows link over_codes cases rounds) ≡ length cases
rows-count link cases rounds = length-map (flows_at_end link over_codes cases rounds) (flow_row over_codes) ∙ flows-count link over_codes cases rounds

-- ---- the link

pub link_within : (link : SharedCase) (cases : List Case) → map link_at_once link.flows ≡ map flow_link_of (map plan_of cases) → length cases ≤ most_flows
    → (1 ≤ link.queue) × (link.queue ≤ most_queue) → (1 ≤ link.quantum_us) × (link.quantum_us ≤ most_quantum_us) → IsWithin link
link_within link cases links few queue quantum_us = record {
  few = subst (λ (n : ℕ). n ≤ most_flows)
      (sym (sym (length-map link.flows link_at_once) ∙ ap length links ∙ length-map (map plan_of cases) flow_link_of ∙ length-map cases plan_of))
      few;
  flows = starts_within link.flows (subst (λ flows. All IsFlowWithin flows) (sym links) (flows_within cases));
  queue = queue;
  quantum_us = quantum_us;
}
