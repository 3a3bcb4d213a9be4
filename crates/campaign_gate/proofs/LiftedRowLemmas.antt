-- If a case's codes simulate two programs, its campaign word, the acknowledgements on it and its row over the codes
-- are those over the programs.
use Rattle.std.specs.Prelude.{◌≡◌, ℕ, zero, suc, max, nat_lt, ◌&&◌, if◌then◌else◌, List, [], ◌∷◌, ◌++◌, length, refl}
use Rattle.std.proofs.Common.{ap, sym, ◌∙◌}
use Rattle.ccp_base.specs.declared.place.Place.{Place}
use Rattle.portus_core.specs.Programs.{Form}
use Rattle.portus_core.specs.Epoch.{Track}
use Rattle.reg_compiler.specs.Simulation.{Simulates}
use Rattle.link_model.specs.declared.link_case.LinkCase.{LinkCase}
use Rattle.flow_core.specs.declared.case.Case.{Case}
use Rattle.flow_core.specs.declared.letter.Letter.{Letter}
use Rattle.flow_core.specs.Readings.{Flow, over_codes, over_sources}
use Rattle.flow_core.specs.World.{World, track_of}
use Rattle.flow_core.specs.Words.{from_link, after_letter, world, most_letters}
use Rattle.flow_core.specs.WordLaws.{world-append}
use Rattle.flow_core.specs.Lift.{Placing, place_in, map_world}
use Rattle.flow_core.proofs.LiftLemmas.{link-lift}
use Rattle.campaign_core.specs.CampaignWord.{first_letter, next_of, then_rest, plan_from, plan_over}
use Rattle.campaign_core.specs.CampaignRow.{window_of, peak_from, row_over, row_after, row_read, case_row}
use Rattle.campaign_gate.specs.LiftedRow.{RowHoldsForSources}
use Rattle.campaign_gate.specs.CampaignBooks.{acks_read, HasSourcePlan}
use Rattle.campaign_core.proofs.SourceReadings.{late-placed, some-placed, none-placed, can-placed, track-placed, row-placed}

-- ---- the two readings of a case

module _ (case : Case) (ss ca : Form) (ss_places ca_places : List Place)
    (ss_simulates : Simulates ss case.ss.code.code ss_places) (ca_simulates : Simulates ca case.ca.code.code ca_places) where
  abbrev codes : Flow ℕ
  codes = over_codes case

  abbrev sources : Flow Place
  sources = over_sources case ss ca

  abbrev link : LinkCase
  link = case.link

  abbrev place : Placing
  place = place_in case ss_places ca_places

  abbrev by_code : List Letter → World ℕ
  by_code word = world codes link word

  abbrev by_source : List Letter → World Place
  by_source word = world sources link word

  worlds-lift : (word : List Letter) → map_world place (by_code word) ≡ by_source word
  worlds-lift word = link-lift case ss ca ss_places ca_places ss_simulates ca_simulates link word

  pub track-lifts : (word : List Letter)
      → track_of (over_codes case) (world (over_codes case) case.link word)
      ≡ track_of (over_sources case ss ca) (world (over_sources case ss ca) case.link word)
  track-lifts word =
      track-placed case ss ca ss_places ca_places ss_simulates ca_simulates (by_code word) (from_link sources link) word (worlds-lift word)

  window-lifts : (word : List Letter) → window_of codes (by_code word) ≡ window_of sources (by_source word)
  window-lifts word = ap (λ (track : Track). track.env.cwnd) (track-lifts word)

  -- ---- the campaign word

  next-placed : (w : World ℕ) → next_of codes case.lag w ≡ next_of sources case.lag (map_world place w)
  next-placed w =
      let late = late-placed place case.lag (length w.acks) w.out in
      let some = some-placed place w.out in
      let none = none-placed place w.out in
      let can = can-placed place w.waiting w.untold in
      λ i. first_letter (if nat_lt (length w.acks) case.acks then late i else some i) (none i && can i) (nat_lt (length w.acks) case.acks)

  next-lifts : (word : List Letter) → next_of codes case.lag (by_code word) ≡ next_of sources case.lag (by_source word)
  next-lifts word = next-placed (by_code word) ∙ ap (λ (w : World Place). next_of sources case.lag w) (worlds-lift word)

  plans-lift : (most : ℕ) (word : List Letter)
      → plan_from codes link case.lag most (by_code word) ≡ plan_from sources link case.lag most (by_source word)
  plans-lift zero word = refl
  plans-lift (suc more) word =
      let step : (letter : Letter) → plan_from codes link case.lag more (after_letter codes (from_link codes link) (by_code word) letter)
      ≡ plan_from sources link case.lag more (after_letter sources (from_link sources link) (by_source word) letter) =
      λ letter. ap (λ (w : World ℕ). plan_from codes link case.lag more w) (sym (world-append codes link word letter))
      ∙ plans-lift more (word ++ letter ∷ [])
      ∙ ap (λ (w : World Place). plan_from sources link case.lag more w) (world-append sources link word letter) in
      λ i. then_rest (next-lifts word i) (λ letter. step letter i)

  plan-lifts : plan_over codes link case.lag ≡ plan_over sources link case.lag
  plan-lifts = plans-lift (most_letters case.acks) []

  acks-lift : acks_read codes link case.lag ≡ acks_read sources link case.lag
  acks-lift =
      ap (λ (w : World Place). w.acks) (worlds-lift (plan_over codes link case.lag))
      ∙ ap (λ (word : List Letter). (by_source word).acks) plan-lifts

  -- ---- the row

  peak-lifts : (rest front : List Letter) → peak_from codes (from_link codes link) (by_code front) rest ≡ peak_from sources (from_link sources link) (by_source front) rest
  peak-lifts [] front = window-lifts front
  peak-lifts (letter ∷ rest) front =
      let step = ap (λ (w : World ℕ). peak_from codes (from_link codes link) w rest) (sym (world-append codes link front letter))
      ∙ peak-lifts rest (front ++ letter ∷ [])
      ∙ ap (λ (w : World Place). peak_from sources (from_link sources link) w rest) (world-append sources link front letter) in
      λ i. max (window-lifts front i) (step i)

  rows-lift : (word : List Letter) → row_after codes link word ≡ row_after sources link word
  rows-lift word =
      row-placed case ss ca ss_places ca_places ss_simulates ca_simulates (by_code word) (from_link sources link) word (worlds-lift word)
      (peak_from codes (from_link codes link) (by_code []) word)
      ∙ ap (row_over sources (by_source word)) (peak-lifts word [])

  row-lifts : case_row case ≡ row_read (over_sources case ss ca) case.link case.lag
  row-lifts = rows-lift (plan_over codes link case.lag) ∙ ap (row_after sources link) plan-lifts

pub lifted : (case : Case) → RowHoldsForSources case
lifted case ss ca ss_places ca_places ss_simulates ca_simulates = row-lifts case ss ca ss_places ca_places ss_simulates ca_simulates

pub source-plan : (case : Case) → HasSourcePlan case
source-plan case = record {
  word = λ ss ca ss_places ca_places ss_simulates ca_simulates. plan-lifts case ss ca ss_places ca_places ss_simulates ca_simulates;
  acks = λ ss ca ss_places ca_places ss_simulates ca_simulates. acks-lift case ss ca ss_places ca_places ss_simulates ca_simulates;
}
