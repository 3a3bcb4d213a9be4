-- A driven flow's state over the codes of its programs is the one over their sources.
use Rattle.std.specs.Prelude.{◌≡◌, ◌==◌, ◌&&◌, nat_lt, max, if◌then◌else◌, ℕ, Bool, true, false, Option, Some, None, option_map, List, [], ◌∷◌, length, slice_get, refl}
use Rattle.std.proofs.Common.{ap, sym, ◌∙◌, subst}
use Rattle.std.proofs.lemmas.List.{map-append, length-map}
use Rattle.ccp_base.specs.FieldReg.{Pair}
use Rattle.ccp_base.specs.declared.ack.Ack.{Ack}
use Rattle.ccp_base.specs.declared.place.Place.{Place}
use Rattle.portus_core.specs.ProgramForm.{form_of}
use Rattle.portus_core.specs.Programs.{Form}
use Rattle.portus_core.specs.Epoch.{Track}
use Rattle.reg_code.specs.declared.code.Code.{Code}
use Rattle.reg_compiler.specs.declared.built.Built.{Built}
use Rattle.reg_compiler.specs.Simulation.{Simulates}
use Rattle.link_model.specs.declared.link_case.LinkCase.{LinkCase}
use Rattle.campaign_core.specs.CampaignRow.{sums_of, row_in, row_over}
use Rattle.campaign_core.specs.CampaignWord.{first_letter, next_of}
use Rattle.campaign_core.proofs.SourceReadings.{late-placed, some-placed, none-placed, reports-placed}
use Rattle.flow_core.specs.declared.letter.Letter.{Letter}
use Rattle.flow_core.specs.declared.letter.Letter.TheVariants.{A, T, C}
use Rattle.flow_core.specs.Lift.{Placing, map_failure, map_taken, map_answered, map_world}
use Rattle.flow_core.specs.LiveText.{source_at, sources_of}
use Rattle.flow_core.specs.Readings.{Flow}
use Rattle.flow_core.specs.Summaries.{summary}
use Rattle.flow_core.specs.Words.{Giving, from_link, with_given}
use Rattle.flow_core.specs.World.{Era, Taken, World, time_of, track_of, era_of, takeable}
use Rattle.flow_core.proofs.PlacedParts.{take-lifts, can-placed}
use Rattle.flow_core.proofs.ReadingLifts as readings
use Rattle.flow_core.proofs.ReadingLifts.{BothReadings, track-lifts, era-lifts, Shaped-era, given-lifts, Shaped-given, Shaped-taken, from_link-alike}
use Rattle.driven_flow.specs.declared.case.DrivenCase.{DrivenCase}
use Rattle.driven_flow.specs.Driven.{Given, Codes, unasked, codes_of, code_in, over_codes, over_sources, with_values_given, with_answer, answered_by, after_letter, world_from, peak_from, initial_window, begun, DrivenState, places_in, placed_in, ReadsAlike, ReadsAsSources}
use Rattle.driven_flow.proofs.StateLemmas.{answered_now, shut}

-- ---- programs by their numbers

-- code without an instruction simulates a program without a declaration
empty-simulates : (number : ℕ) → Simulates (source_at [] number) (code_in [] number) []
empty-simulates number = (refl, refl, (refl, refl), λ env ack room shape. (refl, refl))

simulates-where : (first : Bool) (built : Built) (form : Form) (code : Code) (places : List Place) → Simulates form code places
    → Simulates (if first then form_of built.program else form) (if first then built.code.code else code) (if first then built.places else places)
simulates-where true built form code places simulates = built.simulates
simulates-where false built form code places simulates = simulates

simulates-all : (programs : List (ℕ × Built)) (number : ℕ)
    → Simulates (source_at (sources_of programs) number) (code_in (codes_of programs) number) (places_in programs number)
simulates-all [] number = empty-simulates number
simulates-all (program ∷ rest) number =
    simulates-where (program.0 == number) program.1 (source_at (sources_of rest) number) (code_in (codes_of rest) number) (places_in rest number)
    (simulates-all rest number)

-- ---- the two readings

module _ (programs : List (ℕ × Built)) (case : DrivenCase) where
  abbrev codes : Flow ℕ
  codes = over_codes (codes_of programs) case

  abbrev sources : Flow Place
  sources = over_sources (sources_of programs) case

  abbrev place : Placing
  place = placed_in programs

  -- its programs by their numbers
  abbrev both : BothReadings
  both = record {
    flow = case.flow;
    agent = unasked;
    acks = case.acks;
    slots = case.slots;
    form_at = source_at (sources_of programs);
    code_at = code_in (codes_of programs);
    places_at = places_in programs;
    simulates_at = simulates-all programs;
  }

  -- the env that the present epoch started with is one of its program
  abbrev Shaped : Era → Type 0
  Shaped era = readings.Shaped both era

  window-lifts : (w : World ℕ) → Shaped w.present → (track_of codes w).env.cwnd ≡ (track_of sources (map_world place w)).env.cwnd
  window-lifts w shape = ap (λ (t : Track). t.env.cwnd) (track-lifts both w.present shape)

  -- ---- C

  values-lifts : (program : Option ℕ) (values : List Pair) (w : World ℕ) → Shaped w.present
      → map_world place (with_values_given codes program values w) ≡ with_values_given sources program values (map_world place w)
  values-lifts None [] w shape = refl
  values-lifts None (pair ∷ rest) w shape = refl
  values-lifts (Some program) values w shape =
      let env = (track_of codes w).env in
      let eras = era-lifts both program (length w.acks) values env.cwnd env.rate (time_of w.acks)
      ∙ ap (λ (t : Track). era_of sources program (length w.acks) values t.env.cwnd t.env.rate (time_of w.acks))
      (track-lifts both w.present shape) in
      λ i. record (with_values_given sources (Some program) values (map_world place w)) { present = eras i }

  Shaped-values : (program : Option ℕ) (values : List Pair) (w : World ℕ) → Shaped w.present → Shaped (with_values_given codes program values w).present
  Shaped-values None [] w shape = shape
  Shaped-values None (pair ∷ rest) w shape = shape
  Shaped-values (Some program) values w shape =
      let env = (track_of codes w).env in
      Shaped-era both program (length w.acks) values env.cwnd env.rate (time_of w.acks)

  shut-lifts : (ticket : Taken ℕ) (w : World ℕ)
      → map_world place (shut codes ticket w) ≡ shut sources (map_taken place ticket) (map_world place w)
  shut-lifts ticket w =
      λ i. record (shut sources (map_taken place ticket) (map_world place w)) {
        answered = map-append (map_answered place) w.answered (answered_now codes ticket w ∷ []) i;
      }

  answer-lifts : (given : Given) (out : Option (Taken ℕ)) (w : World ℕ) → Shaped w.present
      → map_world place (with_answer codes given out w) ≡ with_answer sources given (option_map (map_taken place) out) (map_world place w)
  answer-lifts given None w shape = refl
  answer-lifts given (Some ticket) w shape =
      values-lifts given.program given.values (shut codes ticket w) shape
      ∙ ap (λ (v : World Place). with_values_given sources given.program given.values v) (shut-lifts ticket w)

  Shaped-answer : (given : Given) (out : Option (Taken ℕ)) (w : World ℕ) → Shaped w.present → Shaped (with_answer codes given out w).present
  Shaped-answer given None w shape = shape
  Shaped-answer given (Some ticket) w shape = Shaped-values given.program given.values (shut codes ticket w) shape

  answered-lifts : (given : Option Given) (w : World ℕ) → Shaped w.present
      → map_world place (answered_by codes given w) ≡ answered_by sources given (map_world place w)
  answered-lifts None w shape = refl
  answered-lifts (Some given) w shape = answer-lifts given w.out w shape

  Shaped-answered : (given : Option Given) (w : World ℕ) → Shaped w.present → Shaped (answered_by codes given w).present
  Shaped-answered None w shape = shape
  Shaped-answered (Some given) w shape = Shaped-answer given w.out w shape

  -- ---- words

  module _ (link : LinkCase) (answers : List Given) where
    abbrev by_codes : Giving ℕ
    by_codes = from_link codes link

    abbrev by_sources : Giving Place
    by_sources = from_link sources link

    letter-lifts : (letter : Letter) (w : World ℕ) → Shaped w.present
        → map_world place (after_letter codes by_codes answers w letter) ≡ after_letter sources by_sources answers (map_world place w) letter
    letter-lifts A w shape =
        given-lifts both (by_codes w) w shape ∙ ap (λ (ack : Option Ack). with_given sources ack (map_world place w)) (from_link-alike both link w shape)
    letter-lifts T w shape = take-lifts place w
    letter-lifts C w shape =
        answered-lifts (slice_get answers (length w.answered)) w shape
        ∙ ap (λ (n : ℕ). answered_by sources (slice_get answers n) (map_world place w)) (sym (length-map w.answered (map_answered place)))

    Shaped-letter : (letter : Letter) (w : World ℕ) → Shaped w.present → Shaped (after_letter codes by_codes answers w letter).present
    Shaped-letter A w shape = Shaped-given both (by_codes w) w shape
    Shaped-letter T w shape = Shaped-taken both (takeable w.waiting w.untold) w shape
    Shaped-letter C w shape = Shaped-answered (slice_get answers (length w.answered)) w shape

    world-lifts : (word : List Letter) (w : World ℕ) → Shaped w.present
        → map_world place (world_from codes by_codes answers w word) ≡ world_from sources by_sources answers (map_world place w) word
    world-lifts [] w shape = refl
    world-lifts (letter ∷ rest) w shape =
        world-lifts rest (after_letter codes by_codes answers w letter) (Shaped-letter letter w shape)
        ∙ ap (λ (v : World Place). world_from sources by_sources answers v rest) (letter-lifts letter w shape)

    Shaped-world : (word : List Letter) (w : World ℕ) → Shaped w.present → Shaped (world_from codes by_codes answers w word).present
    Shaped-world [] w shape = shape
    Shaped-world (letter ∷ rest) w shape =
        Shaped-world rest (after_letter codes by_codes answers w letter) (Shaped-letter letter w shape)

    peak-lifts : (word : List Letter) (w : World ℕ) → Shaped w.present
        → peak_from codes by_codes answers w word ≡ peak_from sources by_sources answers (map_world place w) word
    peak-lifts [] w shape = window-lifts w shape
    peak-lifts (letter ∷ rest) w shape =
        let next = after_letter codes by_codes answers w letter in
        let later = peak-lifts rest next (Shaped-letter letter w shape)
        ∙ ap (λ (v : World Place). peak_from sources by_sources answers v rest) (letter-lifts letter w shape) in
        λ i. max (window-lifts w shape i) (later i)

  -- ---- what a state says

  next-lifts : (lag : ℕ) (w : World ℕ) → next_of codes lag w ≡ next_of sources lag (map_world place w)
  next-lifts lag w =
      λ i. first_letter
      (if nat_lt (length w.acks) case.acks then late-placed place lag (length w.acks) w.out i else some-placed place w.out i)
      (none-placed place w.out i && can-placed place w.waiting w.untold i)
      (nat_lt (length w.acks) case.acks)

  row-lifts : (w : World ℕ) (peak : ℕ) → Shaped w.present → row_over codes w peak ≡ row_over sources (map_world place w) peak
  row-lifts w peak shape =
      λ i. row_in (record (summary codes w) {
        untold = None;
        out = None;
        track = track-lifts both w.present shape i;
        answered = sym (length-map w.answered (map_answered place)) i;
        told = reports-placed codes sources place w.answered i;
        faults = sym (length-map w.faults (map_failure place)) i;
      }) (sums_of w.acks) peak

  begun-lifts : (mss program : ℕ) (values : List Pair) → map_world place (begun codes mss program values) ≡ begun sources mss program values
  begun-lifts mss program values =
      ap (λ (era : Era). record (begun sources mss program values) { present = era }) (era-lifts both program 0 values (initial_window mss) 0 0)

  Shaped-begun : (mss program : ℕ) (values : List Pair) → Shaped (begun codes mss program values).present
  Shaped-begun mss program values = Shaped-era both program 0 values (initial_window mss) 0 0

-- ---- the law

-- the same flow with these codes
abbrev coded_as : Codes → DrivenState → DrivenState
coded_as codes s = record s { programs = codes }

reads-coded : (programs : List (ℕ × Built)) (s : DrivenState) → ReadsAlike programs (coded_as (codes_of programs) s)
reads-coded programs s =
    let case = s.case in
    let first = begun (over_codes (codes_of programs) case) case.link.mss s.program s.values in
    let shape = Shaped-begun programs case case.link.mss s.program s.values in
    let start = begun-lifts programs case case.link.mss s.program s.values in
    let w = world_from (over_codes (codes_of programs) case) (from_link (over_codes (codes_of programs) case) case.link) s.answers first s.word in
    let end = Shaped-world programs case case.link s.answers s.word first shape in
    let state = world-lifts programs case case.link s.answers s.word first shape
    ∙ ap (λ (v : World Place). world_from (over_sources (sources_of programs) case) (from_link (over_sources (sources_of programs) case) case.link) s.answers v s.word) start in
    let peak = peak-lifts programs case case.link s.answers s.word first shape
    ∙ ap (λ (v : World Place). peak_from (over_sources (sources_of programs) case) (from_link (over_sources (sources_of programs) case) case.link) s.answers v s.word) start in
    record {
      state = state;
      peak = peak;
      next = next-lifts programs case case.lag w ∙ ap (λ (v : World Place). next_of (over_sources (sources_of programs) case) case.lag v) state;
      track =
          track-lifts (both programs case) w.present end
          ∙ ap (λ (v : World Place). track_of (over_sources (sources_of programs) case) v) state;
      row =
          row-lifts programs case w (peak_from (over_codes (codes_of programs) case) (from_link (over_codes (codes_of programs) case) case.link) s.answers first s.word) end
          ∙ (λ i. row_over (over_sources (sources_of programs) case) (state i) (peak i));
    }

pub reads-alike : (s : DrivenState) → ReadsAsSources s
reads-alike s programs same = subst (λ (codes : Codes). ReadsAlike programs (coded_as codes s)) same (reads-coded programs s)
