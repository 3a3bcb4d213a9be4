-- If a case's codes simulate two programs, its flow over the codes is alike to that over the programs.
use Rattle.std.specs.Prelude.{◌≡◌, ℕ, ◌+◌, ◌-◌, ◌*◌, nat_lt, ◌&&◌, if◌then◌else◌, Option, Some, None, option_map, List, length, refl}
use Rattle.std.proofs.Common.{ap, sym, ◌∙◌, subst}
use Rattle.ccp_base.specs.declared.ack.Ack.{Ack}
use Rattle.ccp_base.specs.declared.place.Place.{Place}
use Rattle.portus_core.specs.Programs.{Form}
use Rattle.portus_core.specs.Epoch.{Track}
use Rattle.reg_compiler.specs.Simulation.{Simulates}
use Rattle.flow_core.specs.declared.case.Case.{Case}
use Rattle.flow_core.specs.declared.letter.Letter.{Letter}
use Rattle.flow_core.specs.declared.letter.Letter.TheVariants.{T, C}
use Rattle.flow_core.specs.Readings.{Flow, over_codes, over_sources}
use Rattle.flow_core.specs.World.{Failure, Taken, World, track_of}
use Rattle.flow_core.specs.Words.{from_list, world_over, is_legal, most_letters}
use Rattle.flow_core.specs.States.{some_count}
use Rattle.flow_core.specs.Lift.{Placing, place_in, map_failure, map_taken, map_world}
use Rattle.flow_core.specs.LettersLeft.{letters_left}
use Rattle.flow_core.proofs.LiftLemmas.{lift}
use Rattle.campaign_core.specs.CampaignWord.{is_answer_due}
use Rattle.campaign_core.specs.CampaignRow.{window_of, row_over}
use Rattle.campaign_core.proofs.SourceReadings.{late-placed, some-placed, none-placed, can-placed, track-placed, row-placed}
use Rattle.shared_run.specs.LiftedFlow.{FlowHoldsForSources}
use Rattle.shared_run.proofs.LikeFlows.{AreLike, alike}

-- ---- what an instruction's place doesn't change

untold-placed : (place : Placing) (untold : Option (Failure ℕ)) → some_count untold ≡ some_count (option_map (map_failure place) untold)
untold-placed place None = refl
untold-placed place (Some failure) = refl

out-placed : (place : Placing) (out : Option (Taken ℕ)) → some_count out ≡ some_count (option_map (map_taken place) out)
out-placed place None = refl
out-placed place (Some ticket) = refl

-- ---- the two readings of a case

module _ (case : Case) (ss ca : Form) (ss_places ca_places : List Place)
    (ss_simulates : Simulates ss case.ss.code.code ss_places) (ca_simulates : Simulates ca case.ca.code.code ca_places) where
  abbrev codes : Flow ℕ
  codes = over_codes case

  abbrev sources : Flow Place
  sources = over_sources case ss ca

  abbrev place : Placing
  place = place_in case ss_places ca_places

  abbrev by_code : List Ack → List Letter → World ℕ
  by_code acks word = world_over codes acks word

  abbrev by_source : List Ack → List Letter → World Place
  by_source acks word = world_over sources acks word

  worlds-lift : (acks : List Ack) (word : List Letter) → map_world place (by_code acks word) ≡ by_source acks word
  worlds-lift acks word = lift case ss ca ss_places ca_places ss_simulates ca_simulates acks word

  track-lifts : (acks : List Ack) (word : List Letter) → track_of codes (by_code acks word) ≡ track_of sources (by_source acks word)
  track-lifts acks word =
      track-placed case ss ca ss_places ca_places ss_simulates ca_simulates (by_code acks word) (from_list acks) word (worlds-lift acks word)

  window-lifts : (acks : List Ack) (word : List Letter) → window_of codes (by_code acks word) ≡ window_of sources (by_source acks word)
  window-lifts acks word = ap (λ (track : Track). track.env.cwnd) (track-lifts acks word)

  -- ---- letters

  due-placed : (w : World ℕ) → is_answer_due codes case.lag w ≡ is_answer_due sources case.lag (map_world place w)
  due-placed w =
      λ i. if nat_lt (length w.acks) case.acks then late-placed place case.lag (length w.acks) w.out i else some-placed place w.out i

  takes-placed : (w : World ℕ) → is_legal codes w T ≡ is_legal sources (map_world place w) T
  takes-placed w = λ i. none-placed place w.out i && can-placed place w.waiting w.untold i

  left-placed : (w : World ℕ) → letters_left codes w ≡ letters_left sources (map_world place w)
  left-placed w =
      λ i. most_letters (case.acks - length w.acks) + (2 * (length w.waiting + untold-placed place w.untold i) + out-placed place w.out i)

  -- ---- the row

  rows-lift : (acks : List Ack) (word : List Letter) (peak : ℕ)
      → row_over codes (by_code acks word) peak ≡ row_over sources (by_source acks word) peak
  rows-lift acks word peak =
      row-placed case ss ca ss_places ca_places ss_simulates ca_simulates (by_code acks word) (from_list acks) word (worlds-lift acks word) peak

  like-lifted : AreLike case.lag codes sources
  like-lifted = record {
    window = window-lifts;
    due = λ acks word. due-placed (by_code acks word) ∙ ap (λ (w : World Place). is_answer_due sources case.lag w) (worlds-lift acks word);
    takes = λ acks word. takes-placed (by_code acks word) ∙ ap (λ (w : World Place). is_legal sources w T) (worlds-lift acks word);
    answers = λ acks word. some-placed place (by_code acks word).out ∙ ap (λ (w : World Place). is_legal sources w C) (worlds-lift acks word);
    left = λ acks word. left-placed (by_code acks word) ∙ ap (λ (w : World Place). letters_left sources w) (worlds-lift acks word);
    row = rows-lift;
  }

pub lifted : (case : Case) → FlowHoldsForSources case
lifted case sources ss ca ss_places ca_places is ss_simulates ca_simulates acks word =
    alike over_codes sources case
    (subst (λ (flow : Flow Place). AreLike case.lag (over_codes case) flow) (sym is)
    (like-lifted case ss ca ss_places ca_places ss_simulates ca_simulates)) acks word
