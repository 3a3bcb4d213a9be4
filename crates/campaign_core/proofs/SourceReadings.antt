-- If a case's codes simulate two programs, a state of its flow over the codes and that over the programs agree in all that
-- later letters and rows depend on, whoever gives the acknowledgements.
use Rattle.std.specs.Prelude.{◌≡◌, ℕ, ◌+◌, is_some, is_none, Option, Some, None, option_map, List, [], ◌∷◌, map, refl}
use Rattle.std.proofs.Common.{sym, ◌∙◌}
use Rattle.std.proofs.lemmas.List.{length-map}
use Rattle.ccp_base.specs.declared.place.Place.{Place}
use Rattle.portus_core.specs.Programs.{Form}
use Rattle.reg_compiler.specs.Simulation.{Simulates}
use Rattle.flow_core.specs.declared.case.Case.{Case}
use Rattle.flow_core.specs.declared.letter.Letter.{Letter}
use Rattle.flow_core.specs.Readings.{Flow, over_codes, over_sources}
use Rattle.flow_core.specs.World.{Content, of_report, of_failure, Taken, Answered, World, opening, told_as}
use Rattle.flow_core.specs.Words.{Giving, world_from}
use Rattle.flow_core.specs.Lift.{Placing, place_in, map_failure, map_content, map_taken, map_answered, map_world}
use Rattle.flow_core.specs.Books.{ticket_line}
use Rattle.flow_core.specs.LiveText.{report_count, reports_told}
use Rattle.flow_core.specs.Summaries.{Summary, summary}
use Rattle.flow_core.proofs.MappedLemmas.{some-mapped, none-mapped}
pub use Rattle.flow_core.proofs.PlacedParts.{can-placed}
pub use Rattle.flow_core.proofs.LiftLemmas.{track-placed}
use Rattle.campaign_core.specs.CampaignWord.{is_late}
use Rattle.campaign_core.specs.CampaignRow.{sums_of, row_in, row_over}

-- ---- what an instruction's place doesn't change

pub late-placed : (place : Placing) (lag acks : ℕ) (out : Option (Taken ℕ)) → is_late lag acks out ≡ is_late lag acks (option_map (map_taken place) out)
late-placed place lag acks None = refl
late-placed place lag acks (Some ticket) = refl

pub some-placed : (place : Placing) (out : Option (Taken ℕ)) → is_some out ≡ is_some (option_map (map_taken place) out)
some-placed place out = some-mapped (map_taken place) out

pub none-placed : (place : Placing) (out : Option (Taken ℕ)) → is_none out ≡ is_none (option_map (map_taken place) out)
none-placed place out = none-mapped (map_taken place) out

-- a report or a failure counts the same, whether a fault's site is given in the code or in the source
told-placed : (codes : Flow ℕ) (sources : Flow Place) (place : Placing) (told : Content ℕ)
    → reports_told (told_as codes told) ≡ reports_told (told_as sources (map_content place told))
told-placed codes sources place (of_report report) = refl
told-placed codes sources place (of_failure failure) = refl

pub reports-placed : (codes : Flow ℕ) (sources : Flow Place) (place : Placing) (tickets : List (Answered ℕ))
    → report_count (map (ticket_line codes) tickets) ≡ report_count (map (ticket_line sources) (map (map_answered place) tickets))
reports-placed codes sources place [] = refl
reports-placed codes sources place (ticket ∷ rest) =
    λ i. told-placed codes sources place ticket.told i + reports-placed codes sources place rest i

-- a summary without what may have a fault notice
abbrev without_notices : Summary → Summary
without_notices s = record s { untold = None; out = None }

-- ---- the two readings of a case

module _ (case : Case) (ss ca : Form) (ss_places ca_places : List Place)
    (ss_simulates : Simulates ss case.ss.code.code ss_places) (ca_simulates : Simulates ca case.ca.code.code ca_places) where
  abbrev codes : Flow ℕ
  codes = over_codes case

  abbrev sources : Flow Place
  sources = over_sources case ss ca

  abbrev place : Placing
  place = place_in case ss_places ca_places

  -- the state over the sources is after a word, whoever gives the acknowledgements
  module _ (w : World ℕ) (giving : Giving Place) (word : List Letter)
      (same : map_world place w ≡ world_from sources giving (opening sources) word) where
    abbrev v : World Place
    v = world_from sources giving (opening sources) word

    -- both summaries are the same, but for the index in a fault notice
    pub summary-placed : without_notices (summary codes w) ≡ without_notices (summary sources v)
    summary-placed =
        let answered = sym (length-map w.answered (map_answered place)) in
        let faults = sym (length-map w.faults (map_failure place)) in
        let track = track-placed case ss ca ss_places ca_places ss_simulates ca_simulates w giving word same in
        (λ i. record (without_notices (summary codes w)) {
          answered = answered i;
          told = reports-placed codes sources place w.answered i;
          faults = faults i;
        })
        ∙ (λ i. record (without_notices (summary sources (same i))) { track = track i })

    -- and so are the rows
    pub row-placed : (peak : ℕ) → row_over codes w peak ≡ row_over sources v peak
    row-placed peak =
        (λ i. row_in (summary-placed i) (sums_of (same i).acks) peak)
