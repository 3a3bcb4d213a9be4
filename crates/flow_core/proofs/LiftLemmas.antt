-- Where a case's codes simulate two programs, each word has the same meaning over the codes as over the programs.
use Rattle.std.specs.Prelude.{◌≡◌, ◌==◌, if◌then◌else◌, ℕ, Bool, true, false, List}
use Rattle.ccp_base.specs.declared.ack.Ack.{Ack}
use Rattle.ccp_base.specs.declared.place.Place.{Place}
use Rattle.portus_core.specs.Programs.{Form}
use Rattle.reg_compiler.specs.Simulation.{Simulates}
use Rattle.flow_core.specs.declared.case.Case.{Case}
use Rattle.flow_core.specs.Readings.{by_number, code_at, over_codes, over_sources}
use Rattle.flow_core.specs.World.{World, track_of, opening}
use Rattle.flow_core.specs.Lift.{place_in, map_world}
use Rattle.flow_core.specs.declared.letter.Letter.{Letter}
use Rattle.flow_core.specs.Words.{Giving, from_list, from_link, world_from, world_over, world, legal_from, legal, is_complete}
use Rattle.link_model.specs.declared.link_case.LinkCase.{LinkCase}
use Rattle.flow_core.proofs.ReadingLifts as lifts

-- ---- the two readings of a case

module _ (case : Case) (ss ca : Form) (ss_places ca_places : List Place)
    (ss_simulates : Simulates ss case.ss.code.code ss_places) (ca_simulates : Simulates ca case.ca.code.code ca_places) where
  simulates_where : (first : Bool) → Simulates (if first then ss else ca) (if first then case.ss.code.code else case.ca.code.code) (if first then ss_places else ca_places)
  simulates_where true = ss_simulates
  simulates_where false = ca_simulates

  abbrev both : lifts.BothReadings
  both = record {
    flow = case.flow;
    agent = case.agent;
    acks = case.acks;
    slots = case.slots;
    form_at = by_number case ss ca;
    code_at = code_at case;
    places_at = by_number case ss_places ca_places;
    simulates_at = λ number. simulates_where (number == case.ss.role.number);
  }

  -- if a state is one over the sources after a word, whoever gives the acknowledgements, the present epochs stand alike
  pub track-placed : (w : World ℕ) (giving : Giving Place) (word : List Letter)
      → map_world (place_in case ss_places ca_places) w ≡ world_from (over_sources case ss ca) giving (opening (over_sources case ss ca)) word
      → track_of (over_codes case) w ≡ track_of (over_sources case ss ca) (world_from (over_sources case ss ca) giving (opening (over_sources case ss ca)) word)
  track-placed w giving word same = lifts.track-placed both w giving word same

  -- both readings agree after every word: an instruction's index stands for its place
  pub lift : (acks : List Ack) (word : List Letter)
      → map_world (place_in case ss_places ca_places) (world_over (over_codes case) acks word) ≡ world_over (over_sources case ss ca) acks word
  lift acks word = lifts.worlds-lift both (from_list acks) (from_list acks) (lifts.from_list-alike both acks) word

  -- and so they do with the acknowledgements of a link
  pub link-lift : (link : LinkCase) (word : List Letter)
      → map_world (place_in case ss_places ca_places) (world (over_codes case) link word) ≡ world (over_sources case ss ca) link word
  link-lift link word =
      lifts.worlds-lift both (from_link (over_codes case) link) (from_link (over_sources case ss ca) link) (lifts.from_link-alike both link) word

  -- a word is legal in both readings or in neither
  pub legal_list-lift : (acks : List Ack) (word : List Letter)
      → legal_from (over_codes case) (from_list acks) (opening (over_codes case)) word
      ≡ legal_from (over_sources case ss ca) (from_list acks) (opening (over_sources case ss ca)) word
  legal_list-lift acks word = lifts.legals-lift both (from_list acks) (from_list acks) (lifts.from_list-alike both acks) word

  pub legal-lift : (link : LinkCase) (word : List Letter)
      → legal (over_codes case) link word ≡ legal (over_sources case ss ca) link word
  legal-lift link word =
      lifts.legals-lift both (from_link (over_codes case) link) (from_link (over_sources case ss ca) link) (lifts.from_link-alike both link) word

  -- and it is complete in both or in neither
  pub complete_over-lift : (acks : List Ack) (word : List Letter)
      → is_complete (over_codes case) (world_over (over_codes case) acks word)
      ≡ is_complete (over_sources case ss ca) (world_over (over_sources case ss ca) acks word)
  complete_over-lift acks word = lifts.completes-lift both (from_list acks) (from_list acks) (lifts.from_list-alike both acks) word

  pub complete-lift : (link : LinkCase) (word : List Letter)
      → is_complete (over_codes case) (world (over_codes case) link word)
      ≡ is_complete (over_sources case ss ca) (world (over_sources case ss ca) link word)
  complete-lift link word =
      lifts.completes-lift both (from_link (over_codes case) link) (from_link (over_sources case ss ca) link) (lifts.from_link-alike both link) word
