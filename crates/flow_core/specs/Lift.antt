-- A flow's state over its codes, as one over its sources: each fault's instruction becomes its place.
use Rattle.std.specs.Prelude.{◌≡◌, ℕ, option_map, List, map}
use Rattle.ccp_base.specs.declared.ack.Ack.{Ack}
use Rattle.ccp_base.specs.declared.place.Place.{Place}
use Rattle.portus_core.specs.Programs.{Form}
pub use Rattle.reg_compiler.specs.Simulation.{missing_place, place_at}
use Rattle.reg_compiler.specs.Simulation.{Simulates}
use Rattle.link_model.specs.declared.link_case.LinkCase.{LinkCase}
use Rattle.flow_core.specs.declared.case.Case.{Case}
use Rattle.flow_core.specs.declared.letter.Letter.{Letter}
use Rattle.flow_core.specs.Readings.{Flow, by_number, over_codes, over_sources}
use Rattle.flow_core.specs.World.{Failure, Content, of_report, of_failure, Taken, Answered, World, opening}
use Rattle.flow_core.specs.Words.{Giving, from_list, from_link, world_from, legal_from, is_complete}

-- the place of a program's instruction, by the program's number
abbrev pub place_in : Case → List Place → List Place → ℕ → ℕ → Place
place_in case ss_places ca_places program = place_at (by_number case ss_places ca_places program)

-- by a program's number and an instruction's index, its place
abbrev pub Placing : Type 0
Placing = ℕ → ℕ → Place

abbrev pub map_failure : Placing → Failure ℕ → Failure Place
map_failure place failure = record {
  program = failure.program;
  epoch = failure.epoch;
  at = failure.at;
  kind = failure.kind;
  site = place failure.program failure.site;
  now = failure.now;
  cwnd = failure.cwnd;
}

abbrev pub map_content : Placing → Content ℕ → Content Place
map_content place (of_report report) = of_report report
map_content place (of_failure failure) = of_failure (map_failure place failure)

abbrev pub map_taken : Placing → Taken ℕ → Taken Place
map_taken place ticket = record { told = map_content place ticket.told; taken = ticket.taken }

abbrev pub map_answered : Placing → Answered ℕ → Answered Place
map_answered place ticket = record {
  told = map_content place ticket.told;
  taken = ticket.taken;
  answered = ticket.answered;
  reply = ticket.reply;
}

abbrev pub map_world : Placing → World ℕ → World Place
map_world place w = record {
  acks = w.acks;
  windows = w.windows;
  past = w.past;
  present = w.present;
  waiting = w.waiting;
  untold = option_map (map_failure place) w.untold;
  agent = w.agent;
  answered = map (map_answered place) w.answered;
  out = option_map (map_taken place) w.out;
  faults = map (map_failure place) w.faults;
  held = w.held;
}

-- ---- whole words

-- after a word both readings have the same state, and the word is legal in both or in neither, and complete in both or
-- in neither
pub record ReadsAlike (place : Placing) (codes : Flow ℕ) (sources : Flow Place)
    (by_codes : Giving ℕ) (by_sources : Giving Place) (word : List Letter) : Type 0 where
  pub state :
      map_world place (world_from codes by_codes (opening codes) word)
      ≡ world_from sources by_sources (opening sources) word
  pub legal : legal_from codes by_codes (opening codes) word ≡ legal_from sources by_sources (opening sources) word
  pub complete : is_complete codes (world_from codes by_codes (opening codes) word)
      ≡ is_complete sources (world_from sources by_sources (opening sources) word)

-- for all programs that the codes simulate, and each link and word
abbrev pub LiftsLink : Case → Type 0
LiftsLink case =
    (ss ca : Form) (ss_places ca_places : List Place)
    → Simulates ss case.ss.code.code ss_places
    → Simulates ca case.ca.code.code ca_places
    → (link : LinkCase) (word : List Letter)
    → ReadsAlike (place_in case ss_places ca_places) (over_codes case) (over_sources case ss ca)
    (from_link (over_codes case) link) (from_link (over_sources case ss ca) link) word

-- for all programs that the codes simulate, and each list of acknowledgements and each word
abbrev pub LiftsList : Case → Type 0
LiftsList case =
    (ss ca : Form) (ss_places ca_places : List Place)
    → Simulates ss case.ss.code.code ss_places
    → Simulates ca case.ca.code.code ca_places
    → (acks : List Ack) (word : List Letter)
    → ReadsAlike (place_in case ss_places ca_places) (over_codes case) (over_sources case ss ca)
    (from_list acks) (from_list acks) word
