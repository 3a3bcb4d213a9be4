-- A flow whose changes and updates come from outside: how its programs are read, and its state after a word.
use Rattle.std.specs.Prelude.{◌≡◌, ℕ, ◌==◌, ◌*◌, ◌<◌, max, if◌then◌else◌, Bool, true, false, Option, Some, None, option_map}
use Rattle.std.specs.Prelude.{List, [], ◌∷◌, ◌++◌, length, map, slice_get}
use Rattle.std.specs.Option.{ForSome}
use Rattle.ccp_base.specs.Limits.{most_fields, most_controls}
use Rattle.ccp_base.specs.FieldReg.{Pair, first_bad_pair}
use Rattle.ccp_base.specs.Course.{initial_segments}
use Rattle.ccp_base.specs.declared.place.Place.{Place}
use Rattle.ccp_base.specs.declared.exchange.Reply.TheVariants.{Nothing}
use Rattle.portus_core.specs.Epoch.{updated, by_source, declared_env}
use Rattle.reg_code.specs.declared.code.Code.{Code}
use Rattle.reg_code.specs.CodeStart.{declared_kept}
use Rattle.reg_compiler.specs.declared.built.Built.{Built}
use Rattle.flow_core.specs.declared.letter.Letter.{Letter}
use Rattle.flow_core.specs.declared.letter.Letter.TheVariants.{A, T, C}
use Rattle.campaign_core.specs.CampaignRow.{row_over}
use Rattle.campaign_core.specs.CampaignWord.{next_of}
use Rattle.flow_core.specs.LettersLeft.{letters_left}
use Rattle.flow_core.specs.Lift.{Placing, place_at, map_world}
use Rattle.flow_core.specs.LiveText.{Sources, source_at, sources_of}
use Rattle.flow_core.specs.Readings.{Flow, by_code, env_of}
use Rattle.flow_core.specs.World.{World, Taken, track_of, time_of, era_of, with_event, after_take, told_as}
use Rattle.flow_core.specs.Words.{Giving, with_given, from_link, is_legal}
use Rattle.ccp_base.specs.declared.look.Role.{Role}
use Rattle.ccp_base.specs.declared.course.Phase.TheVariants.{SlowStart}
use Rattle.ccp_base.specs.declared.exchange.Told.{Told}
use Rattle.agent_core.specs.declared.agent.Agent.{Agent}
use Rattle.agent_core.specs.declared.agent.Agent.TheVariants.{Reno}
use Rattle.driven_flow.specs.declared.case.DrivenCase.{DrivenCase}
use Rattle.driven_flow.specs.declared.answer.Answer.{Answer}

-- ---- its programs

-- the codes of programs, each with its number
abbrev pub Codes : Type 0
Codes = List (ℕ × Code)

abbrev pub codes_of : List (ℕ × Built) → Codes
codes_of programs = map (λ (program : ℕ × Built). (program.0, program.1.code.code)) programs

-- of programs, each with its number, the code of the first one with this number; one without an instruction if there is
-- none
abbrev pub code_in : Codes → ℕ → Code
code_in [] number = record { reports = []; controls = []; events = []; instrs = [] }
code_in (program ∷ rest) number = if program.0 == number then program.1 else code_in rest number

-- one of the programs has this number
abbrev pub is_known : Codes → ℕ → Bool
is_known [] number = false
is_known (program ∷ rest) number = if program.0 == number then true else is_known rest number

-- where nothing is named, what is named is in range
pub none-below : (most : ℕ) → ForSome None (λ n. n < most)
none-below most = λ n none. cc

-- a flow's state has an agent; this one, with this program in both roles, is never asked
abbrev pub unasked_role : Role
unasked_role = record {
  number = 0;
  look = record {
    acked = None;
    loss = None;
    timeout = None;
    rtt = None;
    inflight = None;
    cap = None;
    mss = None;
    ecn = None;
    acked_below = none-below most_fields;
    loss_below = none-below most_fields;
    timeout_below = none-below most_fields;
    rtt_below = none-below most_fields;
    inflight_below = none-below most_fields;
    cap_below = none-below most_controls;
    mss_below = none-below most_controls;
    ecn_below = none-below most_fields;
  };
}

abbrev pub unasked : Agent
unasked = Reno (record {
  mss = 1;
  course = record { ss = unasked_role; ca = unasked_role; mode = SlowStart; epoch = 0 };
  window = 1;
  ssthresh = 0;
  calm = 0;
})

-- the flow, read over the codes of its programs
abbrev pub over_codes : Codes → DrivenCase → Flow ℕ
over_codes programs case = record {
  number = case.flow;
  agent = unasked;
  acks = case.acks;
  slots = case.slots;
  reading = λ number. by_code (code_in programs number);
  declared = λ number cwnd rate now. env_of (declared_kept (code_in programs number) cwnd rate now);
  index = λ index. index;
}

-- the flow, read over the sources of its programs; a place has no index
abbrev pub over_sources : Sources → DrivenCase → Flow Place
over_sources sources case = record {
  number = case.flow;
  agent = unasked;
  acks = case.acks;
  slots = case.slots;
  reading = λ number. by_source (source_at sources number);
  declared = λ number. declared_env (source_at sources number);
  index = λ place. 0;
}

-- ---- answers

-- an answer: the program that it changes to, if it is a change, and the values that it writes, in order
abbrev pub Given : Type 0
Given = Answer

-- the program that an answer's values are for, if this one runs: that which it changes to, else this one
abbrev pub program_for : ℕ → Option ℕ → ℕ
program_for running None = running
program_for running (Some program) = program

-- the program that an answer changes to, if it is a change, is one of the programs
abbrev pub is_known_for : Codes → Option ℕ → Bool
is_known_for programs None = true
is_known_for programs (Some program) = is_known programs program

-- the place of an answer's first value that names a control variable which the program that its values are for, if this
-- one runs, doesn't have
abbrev pub bad_in : Codes → ℕ → Given → Option ℕ
bad_in programs running given =
    first_bad_pair (length (code_in programs (program_for running given.program)).controls) given.values

-- an update writes its values, and without values does nothing; a change ends the epoch, starts one, and makes an
-- untold notice void
abbrev pub with_values_given : {X : Type 0} → Flow X → Option ℕ → List Pair → World X → World X
with_values_given flow None [] w = w
with_values_given flow None (pair ∷ rest) w = record w { present = with_event (updated (pair ∷ rest)) w.present }
with_values_given flow (Some program) values w =
    let env = (track_of flow w).env in
    record w {
      past = w.past ++ w.present ∷ [];
      present = era_of flow program (length w.acks) values env.cwnd env.rate (time_of w.acks);
      untold = None;
    }

-- the ticket that is out is answered; what was answered stands beside the state, in the order of the tickets
abbrev pub with_answer : {X : Type 0} → Flow X → Given → Option (Taken X) → World X → World X
with_answer flow given None w = w
with_answer flow given (Some ticket) w =
    with_values_given flow given.program given.values (record w {
      out = None;
      answered =
          w.answered
          ++ record { told = ticket.told; taken = ticket.taken; answered = length w.acks; reply = Nothing } ∷ [];
    })

abbrev pub after_given : {X : Type 0} → Flow X → Given → World X → World X
after_given flow given w = with_answer flow given w.out w

-- ---- its state after a word

-- the window before the first change, in bytes: the initial window of RFC 5681, section 3.1
abbrev pub initial_window : ℕ → ℕ
initial_window mss = initial_segments mss * mss

-- the first change starts epoch 0 with this program and these values, with time zero 0
abbrev pub begun : {X : Type 0} → Flow X → ℕ → ℕ → List Pair → World X
begun flow mss program values = record {
  acks = [];
  windows = [];
  past = [];
  present = era_of flow program 0 values (initial_window mss) 0 0;
  waiting = [];
  untold = None;
  agent = flow.agent;
  answered = [];
  out = None;
  faults = [];
  held = 0;
}

-- the ticket with the next number gets the answer with this number, if there is one
abbrev pub answered_by : {X : Type 0} → Flow X → Option Given → World X → World X
answered_by flow None w = w
answered_by flow (Some given) w = after_given flow given w

-- the state after one more letter
abbrev pub after_letter : {X : Type 0} → Flow X → Giving X → List Given → World X → Letter → World X
after_letter flow giving answers w A = with_given flow (giving w) w
after_letter flow giving answers w T = after_take w
after_letter flow giving answers w C = answered_by flow (slice_get answers (length w.answered)) w

abbrev pub world_from : {X : Type 0} → Flow X → Giving X → List Given → World X → List Letter → World X
world_from flow giving answers w [] = w
world_from flow giving answers w (letter ∷ rest) =
    world_from flow giving answers (after_letter flow giving answers w letter) rest

-- the greatest `Cwnd` in a state or after a letter of a word from there on
abbrev pub peak_from : {X : Type 0} → Flow X → Giving X → List Given → World X → List Letter → ℕ
peak_from flow giving answers w [] = (track_of flow w).env.cwnd
peak_from flow giving answers w (letter ∷ rest) =
    max (track_of flow w).env.cwnd
    (peak_from flow giving answers (after_letter flow giving answers w letter) rest)

-- a flow after its first change: its case, its programs, that change, the answers so far and its word
pub record DrivenState : Type 0 where
  pub case : DrivenCase
  pub programs : Codes
  pub program : ℕ
  pub values : List Pair
  pub answers : List Given
  pub word : List Letter

-- its state, and its greatest window so far, by a reading
abbrev pub state_by : {X : Type 0} → Flow X → DrivenState → World X
state_by flow s =
    world_from flow (from_link flow s.case.link) s.answers (begun flow s.case.link.mss s.program s.values) s.word

abbrev pub peak_by : {X : Type 0} → Flow X → DrivenState → ℕ
peak_by flow s =
    peak_from flow (from_link flow s.case.link) s.answers (begun flow s.case.link.mss s.program s.values) s.word

-- the flow over its codes, and its state after its word
abbrev pub flow_by : DrivenState → Flow ℕ
flow_by s = over_codes s.programs s.case

abbrev pub world_by : DrivenState → World ℕ
world_by s = state_by (flow_by s) s

-- the letter is legal now
abbrev pub MayMake : DrivenState → Letter → Type 0
MayMake s letter = is_legal (flow_by s) (world_by s) letter ≡ true

-- what the ticket that is out tells, or none
abbrev pub told_out : {X : Type 0} → Flow X → World X → Option Told
told_out flow w = option_map (λ ticket. told_as flow ticket.told) w.out

-- the number of the program that runs
abbrev pub present_of : DrivenState → ℕ
present_of s = (world_by s).present.program

-- the state after one more letter, with the answers so far
abbrev pub after_next : DrivenState → Letter → World ℕ
after_next s letter = after_letter (flow_by s) (from_link (flow_by s) s.case.link) s.answers (world_by s) letter

-- how many letters the word can have yet
abbrev pub left_of : DrivenState → ℕ
left_of s = letters_left (flow_by s) (world_by s)

-- ---- the state, read over the sources

-- the places of the instructions of the first program with this number; none if there is no such program
abbrev pub places_in : List (ℕ × Built) → ℕ → List Place
places_in [] number = []
places_in (program ∷ rest) number = if program.0 == number then program.1.places else places_in rest number

-- by a program's number and an instruction's index, its place
abbrev pub placed_in : List (ℕ × Built) → Placing
placed_in programs program = place_at (places_in programs program)

abbrev pub sourced_by : List (ℕ × Built) → DrivenState → Flow Place
sourced_by programs s = over_sources (sources_of programs) s.case

-- over the sources of these programs the flow has the same state as over its codes, where each fault's instruction
-- stands for its place, and the same greatest window, next letter, track and row
pub record ReadsAlike (programs : List (ℕ × Built)) (s : DrivenState) : Type 0 where
  pub state : map_world (placed_in programs) (world_by s) ≡ state_by (sourced_by programs s) s
  pub peak : peak_by (flow_by s) s ≡ peak_by (sourced_by programs s) s
  pub next : next_of (flow_by s) s.case.lag (world_by s)
      ≡ next_of (sourced_by programs s) s.case.lag (state_by (sourced_by programs s) s)
  pub track : track_of (flow_by s) (world_by s)
      ≡ track_of (sourced_by programs s) (state_by (sourced_by programs s) s)
  pub row :
      row_over (flow_by s) (world_by s) (peak_by (flow_by s) s)
      ≡ row_over (sourced_by programs s) (state_by (sourced_by programs s) s) (peak_by (sourced_by programs s) s)

-- it reads alike over the sources of all programs with its codes
abbrev pub ReadsAsSources : DrivenState → Type 0
ReadsAsSources s = (programs : List (ℕ × Built)) → codes_of programs ≡ s.programs → ReadsAlike programs s
