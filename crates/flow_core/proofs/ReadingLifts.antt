-- Where codes simulate the sources of a flow's programs, each letter and each word has the same meaning over both.
use Rattle.std.specs.Prelude.{not, ◌&&◌, nat_lt, ◌≡◌, ◌+◌, ℕ, Bool, Option, Some, None, option_map, List, [], ◌∷◌, ◌++◌, map, length, refl}
use Rattle.std.proofs.Common.{ap, sym, ◌∙◌, subst}
use Rattle.std.proofs.lemmas.List.{map-append}
use Rattle.ccp_base.specs.declared.ack.Ack.{Ack}
use Rattle.ccp_base.specs.declared.arithmetic.FaultKind.{FaultKind}
use Rattle.ccp_base.specs.declared.place.Place.{Place}
use Rattle.ccp_base.specs.declared.exchange.Report.{Report}
use Rattle.ccp_base.specs.declared.exchange.Reply.{Reply}
use Rattle.ccp_base.specs.declared.exchange.Reply.TheVariants.{Nothing, Update, Change}
use Rattle.ccp_base.specs.FieldReg.{Pair}
use Rattle.ccp_base.specs.RunningEpochs.{Reporter, reporter}
use Rattle.portus_core.specs.declared.env.Env.{Env}
use Rattle.portus_core.specs.Programs.{Form}
use Rattle.portus_core.specs.Value.{Cause}
use Rattle.portus_core.specs.OneAcknowledgement.{IsEnvOf}
use Rattle.portus_core.proofs.EnvShapes.{IsEnvOf-declared_env, IsEnvOf-with_values}
use Rattle.portus_core.specs.Epoch.{Outcome, Track, track_at, heard, with_values, by_source, declared_env}
use Rattle.reg_code.specs.declared.code.Code.{Code}
use Rattle.reg_code.specs.CodeStart.{declared_kept}
use Rattle.reg_compiler.specs.Simulation.{Simulates}
use Rattle.agent_core.specs.declared.agent.Agent.{Agent}
use Rattle.agent_core.specs.Agents.{opening_change, replied, course_of, values_of}
use Rattle.agent_core.proofs.ReplyLemmas.{replied-site}
use Rattle.flow_core.specs.Readings.{Flow, by_code, env_of}
use Rattle.flow_core.specs.World.{Failure, Content, of_report, of_failure, Era, Taken, Answered, World, time_of, track_in, track_of, era_of, opening, failures_met, untold_after, with_met, has_room, after_ack, takeable, with_taken, with_reply, notice_of, told_as, with_turn, answer_applied, after_answer}
use Rattle.flow_core.specs.Lift.{Placing, place_at, map_failure, map_content, map_taken, map_answered, map_world}
use Rattle.flow_core.proofs.SimulatedEpochs.{met_placed, heard-simulated, after-simulated, IsEnvOf-after, declared-simulated}
use Rattle.flow_core.specs.declared.letter.Letter.{Letter}
use Rattle.flow_core.specs.declared.letter.Letter.TheVariants.{A, T, C}
use Rattle.flow_core.specs.Words.{Giving, from_list, from_link, with_given, after_letter, world_from, is_legal, legal_from, is_complete}
use Rattle.link_model.specs.declared.link_case.LinkCase.{LinkCase}
use Rattle.link_model.specs.Link.{ack_after}
use Rattle.flow_core.proofs.MappedLemmas.{some-mapped, none-mapped}
use Rattle.flow_core.proofs.PlacedParts.{take-lifts, can-placed, failures-placed, reports-placed, held-placed, untold-placed}

-- ---- both readings

-- a flow's programs by their numbers: sources, the codes that simulate them, and the places of each code's instructions
pub record BothReadings : Type 0 where
  pub flow : ℕ
  pub agent : Agent
  pub acks : ℕ
  pub slots : ℕ
  pub form_at : ℕ → Form
  pub code_at : ℕ → Code
  pub places_at : ℕ → List Place
  pub simulates_at : (number : ℕ) → Simulates (form_at number) (code_at number) (places_at number)

module _ (both : BothReadings) where
  abbrev pub codes : Flow ℕ
  codes = record {
    number = both.flow;
    agent = both.agent;
    acks = both.acks;
    slots = both.slots;
    reading = λ number. by_code (both.code_at number);
    declared = λ number cwnd rate now. env_of (declared_kept (both.code_at number) cwnd rate now);
    index = λ index. index;
  }

  abbrev pub sources : Flow Place
  sources = record {
    number = both.flow;
    agent = both.agent;
    acks = both.acks;
    slots = both.slots;
    reading = λ number. by_source (both.form_at number);
    declared = λ number. declared_env (both.form_at number);
    index = λ place. 0;
  }

  abbrev pub place : Placing
  place program = place_at (both.places_at program)

  -- the env that the present epoch started with is one of its program
  abbrev pub Shaped : Era → Type 0
  Shaped era = IsEnvOf (both.form_at era.program) era.first

  -- the present epoch stands as it does over the source
  pub track-lifts : (era : Era) → Shaped era → track_in codes era ≡ track_in sources era
  track-lifts era shape =
      after-simulated (both.form_at era.program) (both.code_at era.program) (both.places_at era.program) (both.simulates_at era.program)
      era.events (track_at era.at era.first) shape

  pub IsEnvOf-track : (era : Era) → Shaped era → IsEnvOf (both.form_at era.program) (track_in codes era).env
  IsEnvOf-track era shape =
      subst (λ (t : Track). IsEnvOf (both.form_at era.program) t.env) (sym (track-lifts era shape))
      (IsEnvOf-after (both.form_at era.program) era.events (track_at era.at era.first) shape)

  -- ---- a new epoch

  abbrev era_at : ℕ → ℕ → Env → Era
  era_at program at env = record { program = program; at = at; first = env; events = [] }

  pub era-lifts : (program at : ℕ) (values : List Pair) (cwnd rate now : ℕ)
      → era_of codes program at values cwnd rate now ≡ era_of sources program at values cwnd rate now
  era-lifts program at values cwnd rate now =
      ap (λ (env : Env). era_at program at (with_values values env))
      (declared-simulated (both.form_at program) (both.code_at program) (both.places_at program) (both.simulates_at program) cwnd rate now)

  pub Shaped-era : (program at : ℕ) (values : List Pair) (cwnd rate now : ℕ) → Shaped (era_of codes program at values cwnd rate now)
  Shaped-era program at values cwnd rate now =
      subst Shaped (sym (era-lifts program at values cwnd rate now))
      (IsEnvOf-with_values (both.form_at program) values (sources.declared program cwnd rate now)
      (IsEnvOf-declared_env (both.form_at program) cwnd rate now))

  -- ---- A

  pub with_met-lifts : (ack : Ack) (room : Bool) (track : Track) (outcome : Outcome (FaultKind × ℕ)) (env : Env) (w : World ℕ)
      → map_world place (with_met codes ack room track (outcome, env) w)
      ≡ with_met sources ack room track (met_placed (place w.present.program) (outcome, env)) (map_world place w)
  with_met-lifts ack room track outcome env w =
      let program = w.present.program in
      let epoch : Reporter = reporter both.flow program (length w.past) in
      let failures = failures_met program (length w.past) track.count ack (outcome, env) in
      let placed = failures-placed place program (length w.past) track.count ack outcome env in
      let untold = untold-placed place failures w.untold
      ∙ ap (λ (fs : List (Failure Place)). untold_after fs (option_map (map_failure place) w.untold)) placed in
      let faults = map-append (map_failure place) w.faults failures
      ∙ ap (λ (fs : List (Failure Place)). map (map_failure place) w.faults ++ fs) placed in
      let reports = reports-placed (place program) epoch track ack outcome env in
      let holds = held-placed (place program) outcome in
      λ i. record (with_met sources ack room track (met_placed (place program) (outcome, env)) (map_world place w)) {
        waiting = w.waiting ++ reports i;
        untold = untold i;
        faults = faults i;
        held = w.held + holds i;
      }

  pub ack-lifts : (ack : Ack) (w : World ℕ) → Shaped w.present → map_world place (after_ack codes ack w) ≡ after_ack sources ack (map_world place w)
  ack-lifts ack w shape =
      let program = w.present.program in
      let track = track_of codes w in
      let room = has_room codes w in
      let met = heard (codes.reading program) track.is_stopped track.env ack room in
      let heards = heard-simulated (both.form_at program) (both.code_at program) (both.places_at program) (both.simulates_at program)
      track.is_stopped track.env ack room (IsEnvOf-track w.present shape) in
      with_met-lifts ack room track met.0 met.1 w
      ∙ ap (λ (m : Outcome Cause × Env). with_met sources ack room track m (map_world place w)) heards
      ∙ ap (λ (t : Track). with_met sources ack room t (heard (sources.reading program) t.is_stopped t.env ack room) (map_world place w))
      (track-lifts w.present shape)

  -- ---- C

  with_reply-lifts : (agent : Agent) (reply : Reply) (w : World ℕ) → Shaped w.present
      → map_world place (with_reply codes agent reply w) ≡ with_reply sources agent reply (map_world place w)
  with_reply-lifts agent Nothing w shape = refl
  with_reply-lifts agent (Update cwnd) w shape = refl
  with_reply-lifts agent (Change program cwnd cap) w shape =
      let env = (track_of codes w).env in
      let values = values_of agent (Change program cwnd cap) in
      let eras = era-lifts program (length w.acks) values env.cwnd env.rate (time_of w.acks)
      ∙ ap (λ (t : Track). era_of sources program (length w.acks) values t.env.cwnd t.env.rate (time_of w.acks))
      (track-lifts w.present shape) in
      λ i. record (with_reply sources agent (Change program cwnd cap) (map_world place w)) { present = eras i }

  Shaped-reply : (agent : Agent) (reply : Reply) (w : World ℕ) → Shaped w.present → Shaped (with_reply codes agent reply w).present
  Shaped-reply agent Nothing w shape = shape
  Shaped-reply agent (Update cwnd) w shape = shape
  Shaped-reply agent (Change program cwnd cap) w shape =
      let env = (track_of codes w).env in
      Shaped-era program (length w.acks) (values_of agent (Change program cwnd cap)) env.cwnd env.rate (time_of w.acks)

  -- the agent gets the same but for a fault's instruction
  turn-lifts : (agent : Agent) (told : Content ℕ) → replied agent (told_as codes told) ≡ replied agent (told_as sources (map_content place told))
  turn-lifts agent (of_report report) = refl
  turn-lifts agent (of_failure failure) =
      replied-site agent (notice_of codes failure) (notice_of sources (map_failure place failure)) refl

  -- the state in which a ticket's reply is applied
  abbrev turned : {X : Type 0} → Taken X → Agent × Reply → World X → World X
  turned ticket turn w = record w {
    agent = turn.0;
    out = None;
    answered = w.answered ++ record { told = ticket.told; taken = ticket.taken; answered = length w.acks; reply = turn.1 } ∷ [];
  }

  turned-lifts : (ticket : Taken ℕ) (turn : Agent × Reply) (w : World ℕ)
      → map_world place (turned ticket turn w) ≡ turned (map_taken place ticket) turn (map_world place w)
  turned-lifts ticket turn w =
      let ticket_answered : Answered ℕ = record { told = ticket.told; taken = ticket.taken; answered = length w.acks; reply = turn.1 } in
      λ i. record (turned (map_taken place ticket) turn (map_world place w)) {
        answered = map-append (map_answered place) w.answered (ticket_answered ∷ []) i;
      }

  answer-placed : (out : Option (Taken ℕ)) (w : World ℕ) → Shaped w.present
      → map_world place (answer_applied codes out w) ≡ answer_applied sources (option_map (map_taken place) out) (map_world place w)
  answer-placed None w shape = refl
  answer-placed (Some ticket) w shape =
      let turn = replied w.agent (told_as codes ticket.told) in
      with_reply-lifts w.agent turn.1 (turned ticket turn w) shape
      ∙ ap (λ (v : World Place). with_reply sources w.agent turn.1 v) (turned-lifts ticket turn w)
      ∙ ap (λ (t : Agent × Reply). with_turn sources (map_taken place ticket) t (map_world place w)) (turn-lifts w.agent ticket.told)

  answer-lifts : (w : World ℕ) → Shaped w.present → map_world place (after_answer codes w) ≡ after_answer sources (map_world place w)
  answer-lifts w shape = answer-placed w.out w shape

  Shaped-answer : (out : Option (Taken ℕ)) (w : World ℕ) → Shaped w.present → Shaped (answer_applied codes out w).present
  Shaped-answer None w shape = shape
  Shaped-answer (Some ticket) w shape =
      let turn = replied w.agent (told_as codes ticket.told) in
      Shaped-reply w.agent turn.1 (turned ticket turn w) shape

  pub Shaped-taken : (taken : Option (Content ℕ × (List Report × Option (Failure ℕ)))) (w : World ℕ)
      → Shaped w.present → Shaped (with_taken taken w).present
  Shaped-taken None w shape = shape
  Shaped-taken (Some taken) w shape = shape

  -- ---- letters

  pub given-lifts : (given : Option Ack) (w : World ℕ) → Shaped w.present
      → map_world place (with_given codes given w) ≡ with_given sources given (map_world place w)
  given-lifts None w shape = refl
  given-lifts (Some ack) w shape = ack-lifts ack w shape

  pub Shaped-given : (given : Option Ack) (w : World ℕ) → Shaped w.present → Shaped (with_given codes given w).present
  Shaped-given None w shape = shape
  Shaped-given (Some ack) w shape = shape

  -- the acknowledgements are the same in both readings
  abbrev pub GivesAlike : Giving ℕ → Giving Place → Type 0
  GivesAlike by_codes by_sources = (w : World ℕ) → Shaped w.present → by_codes w ≡ by_sources (map_world place w)

  letter-lifts : (by_codes : Giving ℕ) (by_sources : Giving Place) → GivesAlike by_codes by_sources
      → (letter : Letter) (w : World ℕ) → Shaped w.present
      → map_world place (after_letter codes by_codes w letter) ≡ after_letter sources by_sources (map_world place w) letter
  letter-lifts by_codes by_sources alike A w shape =
      given-lifts (by_codes w) w shape
      ∙ ap (λ (given : Option Ack). with_given sources given (map_world place w)) (alike w shape)
  letter-lifts by_codes by_sources alike T w shape = take-lifts place w
  letter-lifts by_codes by_sources alike C w shape = answer-lifts w shape

  Shaped-letter : (giving : Giving ℕ) (letter : Letter) (w : World ℕ) → Shaped w.present → Shaped (after_letter codes giving w letter).present
  Shaped-letter giving A w shape = Shaped-given (giving w) w shape
  Shaped-letter giving T w shape = Shaped-taken (takeable w.waiting w.untold) w shape
  Shaped-letter giving C w shape = Shaped-answer w.out w shape

  -- ---- words

  world_from-lifts : (by_codes : Giving ℕ) (by_sources : Giving Place) → GivesAlike by_codes by_sources
      → (word : List Letter) (w : World ℕ) → Shaped w.present
      → map_world place (world_from codes by_codes w word) ≡ world_from sources by_sources (map_world place w) word
  world_from-lifts by_codes by_sources alike [] w shape = refl
  world_from-lifts by_codes by_sources alike (letter ∷ rest) w shape =
      world_from-lifts by_codes by_sources alike rest (after_letter codes by_codes w letter) (Shaped-letter by_codes letter w shape)
      ∙ ap (λ (v : World Place). world_from sources by_sources v rest) (letter-lifts by_codes by_sources alike letter w shape)

  opening-lifts : map_world place (opening codes) ≡ opening sources
  opening-lifts = ap (λ (era : Era). record (opening sources) { present = era })
      (era-lifts (course_of both.agent).ss.number 0 (values_of both.agent (opening_change both.agent)) 0 0 0)

  Shaped-opening : Shaped (opening codes).present
  Shaped-opening = Shaped-era (course_of both.agent).ss.number 0 (values_of both.agent (opening_change both.agent)) 0 0 0

  pub from_list-alike : (acks : List Ack) → GivesAlike (from_list acks) (from_list acks)
  from_list-alike acks w shape = refl

  pub from_link-alike : (link : LinkCase) → GivesAlike (from_link codes link) (from_link sources link)
  from_link-alike link w shape = ap (λ (t : Track). Some (ack_after link w.windows t.env.cwnd)) (track-lifts w.present shape)

  pub worlds-lift : (by_codes : Giving ℕ) (by_sources : Giving Place) → GivesAlike by_codes by_sources → (word : List Letter)
      → map_world place (world_from codes by_codes (opening codes) word) ≡ world_from sources by_sources (opening sources) word
  worlds-lift by_codes by_sources alike word =
      world_from-lifts by_codes by_sources alike word (opening codes) Shaped-opening
      ∙ ap (λ (v : World Place). world_from sources by_sources v word) opening-lifts

  Shaped-from : (giving : Giving ℕ) (word : List Letter) (w : World ℕ) → Shaped w.present → Shaped (world_from codes giving w word).present
  Shaped-from giving [] w shape = shape
  Shaped-from giving (letter ∷ rest) w shape =
      Shaped-from giving rest (after_letter codes giving w letter) (Shaped-letter giving letter w shape)

  Shaped-source : (giving : Giving Place) (word : List Letter) → Shaped (world_from sources giving (opening sources) word).present
  Shaped-source giving word =
      let by_codes : Giving ℕ = λ w. giving (map_world place w) in
      subst (λ (v : World Place). Shaped v.present) (worlds-lift by_codes giving (λ w shape. refl) word)
      (Shaped-from by_codes word (opening codes) Shaped-opening)

  -- if a state is one over the sources after a word, whoever gives the acknowledgements, the present epochs stand alike
  pub track-placed : (w : World ℕ) (giving : Giving Place) (word : List Letter)
      → map_world place w ≡ world_from sources giving (opening sources) word
      → track_of codes w ≡ track_of sources (world_from sources giving (opening sources) word)
  track-placed w giving word same =
      ap (λ (v : World Place). track_in codes v.present) same
      ∙ track-lifts (world_from sources giving (opening sources) word).present (Shaped-source giving word)

  -- ---- legal and complete words

  legal_letter-lifts : (letter : Letter) (w : World ℕ) → is_legal codes w letter ≡ is_legal sources (map_world place w) letter
  legal_letter-lifts A w = refl
  legal_letter-lifts T w = λ i. none-mapped (map_taken place) w.out i && can-placed place w.waiting w.untold i
  legal_letter-lifts C w = some-mapped (map_taken place) w.out

  legal_from-lifts : (by_codes : Giving ℕ) (by_sources : Giving Place) → GivesAlike by_codes by_sources
      → (word : List Letter) (w : World ℕ) → Shaped w.present
      → legal_from codes by_codes w word ≡ legal_from sources by_sources (map_world place w) word
  legal_from-lifts by_codes by_sources alike [] w shape = refl
  legal_from-lifts by_codes by_sources alike (letter ∷ rest) w shape =
      let next = legal_from-lifts by_codes by_sources alike rest (after_letter codes by_codes w letter) (Shaped-letter by_codes letter w shape)
      ∙ ap (λ (v : World Place). legal_from sources by_sources v rest) (letter-lifts by_codes by_sources alike letter w shape) in
      λ i. legal_letter-lifts letter w i && next i

  -- a word is legal in both readings or in neither
  pub legals-lift : (by_codes : Giving ℕ) (by_sources : Giving Place) → GivesAlike by_codes by_sources → (word : List Letter)
      → legal_from codes by_codes (opening codes) word ≡ legal_from sources by_sources (opening sources) word
  legals-lift by_codes by_sources alike word =
      legal_from-lifts by_codes by_sources alike word (opening codes) Shaped-opening
      ∙ ap (λ (v : World Place). legal_from sources by_sources v word) opening-lifts

  is_complete-placed : (w : World ℕ) → is_complete codes w ≡ is_complete sources (map_world place w)
  is_complete-placed w =
      λ i. not (nat_lt (length w.acks) both.acks) && (none-mapped (map_taken place) w.out i && not (can-placed place w.waiting w.untold i))

  -- and it is complete in both or in neither
  pub completes-lift : (by_codes : Giving ℕ) (by_sources : Giving Place) → GivesAlike by_codes by_sources → (word : List Letter)
      → is_complete codes (world_from codes by_codes (opening codes) word)
      ≡ is_complete sources (world_from sources by_sources (opening sources) word)
  completes-lift by_codes by_sources alike word =
      is_complete-placed (world_from codes by_codes (opening codes) word)
      ∙ ap (λ (v : World Place). is_complete sources v) (worlds-lift by_codes by_sources alike word)
