-- A driven flow whose answers are those of an agent's replies has the state of that agent's flow.
use Rattle.std.specs.Prelude.{◌≡◌, ℕ, ◌+◌, max, Option, Some, None, List, [], ◌∷◌, ◌++◌, length, map, slice_get, refl}
use Rattle.std.proofs.Common.{arith, ap, sym, ◌∙◌, subst, append_assoc, append-nil, length-append}
use Rattle.std.proofs.lemmas.List.{map-append, length-map}
use Rattle.ccp_base.specs.FieldReg.{Pair}
use Rattle.ccp_base.specs.declared.exchange.Report.{Report}
use Rattle.ccp_base.specs.declared.exchange.Reply.{Reply}
use Rattle.ccp_base.specs.declared.exchange.Reply.TheVariants.{Nothing, Update, Change}
use Rattle.portus_core.specs.Epoch.{Track, track_at, after, with_values}
use Rattle.reg_code.specs.declared.code.Code.{Code}
use Rattle.reg_code.specs.CodeStart.{declared_kept}
use Rattle.link_model.specs.declared.link_case.LinkCase.{LinkCase}
use Rattle.agent_core.specs.declared.agent.Agent.{Agent}
use Rattle.agent_core.specs.Agents.{opening_change, course_of, replied, values_of}
use Rattle.agent_core.specs.RoleLaws.{AreRoles}
use Rattle.agent_core.proofs.ReplyLemmas.{roles-kept}
use Rattle.campaign_core.specs.CampaignRow as rows
use Rattle.campaign_core.specs.CampaignRow.{sums_of, row_in, row_over}
use Rattle.flow_core.specs.declared.case.Case.{Case}
use Rattle.flow_core.specs.declared.letter.Letter.{Letter}
use Rattle.flow_core.specs.declared.letter.Letter.TheVariants.{A, T, C}
use Rattle.flow_core.specs.Books.{ticket_line}
use Rattle.flow_core.specs.LiveText.{report_count, reports_told}
use Rattle.flow_core.specs.Readings as readings
use Rattle.flow_core.specs.Readings.{Flow, by_code, env_of, code_at}
use Rattle.flow_core.specs.Summaries.{summary}
use Rattle.flow_core.specs.Words as words
use Rattle.flow_core.specs.Words.{Giving, from_link, with_given}
use Rattle.flow_core.specs.World.{Failure, Content, of_report, of_failure, Era, Taken, Answered, World, time_of, track_in, track_of, era_of, opening, takeable, with_taken, with_reply, told_as, answer_applied}
use Rattle.driven_flow.specs.Driven.{Given, DrivenState, unasked, code_in, with_values_given, with_answer, answered_by, after_letter, world_from, peak_from, initial_window, begun, flow_by}
use Rattle.driven_flow.specs.AgentLaw.{program_in, given_by, answer_out, answer_at, answers_from, IsOfCase, without_reply, without_agent, IsAgentFlow}
use Rattle.driven_flow.proofs.ReplyLemmas.{Starts, OfCourse, replied-starts}
use Rattle.driven_flow.proofs.StateLemmas.{shut}

-- the one after those of a front
slice_get-at : {Y : Type 0} → (front : List Y) (one : Y) (rest : List Y) → slice_get (front ++ one ∷ rest) (length front) ≡ Some one
slice_get-at [] one rest = refl
slice_get-at (first ∷ front) one rest = slice_get-at front one rest

taken-bare : {X : Type 0} → (taken : Option (Content X × (List Report × Option (Failure X)))) (w : World X)
    → with_taken taken (without_agent w) ≡ without_agent (with_taken taken w)
taken-bare None w = refl
taken-bare (Some taken) w = refl

module _ (s : DrivenState) (case : Case) (is : IsOfCase s case) where
  abbrev driven : Flow ℕ
  driven = flow_by s

  abbrev asked : Flow ℕ
  asked = readings.over_codes case

  abbrev giving : Giving ℕ
  giving = from_link asked case.link

  -- the program with this number has the case's code
  abbrev SameAt : ℕ → Type 0
  SameAt number = code_in s.programs number ≡ code_at case number

  abbrev KeepsRoles : Agent → Type 0
  KeepsRoles agent = AreRoles case.ss.role case.ca.role (course_of agent)

  roles-same : (agent : Agent) → KeepsRoles agent → OfCourse SameAt (course_of agent)
  roles-same agent roles = record {
    ss = subst (λ role. SameAt role.number) (sym roles.ss_same) is.ss;
    ca = subst (λ role. SameAt role.number) (sym roles.ca_same) is.ca;
  }

  track-same : (era : Era) → SameAt era.program → track_in driven era ≡ track_in asked era
  track-same era same = λ i. after (by_code (same i)) era.events (track_at era.at era.first)

  -- ---- A

  -- an acknowledgement of the link, by what of a flow it depends on
  abbrev heard_by : ℕ → ℕ → Code → LinkCase → World ℕ → World ℕ
  heard_by number slots code link w =
      let flow : Flow ℕ = record {
        number = number;
        agent = unasked;
        acks = 0;
        slots = slots;
        reading = λ _. by_code code;
        declared = asked.declared;
        index = λ index. index;
      } in
      with_given flow (from_link flow link w) w

  heard-same : (w : World ℕ) → SameAt w.present.program
      → with_given driven (from_link driven s.case.link (without_agent w)) (without_agent w) ≡ without_agent (with_given asked (giving w) w)
  heard-same w same = λ i. heard_by (is.flow i) (is.slots i) (same i) (is.link i) (without_agent w)

  -- ---- C

  era-same : (program at : ℕ) (values : List Pair) (cwnd rate now : ℕ) → SameAt program
      → era_of driven program at values cwnd rate now ≡ era_of asked program at values cwnd rate now
  era-same program at values cwnd rate now same =
      λ i. record { program = program; at = at; first = with_values values (env_of (declared_kept (same i) cwnd rate now)); events = [] }

  reply-same : (agent : Agent) (reply : Reply) (w : World ℕ) → SameAt w.present.program → Starts SameAt reply
      → with_values_given driven (program_in reply) (values_of agent reply) (without_agent w) ≡ without_agent (with_reply asked agent reply w)
  reply-same agent Nothing w same starts = refl
  reply-same agent (Update cwnd) w same starts = refl
  reply-same agent (Change program cwnd cap) w same starts =
      let values = values_of agent (Change program cwnd cap) in
      let env = (track_of driven w).env in
      let eras = era-same program (length w.acks) values env.cwnd env.rate (time_of w.acks) starts
      ∙ ap (λ (t : Track). era_of asked program (length w.acks) values t.env.cwnd t.env.rate (time_of w.acks)) (track-same w.present same) in
      λ i. record (without_agent (with_reply asked agent (Change program cwnd cap) w)) { present = eras i }

  abbrev turned : Taken ℕ → Agent × Reply → World ℕ → World ℕ
  turned ticket turn w = record w {
    agent = turn.0;
    out = None;
    answered = w.answered ++ record { told = ticket.told; taken = ticket.taken; answered = length w.acks; reply = turn.1 } ∷ [];
  }

  turned-same : (ticket : Taken ℕ) (turn : Agent × Reply) (w : World ℕ)
      → shut driven ticket (without_agent w) ≡ without_agent (turned ticket turn w)
  turned-same ticket turn w =
      let line : Answered ℕ = record { told = ticket.told; taken = ticket.taken; answered = length w.acks; reply = turn.1 } in
      λ i. record (shut driven ticket (without_agent w)) { answered = sym (map-append without_reply w.answered (line ∷ [])) i }

  none-given : (given : Option Given) (w : World ℕ) → w.out ≡ None → answered_by driven given w ≡ w
  none-given None w none = refl
  none-given (Some given) w none = ap (λ (out : Option (Taken ℕ)). with_answer driven given out w) none

  -- an answer from those that the agent gives
  answer-same : (w : World ℕ) (out : Option (Taken ℕ)) (front rest answers : List Given) → w.out ≡ out → SameAt w.present.program → KeepsRoles w.agent
      → length front ≡ length w.answered → answers ≡ front ++ (answer_out asked w.agent out ++ rest)
      → answered_by driven (slice_get answers (length (without_agent w).answered)) (without_agent w) ≡ without_agent (answer_applied asked out w)
  answer-same w None front rest answers out same roles count split =
      none-given (slice_get answers (length (without_agent w).answered)) (without_agent w) out
  answer-same w (Some ticket) front rest answers out same roles count split =
      let turn = replied w.agent (told_as asked ticket.told) in
      let given = given_by w.agent turn.1 in
      let place : length (map without_reply w.answered) ≡ length front = length-map w.answered without_reply ∙ sym count in
      let got : slice_get answers (length (map without_reply w.answered)) ≡ Some given =
      (λ i. slice_get (split i) (place i)) ∙ slice_get-at front given rest in
      ap (λ (o : Option Given). answered_by driven o (without_agent w)) got
      ∙ ap (λ (o : Option (Taken ℕ)). with_answer driven given o (without_agent w)) out
      ∙ ap (λ (v : World ℕ). with_values_given driven given.program given.values v) (turned-same ticket turn w)
      ∙ reply-same w.agent turn.1 (turned ticket turn w) same (replied-starts SameAt w.agent (told_as asked ticket.told) (roles-same w.agent roles))

  -- ---- what stays

  pub record Stays (w : World ℕ) : Type 0 where
    pub present : SameAt w.present.program
    pub roles : KeepsRoles w.agent

  stays-taken : (taken : Option (Content ℕ × (List Report × Option (Failure ℕ)))) (w : World ℕ) → Stays w → Stays (with_taken taken w)
  stays-taken None w stays = stays
  stays-taken (Some taken) w stays = record { present = stays.present; roles = stays.roles }

  stays-reply : (agent : Agent) (reply : Reply) (w : World ℕ) → Starts SameAt reply → Stays w → Stays (with_reply asked agent reply w)
  stays-reply agent Nothing w starts stays = stays
  stays-reply agent (Update cwnd) w starts stays = record { present = stays.present; roles = stays.roles }
  stays-reply agent (Change program cwnd cap) w starts stays = record { present = starts; roles = stays.roles }

  stays-answer : (out : Option (Taken ℕ)) (w : World ℕ) → Stays w → Stays (answer_applied asked out w)
  stays-answer None w stays = stays
  stays-answer (Some ticket) w stays =
      let told = told_as asked ticket.told in
      let turn = replied w.agent told in
      stays-reply w.agent turn.1 (turned ticket turn w) (replied-starts SameAt w.agent told (roles-same w.agent stays.roles))
      (record { present = stays.present; roles = roles-kept case.ss.role case.ca.role w.agent told stays.roles })

  stays-letter : (letter : Letter) (w : World ℕ) → Stays w → Stays (words.after_letter asked giving w letter)
  stays-letter A w stays = record { present = stays.present; roles = stays.roles }
  stays-letter T w stays = stays-taken (takeable w.waiting w.untold) w stays
  stays-letter C w stays = stays-answer w.out w stays

  -- ---- how many tickets were answered

  taken-count : (taken : Option (Content ℕ × (List Report × Option (Failure ℕ)))) (w : World ℕ) → length (with_taken taken w).answered ≡ length w.answered
  taken-count None w = refl
  taken-count (Some taken) w = refl

  reply-count : (agent : Agent) (reply : Reply) (w : World ℕ) → (with_reply asked agent reply w).answered ≡ w.answered
  reply-count agent Nothing w = refl
  reply-count agent (Update cwnd) w = refl
  reply-count agent (Change program cwnd cap) w = refl

  answer-count : (out : Option (Taken ℕ)) (front : List Given) (w : World ℕ) → length front ≡ length w.answered
      → length (front ++ answer_out asked w.agent out) ≡ length (answer_applied asked out w).answered
  answer-count None front w count = ap length (append-nil front) ∙ count
  answer-count (Some ticket) front w count =
      let turn = replied w.agent (told_as asked ticket.told) in
      let line : Answered ℕ = record { told = ticket.told; taken = ticket.taken; answered = length w.acks; reply = turn.1 } in
      let same = ap length (reply-count w.agent turn.1 (turned ticket turn w)) in
      let one = length-append front (given_by w.agent turn.1 ∷ []) in
      let more = length-append w.answered (line ∷ []) in
      omega (arith, count, one, more, same)

  count-letter : (letter : Letter) (front : List Given) (w : World ℕ) → length front ≡ length w.answered
      → length (front ++ answer_at asked w letter) ≡ length (words.after_letter asked giving w letter).answered
  count-letter A front w count = ap length (append-nil front) ∙ count
  count-letter T front w count = ap length (append-nil front) ∙ count ∙ sym (taken-count (takeable w.waiting w.untold) w)
  count-letter C front w count = answer-count w.out front w count

  -- ---- letters and words

  letter-same : (letter : Letter) (w : World ℕ) (front rest answers : List Given) → Stays w → length front ≡ length w.answered
      → answers ≡ front ++ (answer_at asked w letter ++ rest)
      → after_letter driven (from_link driven s.case.link) answers (without_agent w) letter ≡ without_agent (words.after_letter asked giving w letter)
  letter-same A w front rest answers stays count split = heard-same w stays.present
  letter-same T w front rest answers stays count split = taken-bare (takeable w.waiting w.untold) w
  letter-same C w front rest answers stays count split = answer-same w w.out front rest answers refl stays.present stays.roles count split

  window-same : (w : World ℕ) → Stays w → (track_of driven (without_agent w)).env.cwnd ≡ (track_of asked w).env.cwnd
  window-same w stays = ap (λ (t : Track). t.env.cwnd) (track-same w.present stays.present)

  word-same : (word : List Letter) (w : World ℕ) (front answers : List Given) → Stays w → length front ≡ length w.answered
      → answers ≡ front ++ answers_from asked giving w word
      → (world_from driven (from_link driven s.case.link) answers (without_agent w) word ≡ without_agent (words.world_from asked giving w word))
      × (peak_from driven (from_link driven s.case.link) answers (without_agent w) word ≡ rows.peak_from asked giving w word)
      × Stays (words.world_from asked giving w word)
  word-same [] w front answers stays count split = (refl, window-same w stays, stays)
  word-same (letter ∷ rest) w front answers stays count split =
      let next = words.after_letter asked giving w letter in
      let later = answers_from asked giving next rest in
      let one = letter-same letter w front later answers stays count split in
      let on = word-same rest next (front ++ answer_at asked w letter) answers (stays-letter letter w stays) (count-letter letter front w count)
      (split ∙ sym (append_assoc front (answer_at asked w letter) later)) in (
        ap (λ (v : World ℕ). world_from driven (from_link driven s.case.link) answers v rest) one ∙ on.0,
        (λ i. max (window-same w stays i) ((ap (λ (v : World ℕ). peak_from driven (from_link driven s.case.link) answers v rest) one ∙ on.1) i)),
        on.2,
      )

  -- ---- the opening

  stays-opening : Stays (opening asked)
  stays-opening = record {
    present = subst (λ role. SameAt role.number) (sym case.ss_role) is.ss;
    roles = record { ss_same = case.ss_role; ca_same = case.ca_role };
  }

  begun-same : begun driven s.case.link.mss s.program s.values ≡ without_agent (opening asked)
  begun-same =
      (λ i. begun driven s.case.link.mss (is.program i) (is.values i))
      ∙ (λ i. record (without_agent (opening asked)) {
        present = era-same (course_of case.agent).ss.number 0 (values_of case.agent (opening_change case.agent)) (initial_window s.case.link.mss) 0 0 stays-opening.present i;
      })

  -- ---- the row

  told-same : (told : Content ℕ) → reports_told (told_as driven told) ≡ reports_told (told_as asked told)
  told-same (of_report report) = refl
  told-same (of_failure failure) = refl

  count-same : (tickets : List (Answered ℕ))
      → report_count (map (ticket_line driven) (map without_reply tickets)) ≡ report_count (map (ticket_line asked) tickets)
  count-same [] = refl
  count-same (ticket ∷ rest) = λ i. told-same ticket.told i + count-same rest i

  row-same : (w : World ℕ) (peak : ℕ) → Stays w → row_over driven (without_agent w) peak ≡ row_over asked w peak
  row-same w peak stays =
      λ i. row_in (record (summary asked w) {
        untold = None;
        out = None;
        track = track-same w.present stays.present i;
        answered = length-map w.answered without_reply i;
        told = count-same w.answered i;
      }) (sums_of w.acks) peak

  pub agent-flow : IsAgentFlow s case
  agent-flow =
      let all = word-same s.word (opening asked) [] s.answers stays-opening refl is.answers in
      let state = ap (λ (v : World ℕ). world_from driven (from_link driven s.case.link) s.answers v s.word) begun-same ∙ all.0 in
      let peak = ap (λ (v : World ℕ). peak_from driven (from_link driven s.case.link) s.answers v s.word) begun-same ∙ all.1 in
      record {
        state = state;
        row =
            (λ i. row_over driven (state i) (peak i))
            ∙ row-same (words.world_from asked giving (opening asked) s.word) (rows.peak_from asked giving (opening asked) s.word) all.2;
      }
