-- Which reason a refused message has, and that each row's message is refused for its reason.
use Rattle.std.proofs.Common.{◌≡◌, ℕ, ◌+◌, ◌<◌, Bool, true, false, cond, nat_lt, Option, Some, None, option_map, List, length, ap, sym, refl, subst, ◌∙◌}
use Rattle.std.proofs.lemmas.Bool.{lt-ltb, le-ltb, ltb-true, ltb-false}
use Rattle.ccp_base.specs.declared.ack.Ack.{Ack}
use Rattle.ccp_base.specs.declared.running_epoch.RunningEpoch.{RunningEpoch}
use Rattle.ccp_base.specs.RunningEpochs.{notice_at, report_at}
use Rattle.ccp_base.specs.FieldReg.{Pair, first_bad_pair}
use Rattle.ccp_base.specs.Limits.{most_flows, most_kept_programs}
use Rattle.reg_code.specs.declared.code.Code.{Code}
use Rattle.reg_code.specs.AcceptedCode.{Refusal, rejected}
use Rattle.reply_frames.specs.declared.outline.Version.{Version}
use Rattle.ccp_messages.specs.declared.message.Message.{Message}
use Rattle.ccp_messages.specs.declared.message.Message.TheVariants.{Create, Measure, Install, Update, Change, Fault, Refused}
use Rattle.ccp_messages.specs.declared.message.Message.TheVariants as message
use Rattle.ccp_messages.specs.declared.reason.Reason.{Reason}
use Rattle.ccp_messages.specs.declared.reason.Reason.TheVariants as reasons
use Rattle.ccp_messages.specs.Messages.{message_flow}
use Rattle.fold_machine.specs.declared.acked.Acked.{Acked}
use Rattle.fold_machine.specs.declared.acked.Acked.TheVariants as acked
use Rattle.fold_machine.specs.MachineState.{MachineState}
use Rattle.fold_machine.specs.Heard.{after_acknowledgement}
use Rattle.feed_core.specs.declared.flow.Flow.{Flow}
use Rattle.feed_core.specs.Feed.{FeedState, there, Answer, MessageAnswer, refused, created_at, installed_as, installed_at, is_too_wide, changed_with, changed_to, changed_at, running_code, updated_with, updated_on, updated_at, message_about, in_version, acked_on, flow_acked, handled}
use Rattle.feed_core.specs.Refusals.{IsFlowAt, IsCodeAt, IsFreeAt, FlowAbove, FlowExists, NoFlow, ProgramAbove, ProgramExists, NoProgram, NotAccepted, NoRegister, TooWide, ComesIf, ChangesNothing}

-- the row of a reason
abbrev Row : Reason → FeedState → Message → ℕ → Type 0
Row reasons.FlowAbove state message index = FlowAbove state message index
Row reasons.FlowExists state message index = FlowExists state message index
Row reasons.NoFlow state message index = NoFlow state message index
Row reasons.ProgramAbove state message index = ProgramAbove state message index
Row reasons.ProgramExists state message index = ProgramExists state message index
Row reasons.NoProgram state message index = NoProgram state message index
Row reasons.NotAccepted state message index = NotAccepted state message index
Row reasons.NoRegister state message index = NoRegister state message index
Row reasons.TooWide state message index = TooWide state message index

-- what an answer says, if it is a refusal; else it doesn't matter
abbrev message_reason : Message → Reason
message_reason (Create n mss cwnd) = reasons.FlowAbove
message_reason (Measure report) = reasons.FlowAbove
message_reason (Install n program code) = reasons.FlowAbove
message_reason (Update n values) = reasons.FlowAbove
message_reason (Change n program values) = reasons.FlowAbove
message_reason (Fault notice) = reasons.FlowAbove
message_reason (message.Ack n ack) = reasons.FlowAbove
message_reason (Refused n reason index) = reason

abbrev reason_in : Answer → Reason
reason_in None = reasons.FlowAbove
reason_in (Some (message, version)) = message_reason message

abbrev message_index : Message → ℕ
message_index (Create n mss cwnd) = 0
message_index (Measure report) = 0
message_index (Install n program code) = 0
message_index (Update n values) = 0
message_index (Change n program values) = 0
message_index (Fault notice) = 0
message_index (message.Ack n ack) = 0
message_index (Refused n reason index) = index

abbrev index_in : Answer → ℕ
index_in None = 0
index_in (Some (message, version)) = message_index message

abbrev refusal_of : ℕ → Reason → ℕ → Version → Answer
refusal_of n reason index version = Some (Refused n reason index, version)

-- whether an answer is a refusal
abbrev is_refused : Message → Bool
is_refused (Create n mss cwnd) = false
is_refused (Measure report) = false
is_refused (Install n program code) = false
is_refused (Update n values) = false
is_refused (Change n program values) = false
is_refused (Fault notice) = false
is_refused (message.Ack n ack) = false
is_refused (Refused n reason index) = true

abbrev is_refusal : Answer → Bool
is_refusal None = false
is_refusal (Some (message, version)) = is_refused message

-- what holds of a refused message: the row of its reason, and the state is as it was
record Why (state : FeedState) (message : Message) (reason : Reason) (index : ℕ) (after : FeedState) : Type 0 where
  pub row : Row reason state message index
  pub same : after ≡ state

why-is : (state : FeedState) (message : Message) (n : ℕ) (version : Version) (r : Reason) (i : ℕ) (reason : Reason) (index : ℕ)
    → Row reason state message index → refusal_of n reason index version ≡ refusal_of n r i version → Why state message r i state
why-is state message n version r i reason index row e =
    let same_reason : reason ≡ r = ap reason_in e in
    let same_index : index ≡ i = ap index_in e in
    record {
      row = subst (λ (k : Reason). Row k state message i) same_reason (subst (λ (k : ℕ). Row reason state message k) same_index row);
      same = refl;
    }

-- ---- each refusal has the row of its reason

module _ (state : FeedState) (version : Version) (r : Reason) (i : ℕ) where
  abbrev Refuses : ℕ → MessageAnswer → Type 0
  Refuses n a = a.0 ≡ refusal_of n r i version

  none-refused : (n : ℕ) (W : Type 0) → ◌≡◌ {A = Answer} None (refusal_of n r i version) → W
  none-refused n W e = let bad : ⊥ = cc in absurd bad

  why-created : (n mss cwnd : ℕ) (b : Bool) (o : Option Flow) → nat_lt n most_flows ≡ b → there state.flows n ≡ o
      → Refuses n (cond b (created_at o state version n cwnd) (refused state version n reasons.FlowAbove 0))
      → Why state (Create n mss cwnd) r i (cond b (created_at o state version n cwnd) (refused state version n reasons.FlowAbove 0)).1
  why-created n mss cwnd false o lt is e = why-is state (Create n mss cwnd) n version r i reasons.FlowAbove 0 (ltb-false n most_flows lt, refl) e
  why-created n mss cwnd true (Some flow) lt is e = why-is state (Create n mss cwnd) n version r i reasons.FlowExists 0 (ltb-true n most_flows lt, flow, is, refl) e
  why-created n mss cwnd true None lt is e = none-refused n _ e

  module _ (n program : ℕ) (code : Code) where
    abbrev install : Message
    install = Install n program code

    why-installed-as : IsFreeAt state program → (o : Option Refusal) → rejected code ≡ o
        → Refuses n (installed_as o state version n program code) → Why state install r i (installed_as o state version n program code).1
    why-installed-as free (Some refusal) is e = why-is state install n version r i reasons.NotAccepted refusal.1 (free, refusal, is, refl) e
    why-installed-as free None is e = none-refused n _ e

    why-installed-at : program < most_kept_programs → (o : Option Code) → there state.programs program ≡ o
        → Refuses n (installed_at o state version n program code) → Why state install r i (installed_at o state version n program code).1
    why-installed-at lt (Some old) is e = why-is state install n version r i reasons.ProgramExists program (old, (lt, is), refl) e
    why-installed-at lt None is e = why-installed-as (lt, is) (rejected code) refl e

    why-installed : (b : Bool) → nat_lt program most_kept_programs ≡ b
        → Refuses n (cond b (installed_at (there state.programs program) state version n program code) (refused state version n reasons.ProgramAbove program))
        → Why state install r i (cond b (installed_at (there state.programs program) state version n program code) (refused state version n reasons.ProgramAbove program)).1
    why-installed false lt e = why-is state install n version r i reasons.ProgramAbove program (ltb-false program most_kept_programs lt, refl) e
    why-installed true lt e = why-installed-at (ltb-true program most_kept_programs lt) (there state.programs program) refl e

  module _ (n program : ℕ) (values : List Pair) where
    abbrev change : Message
    change = Change n program values

    why-changed-with : (flow : Flow) (code : Code) → IsFlowAt state n flow → IsCodeAt state program code → is_too_wide flow.version code ≡ false
        → (o : Option ℕ) → first_bad_pair (length code.controls) values ≡ o
        → Refuses n (changed_with o state version n program values flow code) → Why state change r i (changed_with o state version n program values flow code).1
    why-changed-with flow code at here narrow (Some place) is e = why-is state change n version r i reasons.NoRegister place (flow, code, at, here, narrow, is) e
    why-changed-with flow code at here narrow None is e = none-refused n _ e

    why-changed-wide : (flow : Flow) (code : Code) → IsFlowAt state n flow → IsCodeAt state program code → (b : Bool) → is_too_wide flow.version code ≡ b
        → Refuses n (cond b (refused state version n reasons.TooWide program) (changed_with (first_bad_pair (length code.controls) values) state version n program values flow code))
        → Why state change r i (cond b (refused state version n reasons.TooWide program) (changed_with (first_bad_pair (length code.controls) values) state version n program values flow code)).1
    why-changed-wide flow code at here true wide e = why-is state change n version r i reasons.TooWide program (flow, code, at, here, wide, refl) e
    why-changed-wide flow code at here false wide e = why-changed-with flow code at here wide (first_bad_pair (length code.controls) values) refl e

    why-changed-to : (flow : Flow) → IsFlowAt state n flow → program < most_kept_programs → (o : Option Code) → there state.programs program ≡ o
        → Refuses n (changed_to o state version n program values flow) → Why state change r i (changed_to o state version n program values flow).1
    why-changed-to flow at lt None is e = why-is state change n version r i reasons.NoProgram program (flow, at, (lt, is), refl) e
    why-changed-to flow at lt (Some code) is e = why-changed-wide flow code at (lt, is) (is_too_wide flow.version code) refl e

    why-changed-number : (flow : Flow) → IsFlowAt state n flow → (b : Bool) → nat_lt program most_kept_programs ≡ b
        → Refuses n (cond b (changed_to (there state.programs program) state version n program values flow) (refused state version n reasons.ProgramAbove program))
        → Why state change r i (cond b (changed_to (there state.programs program) state version n program values flow) (refused state version n reasons.ProgramAbove program)).1
    why-changed-number flow at false lt e = why-is state change n version r i reasons.ProgramAbove program (flow, at, ltb-false program most_kept_programs lt, refl) e
    why-changed-number flow at true lt e = why-changed-to flow at (ltb-true program most_kept_programs lt) (there state.programs program) refl e

    why-changed : (o : Option Flow) → there state.flows n ≡ o
        → Refuses n (changed_at o state version n program values) → Why state change r i (changed_at o state version n program values).1
    why-changed None is e = why-is state change n version r i reasons.NoFlow 0 (is, refl) e
    why-changed (Some flow) is e = why-changed-number flow is (nat_lt program most_kept_programs) refl e

  module _ (n : ℕ) (values : List Pair) where
    abbrev update : Message
    update = Update n values

    why-updated-with : (flow : Flow) (code : Code) → IsFlowAt state n flow → running_code flow.epoch state.programs ≡ Some code
        → (o : Option ℕ) → first_bad_pair (length code.controls) values ≡ o
        → Refuses n (updated_with o state version n values flow) → Why state update r i (updated_with o state version n values flow).1
    why-updated-with flow code at runs (Some place) is e = why-is state update n version r i reasons.NoRegister place (flow, code, at, runs, is) e
    why-updated-with flow code at runs None is e = none-refused n _ e

    why-updated-on : (flow : Flow) → IsFlowAt state n flow → (o : Option Code) → running_code flow.epoch state.programs ≡ o
        → Refuses n (updated_on o state version n values flow) → Why state update r i (updated_on o state version n values flow).1
    why-updated-on flow at None runs e = why-is state update n version r i reasons.NoProgram 0 (flow, at, runs, refl) e
    why-updated-on flow at (Some code) runs e = why-updated-with flow code at runs (first_bad_pair (length code.controls) values) refl e

    why-updated : (o : Option Flow) → there state.flows n ≡ o
        → Refuses n (updated_at o state version n values) → Why state update r i (updated_at o state version n values).1
    why-updated None is e = why-is state update n version r i reasons.NoFlow 0 (is, refl) e
    why-updated (Some flow) is e = why-updated-on flow is (running_code flow.epoch state.programs) refl e

  -- what an epoch says of an acknowledgement is no refusal
  says-no-refusal : (n : ℕ) (own : Version) (W : Type 0) (says : RunningEpoch → Message) → ((epoch : RunningEpoch) → is_refused (says epoch) ≡ false)
      → (epoch : Option RunningEpoch) → in_version own (option_map says epoch) ≡ refusal_of n r i version → W
  says-no-refusal n own W says none None e = none-refused n W e
  says-no-refusal n own W says none (Some epoch) e = let same : false ≡ true = sym (none epoch) ∙ ap is_refusal e in let bad : ⊥ = cc in absurd bad

  no-report-refuses : (n m : ℕ) (ack : Ack) (flow : Flow) (W : Type 0) (came : Option Acked × MachineState)
      → in_version flow.version (message_about came ack m flow) ≡ refusal_of n r i version → W
  no-report-refuses n m ack flow W (None, machine) e = none-refused n W e
  no-report-refuses n m ack flow W (Some acked.Quiet, machine) e = none-refused n W e
  no-report-refuses n m ack flow W (Some acked.Reported, machine) e = says-no-refusal n flow.version W
      (λ epoch. Measure (report_at epoch m (flow.count + 1) ack.now machine.kept.cwnd machine.kept.rate machine.report)) (λ epoch. refl) flow.epoch e
  no-report-refuses n m ack flow W (Some acked.Held, machine) e = none-refused n W e
  no-report-refuses n m ack flow W (Some (acked.Faulted kind index), machine) e = says-no-refusal n flow.version W
      (λ epoch. Fault (notice_at epoch m flow.count ack.now machine.kept.cwnd kind index)) (λ epoch. refl) flow.epoch e
  no-report-refuses n m ack flow W (Some acked.Stopped, machine) e = none-refused n W e

  module _ (n : ℕ) (ack : Ack) where
    why-acked-on : (flow : Flow) (o : Option Code)
        → Refuses n (acked_on o state n ack flow) → Why state (message.Ack n ack) r i (acked_on o state n ack flow).1
    why-acked-on flow None e = none-refused n _ e
    why-acked-on flow (Some code) e = no-report-refuses n n ack flow _ (after_acknowledgement code ack true flow.machine) e

    why-acked : (o : Option Flow) → there state.flows n ≡ o
        → Refuses n (flow_acked o state version n ack) → Why state (message.Ack n ack) r i (flow_acked o state version n ack).1
    why-acked None is e = why-is state (message.Ack n ack) n version r i reasons.NoFlow 0 (is, refl) e
    why-acked (Some flow) is e = why-acked-on flow (running_code flow.epoch state.programs) e

  why : (message : Message) → Refuses (message_flow message) (handled state message version) → Why state message r i (handled state message version).1
  why (Create n mss cwnd) e = why-created n mss cwnd (nat_lt n most_flows) (there state.flows n) refl refl e
  why (Install n program code) e = why-installed n program code (nat_lt program most_kept_programs) refl e
  why (Change n program values) e = why-changed n program values (there state.flows n) refl e
  why (Update n values) e = why-updated n values (there state.flows n) refl e
  why (message.Ack n ack) e = why-acked n ack (there state.flows n) refl e
  why (Measure report) e = none-refused report.flow _ e
  why (Fault notice) e = none-refused notice.flow _ e
  why (Refused n reason index) e = none-refused n _ e

-- ---- each row's message is refused for its reason

module _ (state : FeedState) (version : Version) (i : ℕ) where
  abbrev answer_of : Message → Answer
  answer_of message = (handled state message version).0

  abbrev Gets : Reason → Message → Type 0
  Gets reason message = answer_of message ≡ refusal_of (message_flow message) reason i version

  at-index : (n : ℕ) (reason : Reason) (index : ℕ) → i ≡ index → refusal_of n reason index version ≡ refusal_of n reason i version
  at-index n reason index is = ap (λ (k : ℕ). refusal_of n reason k version) (sym is)

  gets-above : (message : Message) → FlowAbove state message i → Gets reasons.FlowAbove message
  gets-above (Create n mss cwnd) row =
      ap (λ (b : Bool). (cond b (created_at (there state.flows n) state version n cwnd) (refused state version n reasons.FlowAbove 0)).0) (le-ltb n most_flows row.0) ∙ at-index n reasons.FlowAbove 0 row.1
  gets-above (Measure report) row = absurd row
  gets-above (Install n program code) row = absurd row
  gets-above (Update n values) row = absurd row
  gets-above (Change n program values) row = absurd row
  gets-above (Fault notice) row = absurd row
  gets-above (message.Ack n ack) row = absurd row
  gets-above (Refused n reason index) row = absurd row

  gets-exists : (message : Message) → FlowExists state message i → Gets reasons.FlowExists message
  gets-exists (Create n mss cwnd) row =
      ap (λ (b : Bool). (cond b (created_at (there state.flows n) state version n cwnd) (refused state version n reasons.FlowAbove 0)).0) (lt-ltb n most_flows row.0)
      ∙ ap (λ (o : Option Flow). (created_at o state version n cwnd).0) row.2 ∙ at-index n reasons.FlowExists 0 row.3
  gets-exists (Measure report) row = absurd row
  gets-exists (Install n program code) row = absurd row
  gets-exists (Update n values) row = absurd row
  gets-exists (Change n program values) row = absurd row
  gets-exists (Fault notice) row = absurd row
  gets-exists (message.Ack n ack) row = absurd row
  gets-exists (Refused n reason index) row = absurd row

  gets-no-flow : (message : Message) → NoFlow state message i → Gets reasons.NoFlow message
  gets-no-flow (Change n program values) row = ap (λ (o : Option Flow). (changed_at o state version n program values).0) row.0 ∙ at-index n reasons.NoFlow 0 row.1
  gets-no-flow (Update n values) row = ap (λ (o : Option Flow). (updated_at o state version n values).0) row.0 ∙ at-index n reasons.NoFlow 0 row.1
  gets-no-flow (message.Ack n ack) row = ap (λ (o : Option Flow). (flow_acked o state version n ack).0) row.0 ∙ at-index n reasons.NoFlow 0 row.1
  gets-no-flow (Create n mss cwnd) row = absurd row
  gets-no-flow (Measure report) row = absurd row
  gets-no-flow (Install n program code) row = absurd row
  gets-no-flow (Fault notice) row = absurd row
  gets-no-flow (Refused n reason index) row = absurd row

  -- an Install of a program below 16, and a Change of a flow that is there
  installs-below : (n program : ℕ) (code : Code) → program < most_kept_programs
      → answer_of (Install n program code) ≡ (installed_at (there state.programs program) state version n program code).0
  installs-below n program code lt =
      ap (λ (b : Bool). (cond b (installed_at (there state.programs program) state version n program code) (refused state version n reasons.ProgramAbove program)).0) (lt-ltb program most_kept_programs lt)

  changes-there : (n program : ℕ) (values : List Pair) (flow : Flow) → IsFlowAt state n flow
      → answer_of (Change n program values) ≡ (changed_at (Some flow) state version n program values).0
  changes-there n program values flow at = ap (λ (o : Option Flow). (changed_at o state version n program values).0) at

  changes-below : (n program : ℕ) (values : List Pair) (flow : Flow) → IsFlowAt state n flow → program < most_kept_programs
      → answer_of (Change n program values) ≡ (changed_to (there state.programs program) state version n program values flow).0
  changes-below n program values flow at lt =
      changes-there n program values flow at
      ∙ ap (λ (b : Bool). (cond b (changed_to (there state.programs program) state version n program values flow) (refused state version n reasons.ProgramAbove program)).0) (lt-ltb program most_kept_programs lt)

  changes-code : (n program : ℕ) (values : List Pair) (flow : Flow) (code : Code) → IsFlowAt state n flow → IsCodeAt state program code
      → answer_of (Change n program values) ≡ (changed_to (Some code) state version n program values flow).0
  changes-code n program values flow code at here =
      changes-below n program values flow at here.0 ∙ ap (λ (o : Option Code). (changed_to o state version n program values flow).0) here.1

  gets-program-above : (message : Message) → ProgramAbove state message i → Gets reasons.ProgramAbove message
  gets-program-above (Install n program code) row =
      ap (λ (b : Bool). (cond b (installed_at (there state.programs program) state version n program code) (refused state version n reasons.ProgramAbove program)).0) (le-ltb program most_kept_programs row.0)
      ∙ at-index n reasons.ProgramAbove program row.1
  gets-program-above (Change n program values) row =
      changes-there n program values row.0 row.1
      ∙ ap (λ (b : Bool). (cond b (changed_to (there state.programs program) state version n program values row.0) (refused state version n reasons.ProgramAbove program)).0) (le-ltb program most_kept_programs row.2)
      ∙ at-index n reasons.ProgramAbove program row.3
  gets-program-above (Create n mss cwnd) row = absurd row
  gets-program-above (Measure report) row = absurd row
  gets-program-above (Update n values) row = absurd row
  gets-program-above (Fault notice) row = absurd row
  gets-program-above (message.Ack n ack) row = absurd row
  gets-program-above (Refused n reason index) row = absurd row

  gets-program-exists : (message : Message) → ProgramExists state message i → Gets reasons.ProgramExists message
  gets-program-exists (Install n program code) row =
      installs-below n program code row.1.0 ∙ ap (λ (o : Option Code). (installed_at o state version n program code).0) row.1.1 ∙ at-index n reasons.ProgramExists program row.2
  gets-program-exists (Create n mss cwnd) row = absurd row
  gets-program-exists (Measure report) row = absurd row
  gets-program-exists (Update n values) row = absurd row
  gets-program-exists (Change n program values) row = absurd row
  gets-program-exists (Fault notice) row = absurd row
  gets-program-exists (message.Ack n ack) row = absurd row
  gets-program-exists (Refused n reason index) row = absurd row

  gets-no-program : (message : Message) → NoProgram state message i → Gets reasons.NoProgram message
  gets-no-program (Change n program values) row =
      changes-below n program values row.0 row.1 row.2.0 ∙ ap (λ (o : Option Code). (changed_to o state version n program values row.0).0) row.2.1 ∙ at-index n reasons.NoProgram program row.3
  gets-no-program (Update n values) row =
      ap (λ (o : Option Flow). (updated_at o state version n values).0) row.1
      ∙ ap (λ (o : Option Code). (updated_on o state version n values row.0).0) row.2 ∙ at-index n reasons.NoProgram 0 row.3
  gets-no-program (Create n mss cwnd) row = absurd row
  gets-no-program (Measure report) row = absurd row
  gets-no-program (Install n program code) row = absurd row
  gets-no-program (Fault notice) row = absurd row
  gets-no-program (message.Ack n ack) row = absurd row
  gets-no-program (Refused n reason index) row = absurd row

  gets-not-accepted : (message : Message) → NotAccepted state message i → Gets reasons.NotAccepted message
  gets-not-accepted (Install n program code) row =
      installs-below n program code row.0.0 ∙ ap (λ (o : Option Code). (installed_at o state version n program code).0) row.0.1
      ∙ ap (λ (o : Option Refusal). (installed_as o state version n program code).0) row.2 ∙ at-index n reasons.NotAccepted (row.1).1 row.3
  gets-not-accepted (Create n mss cwnd) row = absurd row
  gets-not-accepted (Measure report) row = absurd row
  gets-not-accepted (Update n values) row = absurd row
  gets-not-accepted (Change n program values) row = absurd row
  gets-not-accepted (Fault notice) row = absurd row
  gets-not-accepted (message.Ack n ack) row = absurd row
  gets-not-accepted (Refused n reason index) row = absurd row

  gets-no-register : (message : Message) → NoRegister state message i → Gets reasons.NoRegister message
  gets-no-register (Change n program values) row =
      let flow : Flow = row.0 in
      let code : Code = row.1 in
      changes-code n program values flow code row.2 row.3
      ∙ ap (λ (b : Bool). (cond b (refused state version n reasons.TooWide program) (changed_with (first_bad_pair (length code.controls) values) state version n program values flow code)).0) row.4
      ∙ ap (λ (o : Option ℕ). (changed_with o state version n program values flow code).0) row.5
  gets-no-register (Update n values) row =
      let flow : Flow = row.0 in
      ap (λ (o : Option Flow). (updated_at o state version n values).0) row.2
      ∙ ap (λ (o : Option Code). (updated_on o state version n values flow).0) row.3
      ∙ ap (λ (o : Option ℕ). (updated_with o state version n values flow).0) row.4
  gets-no-register (Create n mss cwnd) row = absurd row
  gets-no-register (Measure report) row = absurd row
  gets-no-register (Install n program code) row = absurd row
  gets-no-register (Fault notice) row = absurd row
  gets-no-register (message.Ack n ack) row = absurd row
  gets-no-register (Refused n reason index) row = absurd row

  gets-too-wide : (message : Message) → TooWide state message i → Gets reasons.TooWide message
  gets-too-wide (Change n program values) row =
      let flow : Flow = row.0 in
      let code : Code = row.1 in
      changes-code n program values flow code row.2 row.3
      ∙ ap (λ (b : Bool). (cond b (refused state version n reasons.TooWide program) (changed_with (first_bad_pair (length code.controls) values) state version n program values flow code)).0) row.4
      ∙ at-index n reasons.TooWide program row.5
  gets-too-wide (Create n mss cwnd) row = absurd row
  gets-too-wide (Measure report) row = absurd row
  gets-too-wide (Install n program code) row = absurd row
  gets-too-wide (Update n values) row = absurd row
  gets-too-wide (Fault notice) row = absurd row
  gets-too-wide (message.Ack n ack) row = absurd row
  gets-too-wide (Refused n reason index) row = absurd row

-- ---- the law

pub flow_above : ComesIf reasons.FlowAbove FlowAbove
flow_above state message version index =
    ((λ is. (why state version reasons.FlowAbove index message is).row), gets-above state version index message)

pub flow_exists : ComesIf reasons.FlowExists FlowExists
flow_exists state message version index =
    ((λ is. (why state version reasons.FlowExists index message is).row), gets-exists state version index message)

pub no_flow : ComesIf reasons.NoFlow NoFlow
no_flow state message version index =
    ((λ is. (why state version reasons.NoFlow index message is).row), gets-no-flow state version index message)

pub program_above : ComesIf reasons.ProgramAbove ProgramAbove
program_above state message version index =
    ((λ is. (why state version reasons.ProgramAbove index message is).row), gets-program-above state version index message)

pub program_exists : ComesIf reasons.ProgramExists ProgramExists
program_exists state message version index =
    ((λ is. (why state version reasons.ProgramExists index message is).row), gets-program-exists state version index message)

pub no_program : ComesIf reasons.NoProgram NoProgram
no_program state message version index =
    ((λ is. (why state version reasons.NoProgram index message is).row), gets-no-program state version index message)

pub not_accepted : ComesIf reasons.NotAccepted NotAccepted
not_accepted state message version index =
    ((λ is. (why state version reasons.NotAccepted index message is).row), gets-not-accepted state version index message)

pub no_register : ComesIf reasons.NoRegister NoRegister
no_register state message version index =
    ((λ is. (why state version reasons.NoRegister index message is).row), gets-no-register state version index message)

pub too_wide : ComesIf reasons.TooWide TooWide
too_wide state message version index =
    ((λ is. (why state version reasons.TooWide index message is).row), gets-too-wide state version index message)

pub changes_nothing : ChangesNothing
changes_nothing state message version reason index is =
    ap (λ (s : FeedState). record s { messages = s.messages + 1 }) (why state version reason index message is).same
