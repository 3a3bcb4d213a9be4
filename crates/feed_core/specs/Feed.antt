-- What a datapath over a stream of frames keeps, and its answer to a message.
use Rattle.std.specs.Prelude.{◌≡◌, ℕ, ◌+◌, ◌<◌, nat_lt, Bool, true, false, if◌then◌else◌}
use Rattle.std.specs.Prelude.{Option, Some, None, option_map, unwrap_or, List, length, slice_get, slice_set, replicate}
use Rattle.ccp_base.specs.declared.ack.Ack.{Ack}
use Rattle.ccp_base.specs.declared.running_epoch.RunningEpoch.{RunningEpoch}
use Rattle.ccp_base.specs.FieldReg.{Pair, first_bad_pair}
use Rattle.ccp_base.specs.Limits.{most_flows, most_kept_programs, most_short_fields}
use Rattle.ccp_base.specs.RunningEpochs.{epoch_after, notice_at, report_at, reported_epoch}
use Rattle.reg_code.specs.declared.code.Code.{Code}
use Rattle.reg_code.specs.AcceptedCode.{Refusal, rejected}
use Rattle.reply_frames.specs.declared.outline.Version.{Version}
use Rattle.reply_frames.specs.declared.outline.Version.TheVariants.{One, Two}
use Rattle.ccp_messages.specs.declared.message.Message.{Message}
use Rattle.ccp_messages.specs.declared.message.Message.TheVariants.{Create, Measure, Install, Update, Change, Fault}
use Rattle.ccp_messages.specs.declared.message.Message.TheVariants.{Refused}
use Rattle.ccp_messages.specs.declared.message.Message.TheVariants as message
use Rattle.ccp_messages.specs.declared.reason.Reason.{Reason}
use Rattle.ccp_messages.specs.declared.reason.Reason.TheVariants.{FlowAbove, FlowExists, NoFlow, ProgramAbove}
use Rattle.ccp_messages.specs.declared.reason.Reason.TheVariants.{ProgramExists, NoProgram, NotAccepted, NoRegister}
use Rattle.ccp_messages.specs.declared.reason.Reason.TheVariants.{TooWide}
use Rattle.fold_machine.specs.declared.acked.Acked.{Acked}
use Rattle.fold_machine.specs.declared.acked.Acked.TheVariants as acked
use Rattle.fold_machine.specs.MachineState.{MachineState, fresh_machine}
use Rattle.fold_machine.specs.Heard.{after_acknowledgement, started_by, updated_by}
use Rattle.feed_core.specs.declared.flow.Flow.{Flow}

-- the flows and the programs by number, None for each that doesn't exist, and how many messages there were
pub record FeedState : Type 0 where
  pub flows : List (Option Flow)
  pub programs : List (Option Code)
  pub messages : ℕ

-- the one with this number, if it exists
abbrev pub there : {A : Type 0} → List (Option A) → ℕ → Option A
there places n = unwrap_or (slice_get places n) None

-- room for flows 0 to 63 and programs 0 to 15, and none at first
abbrev pub no_flows : FeedState
no_flows = record { flows = replicate most_flows None; programs = replicate most_kept_programs None; messages = 0 }

-- an answer with its version
abbrev pub Answer : Type 0
Answer = Option (Message × Version)

-- the answer to a message, and the state after it
abbrev pub MessageAnswer : Type 0
MessageAnswer = Answer × FeedState

-- a refused frame is answered in its own version, and changes nothing
abbrev pub refused : FeedState → Version → ℕ → Reason → ℕ → MessageAnswer
refused state version n reason index = (Some (Refused n reason index, version), state)

abbrev pub with_flow : FeedState → ℕ → Flow → FeedState
with_flow state n flow = record state { flows = slice_set state.flows n (Some flow) }

-- ---- Create: a flow with a window, without a program

abbrev pub fresh_flow : Version → ℕ → Flow
fresh_flow version cwnd = record {
  version = version;
  machine = fresh_machine cwnd 0 0;
  epoch = None;
  count = 0;
  last = 0;
}

abbrev pub created_at : Option Flow → FeedState → Version → ℕ → ℕ → MessageAnswer
created_at (Some flow) state version n cwnd = refused state version n FlowExists 0
created_at None state version n cwnd = (None, with_flow state n (fresh_flow version cwnd))

abbrev pub created : FeedState → Version → ℕ → ℕ → MessageAnswer
created state version n cwnd =
    if nat_lt n most_flows then created_at (there state.flows n) state version n cwnd
    else refused state version n FlowAbove 0

-- ---- Install: an accepted code is kept

abbrev pub installed_as : Option Refusal → FeedState → Version → ℕ → ℕ → Code → MessageAnswer
installed_as (Some refusal) state version n program code = refused state version n NotAccepted refusal.1
installed_as None state version n program code =
    (None, record state { programs = slice_set state.programs program (Some code) })

abbrev pub installed_at : Option Code → FeedState → Version → ℕ → ℕ → Code → MessageAnswer
installed_at (Some old) state version n program code = refused state version n ProgramExists program
installed_at None state version n program code = installed_as (rejected code) state version n program code

abbrev pub installed : FeedState → Version → ℕ → ℕ → Code → MessageAnswer
installed state version n program code =
    if nat_lt program most_kept_programs then installed_at (there state.programs program) state version n program code
    else refused state version n ProgramAbove program

-- ---- Change: the program starts with the values; the first change of a flow is its epoch 0

abbrev pub changed_flow : Code → ℕ → List Pair → Flow → Flow
changed_flow code program values flow = record flow {
  machine = started_by code values flow.last flow.machine;
  epoch = Some (epoch_after flow.epoch program flow.count);
}

-- a report of the program has no frame in the version
abbrev pub is_too_wide : Version → Code → Bool
is_too_wide One code = nat_lt most_short_fields (length code.reports)
is_too_wide Two code = false

abbrev pub changed_with : Option ℕ → FeedState → Version → ℕ → ℕ → List Pair → Flow → Code → MessageAnswer
changed_with (Some place) state version n program values flow code = refused state version n NoRegister place
changed_with None state version n program values flow code =
    (None, with_flow state n (changed_flow code program values flow))

abbrev pub changed_to : Option Code → FeedState → Version → ℕ → ℕ → List Pair → Flow → MessageAnswer
changed_to None state version n program values flow = refused state version n NoProgram program
changed_to (Some code) state version n program values flow =
    if is_too_wide flow.version code then refused state version n TooWide program
    else changed_with (first_bad_pair (length code.controls) values) state version n program values flow code

abbrev pub changed_at : Option Flow → FeedState → Version → ℕ → ℕ → List Pair → MessageAnswer
changed_at None state version n program values = refused state version n NoFlow 0
changed_at (Some flow) state version n program values =
    if nat_lt program most_kept_programs
    then changed_to (there state.programs program) state version n program values flow
    else refused state version n ProgramAbove program

abbrev pub changed : FeedState → Version → ℕ → ℕ → List Pair → MessageAnswer
changed state version n program values = changed_at (there state.flows n) state version n program values

-- ---- Update: values for the program that was started; a stopped one stays stopped

-- the code that a flow runs
abbrev pub running_code : Option RunningEpoch → List (Option Code) → Option Code
running_code None programs = None
running_code (Some epoch) programs = there programs epoch.program

abbrev pub updated_flow : List Pair → Flow → Flow
updated_flow values flow = record flow { machine = updated_by values flow.machine }

abbrev pub updated_with : Option ℕ → FeedState → Version → ℕ → List Pair → Flow → MessageAnswer
updated_with (Some place) state version n values flow = refused state version n NoRegister place
updated_with None state version n values flow = (None, with_flow state n (updated_flow values flow))

abbrev pub updated_on : Option Code → FeedState → Version → ℕ → List Pair → Flow → MessageAnswer
updated_on None state version n values flow = refused state version n NoProgram 0
updated_on (Some code) state version n values flow =
    updated_with (first_bad_pair (length code.controls) values) state version n values flow

abbrev pub updated_at : Option Flow → FeedState → Version → ℕ → List Pair → MessageAnswer
updated_at None state version n values = refused state version n NoFlow 0
updated_at (Some flow) state version n values =
    updated_on (running_code flow.epoch state.programs) state version n values flow

abbrev pub updated : FeedState → Version → ℕ → List Pair → MessageAnswer
updated state version n values = updated_at (there state.flows n) state version n values

-- ---- Ack: one acknowledgement with room for a report, only counted if no program was started

abbrev pub counted_flow : Ack → Flow → Flow
counted_flow ack flow = record flow { count = flow.count + 1; last = ack.now }

-- the epoch after an acknowledgement, with which there are `count`: a report ends the span that it reports
abbrev pub epoch_heard : Option Acked → ℕ → Option RunningEpoch → Option RunningEpoch
epoch_heard (Some acked.Reported) count epoch = option_map (reported_epoch count) epoch
epoch_heard _ count epoch = epoch

abbrev pub flow_after : Option Acked × MachineState → Ack → Flow → Flow
flow_after (came, machine) ack flow = record flow {
  machine = machine;
  epoch = epoch_heard came (flow.count + 1) flow.epoch;
  count = flow.count + 1;
  last = ack.now;
}

-- the message about an acknowledgement of the epoch that runs: a report, or a fault
abbrev pub message_about : Option Acked × MachineState → Ack → ℕ → Flow → Option Message
message_about (Some acked.Reported, machine) ack n flow = option_map (λ epoch. Measure
    (report_at epoch n (flow.count + 1) ack.now machine.kept.cwnd machine.kept.rate machine.report)) flow.epoch
message_about (Some (acked.Faulted kind index), machine) ack n flow = option_map (λ epoch. Fault
    (notice_at epoch n flow.count ack.now machine.kept.cwnd kind index)) flow.epoch
message_about _ ack n flow = None

abbrev pub in_version : Version → Option Message → Answer
in_version version answer = option_map (λ message. (message, version)) answer

abbrev pub acked_on : Option Code → FeedState → ℕ → Ack → Flow → MessageAnswer
acked_on None state n ack flow = (None, with_flow state n (counted_flow ack flow))
acked_on (Some code) state n ack flow =
    let came = after_acknowledgement code ack true flow.machine in
    (in_version flow.version (message_about came ack n flow), with_flow state n (flow_after came ack flow))

abbrev pub flow_acked : Option Flow → FeedState → Version → ℕ → Ack → MessageAnswer
flow_acked None state version n ack = refused state version n NoFlow 0
flow_acked (Some flow) state version n ack = acked_on (running_code flow.epoch state.programs) state n ack flow

abbrev pub answer_to_ack : FeedState → Version → ℕ → Ack → MessageAnswer
answer_to_ack state version n ack = flow_acked (there state.flows n) state version n ack

-- ---- a message of any kind

abbrev pub handled : FeedState → Message → Version → MessageAnswer
handled state (Create n mss cwnd) version = created state version n cwnd
handled state (Install n program code) version = installed state version n program code
handled state (Change n program values) version = changed state version n program values
handled state (Update n values) version = updated state version n values
handled state (message.Ack n ack) version = answer_to_ack state version n ack
handled state (Measure report) version = (None, state)
handled state (Fault notice) version = (None, state)
handled state (Refused n reason index) version = (None, state)

abbrev pub counted : MessageAnswer → MessageAnswer
counted (answer, state) = (answer, record state { messages = state.messages + 1 })

-- the answer to a message, and the state after it; every message counts
abbrev pub answer_message : FeedState → Message → Version → MessageAnswer
answer_message state message version = counted (handled state message version)

-- the messages whose handling takes memory: a Create of a flow that doesn't exist, for its machine
abbrev pub TakesMemory : FeedState → Message → Type 0
TakesMemory state (Create n mss cwnd) = (n < most_flows) × (there state.flows n ≡ None)
TakesMemory state _ = ⊥
