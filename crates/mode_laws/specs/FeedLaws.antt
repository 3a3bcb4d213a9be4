-- What `feed` answers about a program that was tried by `fold`: the same reports, and the same fault.
use Rattle.std.specs.Prelude.{◌≡◌, ℕ, ◌<◌, ◌≤◌, false, Option, Some, None, Ok, List, [], ◌∷◌, ◌++◌, length, map}
use Rattle.std.specs.List.{AllByRecursion}
use Rattle.std.specs.Option.{ForSome}
use Rattle.ccp_base.specs.declared.ack.Ack.{Ack}
use Rattle.ccp_base.specs.declared.exchange.Notice.{Notice}
use Rattle.ccp_base.specs.declared.exchange.Report.{Report}
use Rattle.ccp_base.specs.declared.fields.FieldReg.TheVariants.{Cwnd}
use Rattle.ccp_base.specs.FieldReg.{Pair}
use Rattle.ccp_base.specs.Limits.{most_flows, most_input_bytes, most_kept_programs}
use Rattle.portus_core.specs.Epoch.{epoch_start}
use Rattle.portus_core.specs.ProgramForm.{form_of}
use Rattle.reg_code.specs.declared.code.Code.{Code}
use Rattle.reg_compiler.specs.declared.built.Built.{Built}
use Rattle.reply_frames.specs.declared.outline.Version.{Version}
use Rattle.ccp_messages.specs.declared.message.Message.{Message}
use Rattle.ccp_messages.specs.declared.message.Message.TheVariants.{Create, Measure, Install, Change, Fault}
use Rattle.ccp_messages.specs.declared.message.Message.TheVariants as message
use Rattle.ccp_messages.specs.Laws.{HasFrame}
use Rattle.ccp_messages.specs.Messages.{frame_bytes}
use Rattle.fold_run.specs.Fold.{IsFoldNotice, TellsFault, fold_start, fold_reports, fold_end}
use Rattle.feed_core.specs.declared.ending.FeedEnd.TheVariants.{Whole}
use Rattle.feed_core.specs.Feed.{FeedState, answer_message, is_too_wide, no_flows, there}
use Rattle.feed_core.specs.FeedEnds.{answers_written, feed_end}
use Rattle.feed_core.specs.FeedHolds.{IsFeed}
use Rattle.feed_core.specs.Refusals.{IsFreeAt}

-- ---- messages and their answers

-- a message in a version, as a frame has it
abbrev pub Sent : Type 0
Sent = Message × Version

-- none or one
abbrev pub listed : {A : Type 0} → Option A → List A
listed None = []
listed (Some x) = x ∷ []

-- the answers to messages, in order; some messages have none
abbrev pub answers_to : FeedState → List Sent → List Sent
answers_to state [] = []
answers_to state ((message, version) ∷ rest) =
    let answered = answer_message state message version in listed answered.0 ++ answers_to answered.1 rest

-- the frames of messages, one after another
abbrev pub frames_of : List Sent → List ℕ
frames_of [] = []
frames_of ((message, version) ∷ rest) = frame_bytes version message ++ frames_of rest

-- messages that have frames, in all not more bytes than `feed` takes, are an input of `feed`, which writes the frames
-- of their answers
abbrev pub FeedAnswersFrames : Type 0
FeedAnswersFrames =
    (messages : List Sent)
    → AllByRecursion (λ (sent : Sent). HasFrame sent.1 sent.0) messages
    → length (frames_of messages) ≤ most_input_bytes
    → (feed_end (frames_of messages) ≡ Whole)
    × (answers_written (frames_of messages) ≡ frames_of (answers_to no_flows messages))

-- ---- a program on a datapath

-- how a program is put on a datapath, in frames of a version: the flow that is created, with its segment size and
-- window; the number under which the program is installed; and the values with which the flow is changed to it
pub record Deployment : Type 0 where
  pub version : Version
  pub flow : ℕ
  pub mss : ℕ
  pub cwnd : ℕ
  pub program : ℕ
  pub values : List Pair

-- the messages for this, and then one Ack for each acknowledgement
abbrev pub deployed : Deployment → Code → List Ack → List Sent
deployed d code acks =
    map (λ message. (message, d.version))
    (Create d.flow d.mss d.cwnd ∷ Install d.flow d.program code ∷ Change d.flow d.program d.values
    ∷ map (message.Ack d.flow) acks)

-- the datapath refuses none of these messages, and starts the program as `fold` does: the numbers of the flow and the
-- program are free, the version has frames for the program's reports, and the values are for registers of the program
-- and give each register its value at the start of a fold; there `Cwnd` is 0
pub record StartsAsFold (state : FeedState) (d : Deployment) (built : Built) : Type 0 where
  pub feed : IsFeed state
  pub flow : d.flow < most_flows
  pub no_flow : there state.flows d.flow ≡ None
  pub program : IsFreeAt state d.program
  pub narrow : is_too_wide d.version built.code.code ≡ false
  pub start : epoch_start (form_of built.program) d.values d.cwnd 0 0 ≡ Ok (fold_start (form_of built.program)).env

-- a datapath without flows starts so every program for whose reports the version has frames, if `Cwnd` is 0 by a value
abbrev pub StartsAtWindowZero : Type 0
StartsAtWindowZero =
    (built : Built) (d : Deployment)
    → d.flow < most_flows
    → d.program < most_kept_programs
    → is_too_wide d.version built.code.code ≡ false
    → d.values ≡ (Cwnd, 0) ∷ []
    → StartsAsFold no_flows d built

-- the answer with a report of `fold`, under the numbers of the flow and the program
abbrev pub measure_of : Deployment → Report → Sent
measure_of d report = (Measure (record report { flow = d.flow; program = d.program }), d.version)

-- the answer with the notice of a fold's fault, under these numbers
abbrev pub fault_of : Deployment → Notice → Sent
fault_of d notice = (Fault (record notice { flow = d.flow; program = d.program }), d.version)

-- the answers are the reports of `fold` in order, then its fault, if it has one, and nothing else; the place that
-- `fold` prints is that of the instruction that the answer names
pub record AnswersAsFold (d : Deployment) (built : Built) (acks : List Ack) (answers : List Sent) : Type 0 where
  pub notice : Option Notice
  pub reports :
      answers ≡ map (measure_of d) (fold_reports (form_of built.program) acks) ++ map (fault_of d) (listed notice)
  pub fault : TellsFault built acks notice
  pub noticed : ForSome notice (IsFoldNotice acks built.places (fold_end (form_of built.program) acks).cwnd)

-- so each datapath answers each program that it starts as `fold` does
abbrev pub FeedAnswersAsFold : Type 0
FeedAnswersAsFold =
    (built : Built) (acks : List Ack) (state : FeedState) (d : Deployment)
    → StartsAsFold state d built
    → AnswersAsFold d built acks (answers_to state (deployed d built.code.code acks))
