-- Messages, and the one frame of each version that a message has.
use Rattle.std.specs.Prelude.{◌≡◌, ℕ, ◌<◌, ◌≤◌, ◌^◌, List, [], ◌∷◌, ◌++◌, length, take, map}
use Rattle.std.specs.List.{AllByRecursion}
use Rattle.ccp_base.specs.declared.ack.Ack.{Ack}
use Rattle.ccp_base.specs.declared.exchange.Report.{Report}
use Rattle.ccp_base.specs.declared.exchange.Notice.{Notice}
use Rattle.ccp_base.specs.Acknowledgement.{primitives, flag_number, ack_of}
use Rattle.ccp_base.specs.FieldReg.{Pair}
use Rattle.ccp_base.specs.Limits.{most_fields, most_short_fields, most_controls, most_blocks, most_instrs, most_pairs}
use Rattle.reg_code.specs.declared.code.Code.{Code}
use Rattle.reg_code.specs.declared.code.Event.{Event}
use Rattle.reg_code.specs.declared.code.Instr.{Instr}
use Rattle.reg_code.specs.declared.code.Reg.{Reg}
use Rattle.reg_code.specs.declared.code.Reg.TheVariants as reg
use Rattle.reg_code.specs.declared.code.Start.{Start}
use Rattle.reply_frames.specs.declared.outline.Version.{Version}
use Rattle.reply_frames.specs.declared.outline.Version.TheVariants.{One, Two}
use Rattle.reply_frames.specs.Kinds.{size_of}
use Rattle.reply_frames.specs.Frames.{Body}
use Rattle.reply_frames.specs.Frames as body
use Rattle.reply_frames.specs.Bodies.{fault_kind_of, report_body, notice_body, ack_body}
use Rattle.reply_frames.specs.ValueBytes.{AreTargets, ValueFits}
use Rattle.reply_frames.specs.FrameBytes.{kind_of_body, body_counts, spelled, IsNumber, IsCount}
use Rattle.reply_frames.specs.Writing.{WroteFront}
use Rattle.ccp_messages.specs.declared.message.Message.{Message}
use Rattle.ccp_messages.specs.declared.message.Message.TheVariants.{Create, Measure, Install, Update, Change, Fault}
use Rattle.ccp_messages.specs.declared.message.Message.TheVariants.{Refused}
use Rattle.ccp_messages.specs.declared.message.Message.TheVariants as message
use Rattle.ccp_messages.specs.CodeParts.{decoded_start, decoded_event, decoded_instr, code_body}
use Rattle.ccp_messages.specs.Reasons.{number_of_reason, reason_of}

-- ---- the conditions of the encoder

-- a count of acknowledgements for which the version has room; version 2 has room for all
abbrev pub IsShortCount : Version → ℕ → Type 0
IsShortCount One n = IsCount One n
IsShortCount Two n = Unit {0}

-- this number of fields or reports is small enough for the version; for version 2 that of every message is
abbrev pub AreFew : Version → ℕ → Type 0
AreFew One n = n ≤ most_short_fields
AreFew Two n = Unit {0}

-- its counts of acknowledgements, its fields and its reports are narrow enough for the version
abbrev pub IsNarrowFor : Version → Message → Type 0
IsNarrowFor version (Create flow mss cwnd) = Unit {0}
IsNarrowFor version (Measure report) =
    IsShortCount version report.first × IsShortCount version report.end × AreFew version (length report.fields)
IsNarrowFor version (Install flow program code) = AreFew version (length code.reports)
IsNarrowFor version (Update flow values) = Unit {0}
IsNarrowFor version (Change flow program values) = Unit {0}
IsNarrowFor version (Fault notice) = IsShortCount version notice.at
IsNarrowFor version (message.Ack flow ack) = Unit {0}
IsNarrowFor version (Refused flow reason index) = Unit {0}

-- its counts of acknowledgements are below 2^32, and it has at most 32 fields or reports
abbrev pub IsNarrow : Message → Type 0
IsNarrow message = IsNarrowFor One message

abbrev pub Meets : Version → Message → Type 0
Meets version (Create flow mss cwnd) = Unit {0}
Meets version (Measure report) = IsNarrowFor version (Measure report)
Meets version (Install flow program code) =
    (length code.reports ≤ most_fields) × (length code.controls ≤ most_controls) × (length code.events ≤ most_blocks)
    × (length code.instrs ≤ most_instrs) × IsNarrowFor version (Install flow program code)
Meets version (Update flow values) = AreTargets values
Meets version (Change flow program values) = AreTargets values
Meets version (Fault notice) = IsNarrowFor version (Fault notice)
Meets version (message.Ack flow ack) = Unit {0}
Meets version (Refused flow reason index) = Unit {0}

-- ---- the frame of a message

abbrev pub message_flow : Message → ℕ
message_flow (Create flow mss cwnd) = flow
message_flow (Measure report) = report.flow
message_flow (Install flow program code) = flow
message_flow (Update flow values) = flow
message_flow (Change flow program values) = flow
message_flow (Fault notice) = notice.flow
message_flow (message.Ack flow ack) = flow
message_flow (Refused flow reason index) = flow

-- what the frame says after its head
abbrev pub message_body : Message → Body
message_body (Create flow mss cwnd) = body.Create cwnd mss
message_body (Measure report) = report_body report
message_body (Install flow program code) = code_body program code
message_body (Update flow values) = body.Update values
message_body (Change flow program values) = body.Change program values
message_body (Fault notice) = notice_body notice
message_body (message.Ack flow ack) = ack_body ack
message_body (Refused flow reason index) = body.Refused (number_of_reason reason) index

-- the length of the message's frame in a version
abbrev pub size_in : Version → Message → ℕ
size_in version message = size_of (kind_of_body (message_body message)) version (body_counts (message_body message))

-- the message's frame in a version, if it meets the conditions
abbrev pub frame_bytes : Version → Message → List ℕ
frame_bytes version message = spelled version (message_flow message) (message_body message)

-- the message's frame was written at the front, and the answer is its length
abbrev pub WroteFrame : Version → Message → List ℕ → List ℕ → ℕ → Type 0
WroteFrame version message old out answer =
    WroteFront (length (frame_bytes version message)) (frame_bytes version message) old out answer

-- these bytes are the frame of the message
abbrev pub IsFrameOf : Message → Version → List ℕ → Type 0
IsFrameOf message version bytes = Meets version message × (bytes ≡ frame_bytes version message)

-- ---- the message of a frame

abbrev pub message_of : ℕ → Body → Message
message_of flow (body.Create cwnd mss) = Create flow mss cwnd
message_of flow (body.Measure program epoch first last now cwnd rate fields) =
    Measure (record {
      flow = flow;
      program = program;
      epoch = epoch;
      first = first;
      end = last;
      now = now;
      cwnd = cwnd;
      rate = rate;
      fields = fields;
    })
message_of flow (body.Install program reports controls events instructions) =
    Install flow program (record {
      reports = map decoded_start reports;
      controls = map decoded_start controls;
      events = map decoded_event events;
      instrs = map decoded_instr instructions;
    })
message_of flow (body.Update values) = Update flow values
message_of flow (body.Change program values) = Change flow program values
message_of flow (body.Fault program epoch place kind index now cwnd) =
    Fault (record {
      flow = flow;
      program = program;
      epoch = epoch;
      at = place;
      kind = fault_kind_of kind;
      index = index;
      now = now;
      cwnd = cwnd;
    })
message_of flow (body.Ack numbers was_timeout) = message.Ack flow (ack_of (numbers ++ was_timeout ∷ []))
message_of flow (body.Refused number index) = Refused flow (reason_of number) index

-- ---- what types of the language give

abbrev pub IsTypedStart : Start → Type 0
IsTypedStart start = start.value < 2 ^ 64

abbrev pub IsTypedEvent : Event → Type 0
IsTypedEvent event = (event.condition < 2 ^ 16) × (event.body < 2 ^ 16)

abbrev pub IsTypedReg : Reg → Type 0
IsTypedReg (reg.Imm value) = value < 2 ^ 64
IsTypedReg (reg.Prim n) = n < 2 ^ 8
IsTypedReg (reg.Report i) = i < 2 ^ 8
IsTypedReg (reg.Control i) = i < 2 ^ 8
IsTypedReg (reg.Implicit which) = Unit {0}
IsTypedReg (reg.Local i) = i < 2 ^ 8
IsTypedReg (reg.Temp i) = i < 2 ^ 8

abbrev pub IsTypedInstr : Instr → Type 0
IsTypedInstr i = IsTypedReg i.to × IsTypedReg i.left × IsTypedReg i.right

abbrev pub IsTypedCode : Code → Type 0
IsTypedCode code =
    AllByRecursion IsTypedStart code.reports × AllByRecursion IsTypedStart code.controls
    × AllByRecursion IsTypedEvent code.events × AllByRecursion IsTypedInstr code.instrs

abbrev pub IsTypedAck : Ack → Type 0
IsTypedAck ack = AllByRecursion IsNumber (take flag_number (primitives ack))

abbrev pub AreTypedNumbers : List ℕ → Type 0
AreTypedNumbers numbers = (length numbers ≤ most_fields) × AllByRecursion IsNumber numbers

abbrev pub AreTypedPairs : List Pair → Type 0
AreTypedPairs values = (length values ≤ most_pairs) × AllByRecursion ValueFits values

abbrev pub IsTypedReport : Report → Type 0
IsTypedReport r =
    (r.program < 2 ^ 32) × (r.epoch < 2 ^ 32) × (r.first < 2 ^ 64) × (r.end < 2 ^ 64)
    × (r.now < 2 ^ 64) × (r.cwnd < 2 ^ 64) × (r.rate < 2 ^ 64) × AreTypedNumbers r.fields

abbrev pub IsTypedNotice : Notice → Type 0
IsTypedNotice n =
    (n.program < 2 ^ 32) × (n.epoch < 2 ^ 32) × (n.at < 2 ^ 64) × (n.index < 2 ^ 16)
    × (n.now < 2 ^ 64) × (n.cwnd < 2 ^ 64)

-- what the frame says after its head
abbrev pub IsTypedBody : Message → Type 0
IsTypedBody (Create flow mss cwnd) = (mss < 2 ^ 32) × (cwnd < 2 ^ 64)
IsTypedBody (Measure report) = IsTypedReport report
IsTypedBody (Install flow program code) = (program < 2 ^ 32) × IsTypedCode code
IsTypedBody (Update flow values) = AreTypedPairs values
IsTypedBody (Change flow program values) = (program < 2 ^ 32) × AreTypedPairs values
IsTypedBody (Fault notice) = IsTypedNotice notice
IsTypedBody (message.Ack flow ack) = IsTypedAck ack
IsTypedBody (Refused flow reason index) = index < 2 ^ 32

-- the ranges of a message's numbers, and the most that its lists in place hold
abbrev pub IsTyped : Message → Type 0
IsTyped message = (message_flow message < 2 ^ 32) × IsTypedBody message
