-- The reasons for which a datapath over frames refuses a message: a row for each, with its exact condition.
use Rattle.std.specs.Prelude.{◌≡◌, ◌↔◌, ℕ, ◌<◌, ◌≤◌, ◌+◌, true, false, Some, None, length}
use Rattle.ccp_base.specs.FieldReg.{first_bad_pair}
use Rattle.ccp_base.specs.Limits.{most_flows, most_kept_programs}
use Rattle.reg_code.specs.declared.code.Code.{Code}
use Rattle.reg_code.specs.AcceptedCode.{Refusal, rejected}
use Rattle.reply_frames.specs.declared.outline.Version.{Version}
use Rattle.ccp_messages.specs.declared.message.Message.{Message}
use Rattle.ccp_messages.specs.declared.message.Message.TheVariants.{Create, Install, Update, Change, Refused}
use Rattle.ccp_messages.specs.declared.message.Message.TheVariants as message
use Rattle.ccp_messages.specs.declared.reason.Reason.{Reason}
use Rattle.ccp_messages.specs.Messages.{message_flow}
use Rattle.feed_core.specs.declared.flow.Flow.{Flow}
use Rattle.feed_core.specs.Feed.{FeedState, there, is_too_wide, running_code, answer_message}

-- the message is refused for this reason, with this index, in the version of its frame
abbrev pub RefusesMessage : FeedState → Message → Version → Reason → ℕ → Type 0
RefusesMessage state message version reason index =
    (answer_message state message version).0 ≡ Some (Refused (message_flow message) reason index, version)

-- ---- which flows and programs exist

abbrev pub IsFlowAt : FeedState → ℕ → Flow → Type 0
IsFlowAt state n flow = there state.flows n ≡ Some flow

abbrev pub IsCodeAt : FeedState → ℕ → Code → Type 0
IsCodeAt state program code = (program < most_kept_programs) × (there state.programs program ≡ Some code)

abbrev pub IsFreeAt : FeedState → ℕ → Type 0
IsFreeAt state program = (program < most_kept_programs) × (there state.programs program ≡ None)

-- ---- the rows, one for each reason, each with its index

-- a Create of a flow above 63
abbrev pub FlowAbove : FeedState → Message → ℕ → Type 0
FlowAbove state (Create n mss cwnd) index = (most_flows ≤ n) × (index ≡ 0)
FlowAbove state _ index = ⊥

-- a Create of a flow that exists
abbrev pub FlowExists : FeedState → Message → ℕ → Type 0
FlowExists state (Create n mss cwnd) index = (n < most_flows) × (flow : Flow) × IsFlowAt state n flow × (index ≡ 0)
FlowExists state _ index = ⊥

-- a Change, an Update or an Ack of a flow that doesn't exist
abbrev pub NoFlow : FeedState → Message → ℕ → Type 0
NoFlow state (Change n program values) index = (there state.flows n ≡ None) × (index ≡ 0)
NoFlow state (Update n values) index = (there state.flows n ≡ None) × (index ≡ 0)
NoFlow state (message.Ack n ack) index = (there state.flows n ≡ None) × (index ≡ 0)
NoFlow state _ index = ⊥

-- an Install or a Change of a program above 15
abbrev pub ProgramAbove : FeedState → Message → ℕ → Type 0
ProgramAbove state (Install n program code) index = (most_kept_programs ≤ program) × (index ≡ program)
ProgramAbove state (Change n program values) index =
    (flow : Flow) × IsFlowAt state n flow × (most_kept_programs ≤ program) × (index ≡ program)
ProgramAbove state _ index = ⊥

-- an Install of a program that exists
abbrev pub ProgramExists : FeedState → Message → ℕ → Type 0
ProgramExists state (Install n program code) index = (old : Code) × IsCodeAt state program old × (index ≡ program)
ProgramExists state _ index = ⊥

-- a Change to a program that doesn't exist, or an Update of a flow without a program
abbrev pub NoProgram : FeedState → Message → ℕ → Type 0
NoProgram state (Change n program values) index =
    (flow : Flow) × IsFlowAt state n flow × IsFreeAt state program × (index ≡ program)
NoProgram state (Update n values) index =
    (flow : Flow) × IsFlowAt state n flow × (running_code flow.epoch state.programs ≡ None) × (index ≡ 0)
NoProgram state _ index = ⊥

-- an Install of a code that isn't accepted
abbrev pub NotAccepted : FeedState → Message → ℕ → Type 0
NotAccepted state (Install n program code) index =
    IsFreeAt state program × (refusal : Refusal) × (rejected code ≡ Some refusal) × (index ≡ refusal.1)
NotAccepted state _ index = ⊥

-- a Change or an Update with a value for a register that the program doesn't have
abbrev pub NoRegister : FeedState → Message → ℕ → Type 0
NoRegister state (Change n program values) index =
    (flow : Flow) × (code : Code) × IsFlowAt state n flow × IsCodeAt state program code
    × (is_too_wide flow.version code ≡ false) × (first_bad_pair (length code.controls) values ≡ Some index)
NoRegister state (Update n values) index =
    (flow : Flow) × (code : Code) × IsFlowAt state n flow × (running_code flow.epoch state.programs ≡ Some code)
    × (first_bad_pair (length code.controls) values ≡ Some index)
NoRegister state _ index = ⊥

-- a Change of a flow of version 1 to a program of more than 32 fields
abbrev pub TooWide : FeedState → Message → ℕ → Type 0
TooWide state (Change n program values) index =
    (flow : Flow) × (code : Code) × IsFlowAt state n flow × IsCodeAt state program code
    × (is_too_wide flow.version code ≡ true) × (index ≡ program)
TooWide state _ index = ⊥

-- ---- the law

-- a message is refused for the reason exactly if its row holds, with the row's index
abbrev pub ComesIf : Reason → (FeedState → Message → ℕ → Type 0) → Type 0
ComesIf reason Row = (state : FeedState) (message : Message) (version : Version) (index : ℕ)
    → (RefusesMessage state message version reason index ↔ Row state message index)

-- a refused message is counted, and changes nothing else
abbrev pub ChangesNothing : Type 0
ChangesNothing = (state : FeedState) (message : Message) (version : Version) (reason : Reason) (index : ℕ)
    → RefusesMessage state message version reason index
    → (answer_message state message version).1 ≡ record state { messages = state.messages + 1 }
