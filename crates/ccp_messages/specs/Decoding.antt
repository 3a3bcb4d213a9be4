-- What reading a message from the front of bytes gives.
use Rattle.std.specs.Prelude.{◌≡◌, ◌≢◌, ℕ, ◌-◌, List, ◌++◌, length, Result, Ok, Err}
use Rattle.std.specs.Int.{w32}
use Rattle.ccp_base.specs.Outside.{no_memory}
use Rattle.reply_frames.specs.declared.fault.Stop.{Stop}
use Rattle.reply_frames.specs.declared.fault.Stop.TheVariants as stops
use Rattle.reply_frames.specs.declared.fault.FrameFault.{FrameFault}
use Rattle.reply_frames.specs.declared.fault.FrameFault.TheVariants as faults
use Rattle.reply_frames.specs.declared.outline.Version.{Version}
use Rattle.reply_frames.specs.declared.outline.Counts.{Counts}
use Rattle.reply_frames.specs.declared.outline.FrameKind.TheVariants as kinds
use Rattle.reply_frames.specs.declared.outline.Outline.{Outline}
use Rattle.reply_frames.specs.Parts.{Read, ◌>>=◌, number_at, repeated_at}
use Rattle.reply_frames.specs.Frames.{outline_at, start_at, event_at, instruction_at, body_at, Frame, frame_at}
use Rattle.reply_frames.specs.Decoding.{needed_of}
use Rattle.ccp_messages.specs.declared.fault.DecodeFault.{DecodeFault}
use Rattle.ccp_messages.specs.declared.fault.DecodeFault.TheVariants.{More, Bad, NoMemory}
use Rattle.ccp_messages.specs.declared.fault.Halt.{Halt}
use Rattle.ccp_messages.specs.declared.fault.Halt.TheVariants as halt
use Rattle.reg_code.specs.declared.code.Event.{Event}
use Rattle.reg_code.specs.declared.code.Instr.{Instr}
use Rattle.reg_code.specs.declared.code.Start.{Start}
use Rattle.ccp_messages.specs.declared.message.Message.{Message}
use Rattle.ccp_messages.specs.declared.message.Message.TheVariants.{Install}
use Rattle.ccp_messages.specs.CodeParts.{decoded_start, decoded_event, decoded_instr}
use Rattle.ccp_messages.specs.Messages.{Meets, IsTyped, frame_bytes, message_of}

-- a message, its version, and the length of its frame
abbrev pub Found : Type 0
Found = Message × Version × ℕ

-- the bytes begin with the message's frame in the version, which has this length
pub record Begins (bytes : List ℕ) (message : Message) (version : Version) (used : ℕ) : Type 0 where
  pub rest : List ℕ
  pub parts : bytes ≡ frame_bytes version message ++ rest
  pub used_is : used ≡ length (frame_bytes version message)
  pub meets : Meets version message
  pub typed : IsTyped message

-- ---- the reading of a frame, as an answer

-- a function of a part that is read
abbrev pub made : {A B : Type 0} → (A → B) → Read A → Read B
made make (Ok x) = Ok (make x.0, x.1)
made make (Err stop) = Err stop

-- what a function returned, by `view`, is what reading gives, or out of memory
abbrev pub ReturnsReading : {X Y : Type 0} → (X → Y) → Result X Halt → Result Y Stop → Type 0
ReturnsReading view (Ok x) read = read ≡ Ok (view x)
ReturnsReading view (Err (halt.Stopped stop)) read = read ≡ Err stop
ReturnsReading view (Err (halt.NoMemory _)) read = Unit {0}

-- the parts of a code
abbrev pub code_start_at : List ℕ → Read Start
code_start_at bytes = made decoded_start (start_at bytes)

abbrev pub code_event_at : List ℕ → Read Event
code_event_at bytes = made decoded_event (event_at bytes)

abbrev pub code_instr_at : List ℕ → Read Instr
code_instr_at bytes = made decoded_instr (instruction_at bytes)

-- the Install with a program and its code
unfoldable pub install_message_at : ℕ → Counts → List ℕ → Read Message
install_message_at flow counts bytes = do
  program ← number_at w32 bytes
  reports ← repeated_at code_start_at counts.n1 program.1
  controls ← repeated_at code_start_at counts.n2 reports.1
  events ← repeated_at code_event_at counts.n3 controls.1
  instrs ← repeated_at code_instr_at counts.n4 events.1
  Ok (
    Install flow program.0
        (record { reports = reports.0; controls = controls.0; events = events.0; instrs = instrs.0 }),
    instrs.1,
  )

-- the message whose body follows this head
abbrev pub message_at : Outline → List ℕ → Read Message
message_at head bytes = made (message_of head.flow) (body_at head.kind head.version head.counts bytes)

-- the message of a frame that is read from the front of bytes of this length
abbrev pub found_from : ℕ → Read Frame → Result Found Stop
found_from total (Ok (frame, rest)) =
    Ok (message_of frame.outline.flow frame.body, frame.outline.version, total - length rest)
found_from total (Err stop) = Err stop

-- why reading stopped
abbrev pub decode_fault : List ℕ → Stop → DecodeFault
decode_fault bytes stops.Cut = More (needed_of bytes)
decode_fault bytes (stops.Bad field left) = Bad field (length bytes - left)

abbrev pub decoded_from : List ℕ → Result Found Stop → Result Found DecodeFault
decoded_from bytes (Ok found) = Ok found
decoded_from bytes (Err stop) = Err (decode_fault bytes stop)

-- the message whose frame begins the bytes, or why there is none
abbrev pub decoded_of : List ℕ → Result Found DecodeFault
decoded_of bytes = decoded_from bytes (found_from (length bytes) (frame_at bytes))

-- ---- words on an answer that isn't out of memory

-- it is this one
abbrev pub IsDecoded : Result Found DecodeFault → Result Found DecodeFault → Type 0
IsDecoded result answer = (result ≢ Err (NoMemory no_memory)) → result ≡ answer

-- a message was read
abbrev pub IsFound : Result Found DecodeFault → Type 0
IsFound answer = (found : Found) × (answer ≡ Ok found)

-- the answer if there is no memory for a code: what is wrong with the frame, or, if it is whole, that there is none
abbrev pub LacksCode : DecodeFault → Result Found DecodeFault → Type 0
LacksCode (More needed) answer = answer ≡ Err (More needed)
LacksCode (Bad field place) answer = answer ≡ Err (Bad field place)
LacksCode (NoMemory _) answer = IsFound answer

-- what is wrong with a frame of which only the values of an Update or a Change are read: nothing, if it is of another
-- kind
abbrev pub frame_lack : FrameFault → DecodeFault
frame_lack (faults.More needed) = More needed
frame_lack (faults.Bad field place) = Bad field place
frame_lack (faults.Other number) = NoMemory no_memory

-- it refuses a byte
abbrev pub IsBad : Result Found DecodeFault → Type 0
IsBad (Ok found) = ⊥
IsBad (Err (More needed)) = ⊥
IsBad (Err (Bad field place)) = Unit {0}
IsBad (Err (NoMemory _)) = ⊥

-- the bytes begin with the head of an Install, whose code takes memory
pub record BeginsInstall (bytes : List ℕ) : Type 0 where
  pub outline : Outline
  pub rest : List ℕ
  pub read : outline_at bytes ≡ Ok (outline, rest)
  pub install : outline.kind ≡ kinds.Install
