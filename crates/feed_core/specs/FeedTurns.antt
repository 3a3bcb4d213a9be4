-- The outcomes of the next frame of an input, and the invariant over its frames.
use Rattle.std.specs.Prelude.{◌≡◌, ◌⊎◌, ℕ, ◌+◌, ◌-◌, ◌<◌, ◌≤◌, Err, List, ◌++◌, length}
use Rattle.ccp_base.specs.Outside.{Known, Rose, Takes, Appends, AppendsPrefix, no_memory}
use Rattle.ccp_base.specs.Limits.{most_frame_bytes}
use Rattle.reply_frames.specs.declared.outline.Version.{Version}
use Rattle.ccp_messages.specs.declared.message.Message.{Message}
use Rattle.ccp_messages.specs.declared.fault.DecodeFault.{DecodeFault}
use Rattle.ccp_messages.specs.declared.fault.DecodeFault.TheVariants.{More, Bad, NoMemory}
use Rattle.ccp_messages.specs.Decoding.{Begins, BeginsInstall, decoded_of}
use Rattle.feed_core.specs.declared.turn.Turn.{Turn}
use Rattle.feed_core.specs.declared.turn.Turn.TheVariants as turn
use Rattle.feed_core.specs.FeedBytes.{AnswerRule, answer_to, with_answers, fed}
use Rattle.feed_core.specs.FeedEnds.{AreHandedOn}

-- a frame begins the bytes, and its whole answer was written and handed on
pub record AnswersOne {S : Type 0} (answer : AnswerRule S) (room : S → ℕ) (is_finished : Type 0) (old new : Known)
    (state state' : S) (bytes : List ℕ) (used : ℕ) : Type 0 where
  pub message : Message
  pub version : Version
  pub begins : Begins bytes message version used
  pub some : 0 < used
  pub within : used ≤ length bytes
  pub next : (answer state message version).1 ≡ state'
  pub counted : room state ≤ room state' + 1
  pub written : Appends old new (answer_to answer state message version)
  pub handed : AreHandedOn (answer_to answer state message version) is_finished

-- a frame begins the bytes, and a write of its answer failed
pub record FailsOne {S : Type 0} (answer : AnswerRule S) (before now : ℕ) (old new : Known) (state : S)
    (bytes : List ℕ) : Type 0 where
  pub message : Message
  pub version : Version
  pub used : ℕ
  pub begins : Begins bytes message version used
  pub some : 0 < used
  pub within : used ≤ length bytes
  pub rose : Rose before now
  pub written : AppendsPrefix old new (answer_to answer state message version)

-- the turn of bytes that don't begin with a frame
abbrev pub without_frame : DecodeFault → Turn
without_frame (More needed) = turn.Part
without_frame (Bad field offset) = turn.Bad field offset
without_frame (NoMemory _) = turn.NoMemory no_memory

-- no frame begins the bytes, which are a part of one
pub record IsPart {S : Type 0} (old new : Known) (state state' : S) (bytes : List ℕ) : Type 0 where
  pub needed : ℕ
  pub more : decoded_of bytes ≡ Err (More needed)
  pub short : length bytes < most_frame_bytes
  pub same : state' ≡ state
  pub nothing : new ≡ old

-- a frame begins the bytes, and to answer its message takes memory
pub record IsTaking {S : Type 0} (Takes : S → Message → Type 0) (state : S) (bytes : List ℕ) : Type 0 where
  pub message : Message
  pub version : Version
  pub used : ℕ
  pub begins : Begins bytes message version used
  pub takes : Takes state message

-- memory is taken to read the frame that the bytes begin with, or to answer it; nothing was written
pub record LacksMemory {S : Type 0} (Takes : S → Message → Type 0) (old new : Known) (state : S)
    (bytes : List ℕ) : Type 0 where
  pub cause : BeginsInstall bytes ⊎ IsTaking Takes state bytes
  pub nothing : new ≡ old

abbrev pub IsTurn : {S : Type 0} → (answer : AnswerRule S) (room : S → ℕ) (Takes : S → Message → Type 0)
    (before now : ℕ) (is_finished : Type 0) (old new : Known) (state state' : S) (bytes : List ℕ) → Turn → Type 0
IsTurn answer room Takes before now is_finished old new state state' bytes (turn.Answered used) =
    AnswersOne answer room is_finished old new state state' bytes used
IsTurn answer room Takes before now is_finished old new state state' bytes turn.Part = IsPart old new state state' bytes
IsTurn answer room Takes before now is_finished old new state state' bytes (turn.Bad field offset) =
    (decoded_of bytes ≡ Err (Bad field offset)) × (offset < length bytes) × (new ≡ old)
IsTurn answer room Takes before now is_finished old new state state' bytes turn.WriteFailed =
    FailsOne answer before now old new state bytes
IsTurn answer room Takes before now is_finished old new state state' bytes (turn.NoMemory no_memory) =
    LacksMemory Takes old new state bytes

-- a sink that was finished is finished, unless a write failed
abbrev pub KeepsFinished : (was_finished is_finished : Type 0) → Turn → Type 0
KeepsFinished was_finished is_finished turn.WriteFailed = Unit {0}
KeepsFinished was_finished is_finished _ = was_finished → is_finished

-- where frames are answered from: the rule of answers, how many more messages a state allows, the place and the limit in
-- the input, the state there, and the bytes that were read from there on
pub record Start (S : Type 0) : Type 0 where
  pub answer : AnswerRule S
  pub room : S → ℕ
  pub limit : ℕ
  pub place : ℕ
  pub state : S
  pub before : List ℕ

-- how far the frames have come: what was taken, written and handed on, the state, the place up to which frames are
-- answered, and the bytes after these
pub record IsFeeding {S : Type 0} (start : Start S) (source source' sink sink' : Known) (is_finished : Type 0) (state : S)
    (eaten : ℕ) (rest : List ℕ) : Type 0 where
  pub bytes : List ℕ
  pub front : List ℕ
  pub frames : ℕ
  pub answers : List ℕ
  pub taken : Takes source source' bytes
  pub parts : start.before ++ bytes ≡ front ++ rest
  pub eaten_is : start.place + length front ≡ eaten
  pub written : Appends sink sink' answers
  pub handed : AreHandedOn answers is_finished
  pub goes : (more : List ℕ) → fed start.answer (start.limit - start.place) start.place start.state (front ++ more)
      ≡ with_answers answers (fed start.answer (start.limit - start.place - frames) eaten state more)
  pub few : frames ≤ length front
  pub roomy : start.limit - start.place ≤ start.room state + frames
  pub within : eaten + length rest ≤ start.limit
