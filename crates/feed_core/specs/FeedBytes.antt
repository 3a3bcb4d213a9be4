-- What is answered to the frames of an input, and what follows them.
use Rattle.std.specs.Prelude.{ℕ, zero, suc, ◌+◌, ◌-◌, Some, None, Result, Ok, Err, List, [], ◌++◌, take, drop}
use Rattle.ccp_base.specs.Limits.{most_input_bytes}
use Rattle.reply_frames.specs.declared.fault.BadKind.{BadKind}
use Rattle.reply_frames.specs.declared.outline.Version.{Version}
use Rattle.ccp_messages.specs.declared.message.Message.{Message}
use Rattle.ccp_messages.specs.declared.fault.DecodeFault.{DecodeFault}
use Rattle.ccp_messages.specs.declared.fault.DecodeFault.TheVariants.{More, Bad, NoMemory}
use Rattle.ccp_messages.specs.Messages.{frame_bytes}
use Rattle.ccp_messages.specs.Decoding.{Found, decoded_of}
use Rattle.feed_core.specs.Feed.{FeedState, no_flows, Answer, answer_message}

-- the answer to a message in a version, and the state after it, by the state before it
abbrev pub AnswerRule : Type 0 → Type 0
AnswerRule S = S → Message → Version → Answer × S

-- after the last whole frame: a place, and the bytes from there on, which are no whole frame; or a bad byte's place
pub data Tail : Type 0 where
  left : ℕ → List ℕ → Tail
  bad : BadKind → ℕ → Tail

-- the bytes of the answers, what follows the last whole frame, and the state after it
pub record Fed (S : Type 0) : Type 0 where
  pub answers : List ℕ
  pub tail : Tail
  pub state : S

abbrev pub answer_bytes : Answer → List ℕ
answer_bytes None = []
answer_bytes (Some (message, version)) = frame_bytes version message

-- the frame that answers a message, as it is written
abbrev pub answer_to : {S : Type 0} → AnswerRule S → S → Message → Version → List ℕ
answer_to answer state message version = answer_bytes (answer state message version).0

abbrev pub with_answers : {S : Type 0} → List ℕ → Fed S → Fed S
with_answers answers fed = record { answers = answers ++ fed.answers; tail = fed.tail; state = fed.state }

-- no further frame is whole
abbrev pub fed_no_more : {S : Type 0} → Tail → S → Fed S
fed_no_more tail state = record { answers = []; tail = tail; state = state }

-- an answer, and then those to the rest
abbrev pub fed_after : {S : Type 0} → Answer × S → (S → Fed S) → Fed S
fed_after (answer, state) rest = with_answers (answer_bytes answer) (rest state)

abbrev pub fed_on : {S : Type 0} → AnswerRule S → (ℕ → S → List ℕ → Fed S) → ℕ → S → List ℕ
    → Result Found DecodeFault → Fed S
fed_on answer rest place state bytes (Ok (message, version, used)) =
    fed_after (answer state message version) (λ state. rest (place + used) state (drop used bytes))
fed_on answer rest place state bytes (Err (Bad field offset)) = fed_no_more (bad field (place + offset)) state
fed_on answer rest place state bytes (Err (More needed)) = fed_no_more (left place bytes) state
fed_on answer rest place state bytes (Err (NoMemory _)) = fed_no_more (left place bytes) state

-- the bytes from a place of the input on, frame by frame, at most `frames`
abbrev pub fed : {S : Type 0} → AnswerRule S → ℕ → ℕ → S → List ℕ → Fed S
fed answer zero place state bytes = fed_no_more (left place bytes) state
fed answer (suc frames) place state bytes = fed_on answer (fed answer frames) place state bytes (decoded_of bytes)

-- the frames of the bytes that follow the first `place` bytes of an input of at most `limit` bytes; these are fewer than
-- the bytes
unfoldable pub frames_from : {S : Type 0} → AnswerRule S → (limit place : ℕ) → S → List ℕ → Fed S
frames_from answer limit place state bytes = fed answer (limit - place) place state (take (limit - place) bytes)

-- the frames of a whole input, as a datapath without flows answers them
abbrev pub feed_of : List ℕ → Fed FeedState
feed_of bytes = frames_from answer_message most_input_bytes 0 no_flows bytes
