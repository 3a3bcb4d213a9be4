-- At which bytes memory is taken.
use Rattle.std.specs.Prelude.{◌≡◌, ◌⊎◌, ℕ, ◌+◌, List, [], ◌++◌, length, take}
use Rattle.reply_frames.specs.declared.outline.Version.{Version}
use Rattle.ccp_messages.specs.declared.message.Message.{Message}
use Rattle.ccp_messages.specs.declared.message.Message.TheVariants.{Create}
use Rattle.ccp_messages.specs.Decoding.{Begins, BeginsInstall}
use Rattle.feed_core.specs.declared.ending.FeedEnd.TheVariants.{Whole}
use Rattle.feed_core.specs.FeedBytes.{AnswerRule, left, Fed, answer_to}
use Rattle.feed_core.specs.FeedEnds.{answers_written, feed_end}

-- a frame begins the bytes that follow the front; to answer its message takes memory in the state after the front, and
-- its answer is the next one
pub record BeginsTaking {S : Type 0} (answer : AnswerRule S) (Takes : S → Message → Type 0) (frames : List ℕ → Fed S)
    (front rest : List ℕ) : Type 0 where
  pub message : Message
  pub version : Version
  pub used : ℕ
  pub begins : Begins rest message version used
  pub takes : Takes (frames front).state message
  pub next : (frames (front ++ take used rest)).answers
      ≡ (frames front).answers ++ answer_to answer (frames front).state message version

-- the frames of the front, which follow a place, are whole, and memory is taken at the bytes that follow: for the code
-- of an Install, or for the answer to a message
pub record AnswerLacksAt {S : Type 0} (answer : AnswerRule S) (Takes : S → Message → Type 0) (place : ℕ)
    (frames : List ℕ → Fed S) (front rest : List ℕ) : Type 0 where
  pub whole : (frames front).tail ≡ left (place + length front) []
  pub cause : BeginsInstall rest ⊎ BeginsTaking answer Takes frames front rest

-- a Create begins the bytes that follow the front, and makes a flow: it has no answer
pub record MakesFlow (front rest : List ℕ) : Type 0 where
  pub flow : ℕ
  pub mss : ℕ
  pub cwnd : ℕ
  pub version : Version
  pub used : ℕ
  pub begins : Begins rest (Create flow mss cwnd) version used
  pub unanswered : answers_written (front ++ take used rest) ≡ answers_written front

-- why a datapath takes memory at bytes that follow the front: for the state at first, for the code of an Install, or for
-- a flow
abbrev pub TakesMemoryAt : List ℕ → List ℕ → Type 0
TakesMemoryAt front rest = (front ++ rest ≡ []) ⊎ (BeginsInstall rest ⊎ MakesFlow front rest)

-- the frames of the front are whole, and a datapath takes memory at the bytes that follow
pub record FeedLacksAt (front rest : List ℕ) : Type 0 where
  pub whole : feed_end front ≡ Whole
  pub cause : TakesMemoryAt front rest
