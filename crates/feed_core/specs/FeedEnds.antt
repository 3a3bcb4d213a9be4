-- How an input of frames ends, and what was taken and written then.
use Rattle.std.specs.Prelude.{◌≡◌, ◌⊎◌, ℕ, ◌+◌, ◌≤◌, nat_lt, false, List, [], ◌++◌, length}
use Rattle.ccp_base.specs.Outside.{Known, Rose, Takes, IsAtEnd, Appends, AppendsPrefix, no_memory}
use Rattle.ccp_base.specs.Limits.{most_frame_bytes, most_input_bytes}
use Rattle.feed_core.specs.declared.ending.FeedEnd.{FeedEnd}
use Rattle.feed_core.specs.declared.ending.FeedEnd.TheVariants.{Whole, Bad, Cut, TooLong, ReadFailed, WriteFailed}
use Rattle.feed_core.specs.declared.ending.FeedEnd.TheVariants.{NoMemory}
use Rattle.feed_core.specs.FeedBytes.{feed_of}
use Rattle.feed_core.specs.Answering.{Answering, after, end_from}

-- the answers of a datapath to the frames of an input, as they are written
abbrev pub answers_written : List ℕ → List ℕ
answers_written bytes = (feed_of bytes).answers

-- the end of an input of a datapath
abbrev pub feed_end : List ℕ → FeedEnd
feed_end bytes = end_from (feed_of bytes).tail false (nat_lt most_input_bytes (length bytes))

-- a source or a sink over a call: the bytes that it has left, or was given, before and after, and how many of its calls
-- had failed before and after
pub record Stream : Type 0 where
  pub old : Known
  pub new : Known
  pub before : ℕ
  pub now : ℕ

abbrev pub stream : Known → Known → ℕ → ℕ → Stream
stream old new before now = record { old = old; new = new; before = before; now = now }

-- the answers were handed on: if there are any, the sink is finished
abbrev pub AreHandedOn : List ℕ → Type 0 → Type 0
AreHandedOn answers is_finished = (answers ≡ []) ⊎ is_finished

-- these bytes were taken, and exactly what is to be written for them was written and handed on
pub record AnswersInput {S : Type 0} (a : Answering S) (source sink : Stream) (is_finished : Type 0)
    (bytes : List ℕ) : Type 0 where
  pub taken : Takes source.old source.new bytes
  pub written : Appends sink.old sink.new (a.written bytes)
  pub handed : AreHandedOn (a.written bytes) is_finished

-- a read is allowed in every state that comes from this one in which exactly what is to be written for what was taken
-- since was written and handed on, and which is finished if this one is
abbrev pub AllowsAnswered : {S D : Type 0} → Answering S → (remaining written : D → Known) (is_finished : D → Type 0)
    (Follows : D → D → Type 0) (MayRead : D → Type 0) → D → Type 0
AllowsAnswered {D = D} a remaining written is_finished Follows MayRead begin = (now : D) (taken : List ℕ)
    → Follows begin now → Takes (remaining begin) (remaining now) taken
    → Appends (written begin) (written now) (a.written taken)
    → AreHandedOn (a.written taken) (is_finished now)
    → (is_finished begin → is_finished now) → MayRead now

-- the source was read to its end, the input ends so, and this state stands
pub record EndsThere {S : Type 0} (a : Answering S) (source sink : Stream) (is_finished : Type 0) (state : S)
    (end : FeedEnd) : Type 0 where
  pub bytes : List ℕ
  pub answered : AnswersInput a source sink is_finished bytes
  pub at_end : IsAtEnd source.new
  pub within : length bytes ≤ a.limit
  pub end_is : a.end bytes ≡ end
  pub state_is : a.state bytes ≡ state

-- the input ends so whatever follows what was taken of it, and nothing further is to be written
pub record EndsBefore {S : Type 0} (a : Answering S) (limit : ℕ) (source sink : Stream) (is_finished : Type 0)
    (end : FeedEnd) : Type 0 where
  pub bytes : List ℕ
  pub answered : AnswersInput a source sink is_finished bytes
  pub within : length bytes ≤ limit
  pub end_is : (more : List ℕ) → a.end (bytes ++ more) ≡ end
  pub no_more : (more : List ℕ) → a.written (bytes ++ more) ≡ a.written bytes

-- the frames aren't at their end: none is bad, and there is no further byte
abbrev pub MayGoOn : FeedEnd → Type 0
MayGoOn Whole = Unit {0}
MayGoOn (Cut place) = Unit {0}
MayGoOn _ = ⊥

-- a read failed, and all frames that were whole before it are answered
pub record FeedFailsToRead {S : Type 0} (a : Answering S) (source sink : Stream) (is_finished : Type 0) : Type 0 where
  pub bytes : List ℕ
  pub answered : AnswersInput a source sink is_finished bytes
  pub within : length bytes ≤ a.limit
  pub rose : Rose source.before source.now
  pub goes_on : MayGoOn (a.end bytes)

-- a write failed, and a front of what is to be written for what was taken was written
pub record FeedFailsToWrite {S : Type 0} (a : Answering S) (source sink : Stream) : Type 0 where
  pub bytes : List ℕ
  pub taken : Takes source.old source.new bytes
  pub within : length bytes ≤ a.limit
  pub rose : Rose sink.before sink.now
  pub front : AppendsPrefix sink.old sink.new (a.written bytes)

-- out of memory: the bytes that were read before and those that were taken are a front, for which exactly what is to be
-- written was written and handed on, and a rest of at most a frame's bytes, at which memory is lacking
pub record FeedLacksMemory {S : Type 0} (a : Answering S) (before : List ℕ) (LacksAt : List ℕ → List ℕ → Type 0)
    (source sink : Stream) (is_finished : Type 0) : Type 0 where
  pub bytes : List ℕ
  pub front : List ℕ
  pub rest : List ℕ
  pub later : List ℕ
  pub taken : Takes source.old source.new bytes
  pub parts : before ++ bytes ≡ front ++ rest
  pub within : length (front ++ rest) ≤ a.limit
  pub written : Appends sink.old sink.new (a.written front)
  pub handed : AreHandedOn (a.written front) is_finished
  pub begins : a.written (front ++ rest) ≡ a.written front ++ later
  pub kept : length rest ≤ most_frame_bytes
  pub cause : LacksAt front rest

-- what each end says of an input whose first bytes were read before: in the state after it if the source was read to its
-- end, and by the relation of a front and a rest if memory ran out
abbrev pub IsFed : {S : Type 0} → Answering S → (before : List ℕ) → (LacksAt : List ℕ → List ℕ → Type 0)
    → Stream → Stream → Type 0 → S → FeedEnd → Type 0
IsFed a before LacksAt source sink is_finished state Whole =
    EndsThere (after before a) source sink is_finished state Whole × is_finished
IsFed a before LacksAt source sink is_finished state (Bad field place) =
    EndsBefore (after before a) (after before a).limit source sink is_finished (Bad field place)
IsFed a before LacksAt source sink is_finished state (Cut place) =
    EndsThere (after before a) source sink is_finished state (Cut place)
IsFed a before LacksAt source sink is_finished state TooLong =
    EndsBefore (after before a) ((after before a).limit + 1) source sink is_finished TooLong
IsFed a before LacksAt source sink is_finished state ReadFailed =
    FeedFailsToRead (after before a) source sink is_finished
IsFed a before LacksAt source sink is_finished state WriteFailed = FeedFailsToWrite (after before a) source sink
IsFed a before LacksAt source sink is_finished state (NoMemory no_memory) =
    FeedLacksMemory a before LacksAt source sink is_finished

-- a sink that was finished is finished, unless a write failed
abbrev pub StaysFinished : (was_finished is_finished : Type 0) → FeedEnd → Type 0
StaysFinished was_finished is_finished WriteFailed = Unit {0}
StaysFinished was_finished is_finished _ = was_finished → is_finished
