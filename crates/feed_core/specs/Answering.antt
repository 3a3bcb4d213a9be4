-- What is made of an input of frames: what is written for it, how it ends, and what stands then.
use Rattle.std.specs.Prelude.{ℕ, ◌-◌, nat_lt, Bool, true, false, List, [], ◌∷◌, ◌++◌, length}
use Rattle.ccp_base.specs.Limits.{most_input_bytes}
use Rattle.feed_core.specs.declared.ending.FeedEnd.{FeedEnd}
use Rattle.feed_core.specs.declared.ending.FeedEnd.TheVariants.{Whole, Bad, Cut, TooLong}
use Rattle.feed_core.specs.Feed.{no_flows, answer_message}
use Rattle.feed_core.specs.FeedBytes.{AnswerRule, Tail, left, bad, Fed, frames_from}

-- what is written for the bytes that are taken of an input, how the input ends, what stands then, and how many bytes
-- may be taken
pub record Answering (S : Type 0) : Type 0 where
  pub written : List ℕ → List ℕ
  pub end : List ℕ → FeedEnd
  pub state : List ℕ → S
  pub limit : ℕ

-- the same of an input whose first bytes were read before
abbrev pub after : {S : Type 0} → List ℕ → Answering S → Answering S
after before a = record {
  written = λ more. a.written (before ++ more);
  end = λ more. a.end (before ++ more);
  state = λ more. a.state (before ++ more);
  limit = a.limit - length before;
}

-- the same, where what stands isn't said
abbrev pub without_state : {S : Type 0} → Answering S → Answering (Unit {0})
without_state a = record { written = a.written; end = a.end; state = λ bytes. tt; limit = a.limit }

-- the end of an input, by what follows its whole frames, by whether another message is needed there, and by whether the
-- input is too long: the first that holds of a bad frame, a further byte, and a last frame that is cut or missing; else
-- the input is whole
abbrev pub end_from : Tail → (waits longer : Bool) → FeedEnd
end_from (bad field place) waits longer = Bad field place
end_from (left place rest) waits true = TooLong
end_from (left place (byte ∷ rest)) waits false = Cut place
end_from (left place []) true false = Cut place
end_from (left place []) false false = Whole

-- the end of bytes of which at most `most` may be taken, by their frames
abbrev pub end_of : {S : Type 0} → (S → Bool) → (most : ℕ) → Fed S → List ℕ → FeedEnd
end_of waits most fed bytes = end_from fed.tail (waits fed.state) (nat_lt most (length bytes))

-- the frames that follow the first `place` bytes of an input of at most `limit` bytes, answered by a rule from a state;
-- in some states another message is needed
abbrev pub answering : {S : Type 0} → AnswerRule S → (waits : S → Bool) → (limit place : ℕ) → S → Answering S
answering answer waits limit place state = record {
  written = λ bytes. (frames_from answer limit place state bytes).answers;
  end = λ bytes. end_of waits (limit - place) (frames_from answer limit place state bytes) bytes;
  state = λ bytes. (frames_from answer limit place state bytes).state;
  limit = limit - place;
}

-- the frames of a whole input, as a datapath without flows answers them; it may end after any frame
abbrev pub feeding : Answering (Unit {0})
feeding = without_state (answering answer_message (λ state. false) most_input_bytes 0 no_flows)
