-- What holds of the frames of every input, whatever answers them.
use Rattle.std.specs.Prelude.{◌≡◌, ◌≤◌, ◌+◌, ◌-◌, ℕ, Bool, List, [], ◌∷◌, ◌++◌, length}
use Rattle.feed_core.specs.FeedBytes.{AnswerRule, Tail, left, bad, frames_from}
use Rattle.feed_core.specs.Answering.{Answering, answering}

-- the answers to the first bytes of an input are a front of those to the whole
abbrev pub AnswersFronts : {S : Type 0} → AnswerRule S → Type 0
AnswersFronts {S = S} answer =
    (limit place : ℕ) (state : S) (bytes more : List ℕ)
    → (later : List ℕ)
    × ((frames_from answer limit place state (bytes ++ more)).answers
    ≡ (frames_from answer limit place state bytes).answers ++ later)

-- no bytes are left after the last whole frame
abbrev pub LeavesNothing : Tail → Type 0
LeavesNothing (left place []) = Unit {0}
LeavesNothing (left place (byte ∷ rest)) = ⊥
LeavesNothing (bad field place) = ⊥

-- what follows these bytes is answered, and ends, as `next` says
pub record GoesOnAs {S : Type 0} (a next : Answering S) (bytes more : List ℕ) : Type 0 where
  pub written : a.written (bytes ++ more) ≡ a.written bytes ++ next.written more
  pub state : a.state (bytes ++ more) ≡ next.state more
  pub end : a.end (bytes ++ more) ≡ next.end more

-- what follows whole frames is answered from the state and the place that they leave
abbrev pub GoesOnAfterFrames : {S : Type 0} → AnswerRule S → (S → Bool) → Type 0
GoesOnAfterFrames {S = S} answer waits =
    (limit place : ℕ) (state : S) (bytes more : List ℕ)
    → length bytes ≤ limit - place
    → LeavesNothing (frames_from answer limit place state bytes).tail
    → GoesOnAs (answering answer waits limit place state)
    (answering answer waits limit (place + length bytes) (frames_from answer limit place state bytes).state)
    bytes more
