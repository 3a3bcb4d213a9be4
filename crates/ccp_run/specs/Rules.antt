-- What a mode says of its inputs: how it takes them, which there are, what it makes of each, and what it refuses.
use Rattle.std.specs.Prelude.{ℕ, Bool, true, false, List, []}
use Rattle.run_ending.specs.declared.outcome.ModeOutput.{ModeOutput}
use Rattle.run_ending.specs.declared.refusal.Limit.{Limit}
use Rattle.run_ending.specs.declared.refusal.Refusal.{Refusal}

pub record Rules : Type 1 where
  -- how long an input may be
  pub limit : Limit
  -- whether the source is read
  pub is_read : Bool
  -- whether the input is judged as it comes, so that it may be refused before it was read to its end
  pub is_stream : Bool
  -- whether answers are written before the input was read to its end
  pub is_answered : Bool
  -- what is written of the output if these bytes were taken, before the input was read to its end
  pub answers_before : List ℕ → List ℕ
  -- bytes that were taken aren't refused so far
  pub GoesOn : List ℕ → Type 0
  -- bytes are an input of the mode
  pub IsInput : List ℕ → Type 0
  -- the output is what the mode makes of its input
  pub IsMade : List ℕ → ModeOutput → Type 0
  -- bytes are no input of the mode, and this is their first refusal
  pub IsRefused : List ℕ → Refusal → Type 0

-- the rules of a mode that reads an input within this limit to its end and then writes
abbrev pub reads_whole : Limit → (List ℕ → Type 0) → (List ℕ → ModeOutput → Type 0) → (List ℕ → Refusal → Type 0)
    → Rules
reads_whole most inputs made refused = record {
  limit = most;
  is_read = true;
  is_stream = false;
  is_answered = false;
  answers_before = λ _. [];
  GoesOn = λ _. Unit {0};
  IsInput = inputs;
  IsMade = made;
  IsRefused = refused;
}
