-- What `feed` makes of its input, and the inputs that it refuses.
use Rattle.std.specs.Prelude.{◌≡◌, ℕ, true, List, []}
use Rattle.feed_core.specs.declared.ending.FeedEnd.TheVariants as ends
use Rattle.feed_core.specs.FeedEnds.{MayGoOn, answers_written, feed_end}
use Rattle.run_ending.specs.declared.outcome.ModeOutput.{ModeOutput}
use Rattle.run_ending.specs.declared.refusal.Limit.TheVariants.{Input}
use Rattle.run_ending.specs.declared.refusal.Refusal.{Refusal}
use Rattle.run_ending.specs.declared.refusal.Refusal.TheVariants.{TooLong, Frame, FrameCut}
use Rattle.ccp_run.specs.Rules.{Rules}

-- the frames of the input are whole up to its end, and the output is their answers
pub record IsFeedOutput (bytes : List ℕ) (output : ModeOutput) : Type 0 where
  pub whole : feed_end bytes ≡ ends.Whole
  pub written : output.text ≡ answers_written bytes
  pub kept : output.programs ≡ []
  pub no_books : output.books ≡ []
  pub idle : output.ran ≡ 0

-- the input ends otherwise, and the refusal says how
abbrev pub IsNoFeed : List ℕ → Refusal → Type 0
IsNoFeed bytes (TooLong Input) = feed_end bytes ≡ ends.TooLong
IsNoFeed bytes (Frame field place) = feed_end bytes ≡ ends.Bad field place
IsNoFeed bytes (FrameCut place) = feed_end bytes ≡ ends.Cut place
IsNoFeed bytes _ = ⊥

-- each frame is answered as it comes
abbrev pub feed_rules : Rules
feed_rules = record {
  limit = Input;
  is_read = true;
  is_stream = true;
  is_answered = true;
  answers_before = answers_written;
  GoesOn = λ bytes. MayGoOn (feed_end bytes);
  IsInput = λ bytes. feed_end bytes ≡ ends.Whole;
  IsMade = IsFeedOutput;
  IsRefused = IsNoFeed;
}
