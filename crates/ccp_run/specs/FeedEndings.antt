-- How a run of `feed` ends once its loop has ended.
use Rattle.std.specs.Prelude.{◌≡◌, []}
use Rattle.ccp_base.specs.Outside.{no_memory}
use Rattle.feed_core.specs.declared.ending.FeedEnd.{FeedEnd}
use Rattle.feed_core.specs.declared.ending.FeedEnd.TheVariants as ends
use Rattle.run_ending.specs.declared.outcome.Outcome.{Outcome}
use Rattle.run_ending.specs.declared.refusal.Limit.TheVariants.{Input}
use Rattle.run_ending.specs.declared.refusal.Refusal.TheVariants.{TooLong, Frame, FrameCut}
use Rattle.run_ending.specs.declared.status.Status.TheVariants as status
use Rattle.run_ending.specs.Endings.{Ends, Refuses}
use Rattle.run_ending.specs.Statuses.{status_number, read_line, write_line, memory_line}
use Rattle.run_ending.specs.Streams.{StreamChange}

-- nothing was reported, and nothing is kept
pub record EndsWhole (errors : StreamChange) (outcome : Outcome) : Type 0 where
  pub status : outcome.status ≡ status_number status.Done
  pub books : outcome.books ≡ []
  pub programs : outcome.programs ≡ []
  pub ran : outcome.ran ≡ 0
  pub quiet : errors.new ≡ errors.old

-- how each end of the loop is reported
abbrev pub EndsFeed : StreamChange → Outcome → FeedEnd → Type 0
EndsFeed errors outcome ends.Whole = EndsWhole errors outcome
EndsFeed errors outcome (ends.Bad field place) = Refuses errors outcome (Frame field place)
EndsFeed errors outcome (ends.Cut place) = Refuses errors outcome (FrameCut place)
EndsFeed errors outcome ends.TooLong = Refuses errors outcome (TooLong Input)
EndsFeed errors outcome ends.ReadFailed = Ends errors outcome status.ReadFailed read_line
EndsFeed errors outcome ends.WriteFailed = Ends errors outcome status.WriteFailed write_line
EndsFeed errors outcome (ends.NoMemory _) = Ends errors outcome (status.NoMemory no_memory) memory_line
