-- A run of `feed`, from how its loop ended and what it then reported.
use Rattle.std.proofs.Common.{◌≡◌, ◌≢◌, ◌⊎◌, inl, inr, ◌∙◌, ℕ, true, List, [], ◌++◌, arith, ap, sym, refl, subst, append-nil}
use Rattle.ccp_base.specs.Limits.{most_input_bytes}
use Rattle.ccp_base.specs.Outside.{Takes, TakesWithin, no_memory}
use Rattle.feed_core.specs.declared.ending.FeedEnd.{FeedEnd}
use Rattle.feed_core.specs.declared.ending.FeedEnd.TheVariants as ends
use Rattle.feed_core.specs.Answering.{feeding}
use Rattle.feed_core.specs.FeedEnds.{answers_written, IsFed, AnswersInput}
use Rattle.feed_core.specs.FeedEnds.{Stream as Frames, stream as frames}
use Rattle.feed_core.specs.FeedLacks.{FeedLacksAt}
use Rattle.ccp_words.specs.declared.mode.Alone.TheVariants.{Feed}
use Rattle.run_ending.specs.declared.outcome.ModeOutput.{ModeOutput}
use Rattle.run_ending.specs.declared.outcome.Outcome.{Outcome}
use Rattle.run_ending.specs.declared.refusal.Limit.TheVariants.{Input}
use Rattle.run_ending.specs.declared.refusal.Refusal.{Refusal}
use Rattle.run_ending.specs.declared.refusal.Refusal.TheVariants.{TooLong, Frame, FrameCut}
use Rattle.run_ending.specs.Endings.{Refuses}
use Rattle.run_ending.specs.Streams.{StreamChange}
use Rattle.ccp_run.specs.Modes.{Alone}
use Rattle.ccp_run.specs.Attempts.{RefusesAny}
use Rattle.ccp_run.specs.FeedEndings.{EndsFeed}
use Rattle.ccp_run.specs.Run.{IsRun, WritesAnswers, WritesSomeAnswers}
use Rattle.ccp_run.proofs.RunLemmas.{is_three, one_more, ends_done, ends_refused, ends_unread, ends_unwritten, ends_wanting}

module _ (source sink errors : StreamChange) (is_finished : Type 0) (outcome : Outcome) where
  abbrev source_of : Frames
  source_of = frames source.old source.new source.before source.now

  abbrev sink_of : Frames
  sink_of = frames sink.old sink.new sink.before sink.now

  answers : (bytes : List ℕ) → AnswersInput feeding source_of sink_of is_finished bytes → WritesAnswers (Alone Feed) source sink is_finished
  answers bytes all = record { taken = bytes; takes = all.taken; answers = all.written; handed = all.handed }

  no_rest : WritesAnswers (Alone Feed) source sink is_finished → WritesSomeAnswers (Alone Feed) source sink is_finished
  no_rest all = record {
    front = all.taken;
    rest = [];
    later = [];
    takes = subst (Takes source.old source.new) (sym (append-nil all.taken)) all.takes;
    answers = all.answers;
    handed = all.handed;
    begins = ap answers_written (append-nil all.taken) ∙ sym (append-nil (answers_written all.taken));
    kept = omega arith;
  }

  -- a frame is bad or cut, and its line says so, or memory for that line runs out
  bad_or_not : (refusal : Refusal) → RefusesAny true (Alone Feed) source refusal → TakesWithin most_input_bytes source.old source.new → WritesAnswers (Alone Feed) source sink is_finished
      → Refuses errors outcome refusal → (outcome.status ≡ 3) ⊎ (outcome.status ≢ 3) → IsRun (Alone Feed) source sink errors is_finished outcome
  bad_or_not refusal cause few all r (inl three) =
      ends_refused (Alone Feed) source sink errors is_finished outcome refusal cause (one_more most_input_bytes source.old source.new few) tt all (r.told three)
  bad_or_not refusal cause few all r (inr other) =
      ends_wanting (Alone Feed) source sink errors is_finished outcome few tt (no_rest all) (r.failed other)

  pub run_of_feed : (end : FeedEnd) → IsFed feeding [] FeedLacksAt source_of sink_of is_finished tt end → EndsFeed errors outcome end → IsRun (Alone Feed) source sink errors is_finished outcome
  run_of_feed ends.Whole fed e =
      let output : ModeOutput = record { text = answers_written fed.0.bytes; books = []; programs = []; ran = 0 } in
      ends_done (Alone Feed) source sink errors is_finished outcome output
      (record {
        bytes = fed.0.bytes;
        read = record { taken = fed.0.answered.taken; end = fed.0.at_end };
        short = fed.0.within;
        made = record { whole = fed.0.end_is; written = refl; kept = refl; no_books = refl; idle = refl };
      })
      (record { written = fed.0.answered.written; finished = fed.1; books = e.books; programs = e.programs; ran = e.ran; quiet = e.quiet })
      e.status
  run_of_feed (ends.Bad field place) fed e =
      bad_or_not (Frame field place) (inl (record { bytes = fed.bytes; taken = fed.answered.taken; cause = fed.end_is }))
      (record { taken = fed.bytes; takes = fed.answered.taken; within = fed.within }) (answers fed.bytes fed.answered) e (is_three outcome.status)
  run_of_feed (ends.Cut place) fed e =
      bad_or_not (FrameCut place)
      (inr (record { bytes = fed.bytes; read = record { taken = fed.answered.taken; end = fed.at_end }; short = fed.within; cause = fed.end_is }))
      (record { taken = fed.bytes; takes = fed.answered.taken; within = fed.within }) (answers fed.bytes fed.answered) e (is_three outcome.status)
  run_of_feed ends.TooLong fed e =
      ends_refused (Alone Feed) source sink errors is_finished outcome (TooLong Input)
      (inl (record { bytes = fed.bytes; taken = fed.answered.taken; cause = fed.end_is }))
      (record { taken = fed.bytes; takes = fed.answered.taken; within = fed.within }) tt (answers fed.bytes fed.answered) (e.told (e.too_long Input refl))
  run_of_feed ends.ReadFailed fed e =
      ends_unread (Alone Feed) source sink errors is_finished outcome
      (record {
        reads = refl;
        rose = fed.rose;
        taken = fed.bytes;
        takes = fed.answered.taken;
        within = fed.within;
        goes_on = fed.goes_on;
        answers = fed.answered.written;
        handed = fed.answered.handed;
        ends = e;
      })
      tt
  run_of_feed ends.WriteFailed fed e =
      ends_unwritten (Alone Feed) source sink errors is_finished outcome fed.rose
      (record { taken = fed.bytes; takes = fed.taken; front = fed.front })
      (record { taken = fed.bytes; takes = fed.taken; within = fed.within }) tt e
  run_of_feed (ends.NoMemory no_memory) fed e =
      let takes : Takes source.old source.new (fed.front ++ fed.rest) = subst (Takes source.old source.new) fed.parts fed.taken in
      ends_wanting (Alone Feed) source sink errors is_finished outcome
      (record { taken = fed.front ++ fed.rest; takes = takes; within = fed.within }) tt
      (record { front = fed.front; rest = fed.rest; later = fed.later; takes = takes; answers = fed.written; handed = fed.handed; begins = fed.begins; kept = fed.kept }) e
