-- A run of `drive`, from how the reading of its input ended and what it then reported.
use Rattle.std.proofs.Common.{◌≡◌, ◌≢◌, ◌≤◌, ◌⊎◌, inl, inr, ◌∙◌, ℕ, true, Some, List, [], ◌++◌, length, arith, ap, sym, refl, subst, append-nil}
use Rattle.ccp_base.specs.Limits.{most_audit_bytes}
use Rattle.ccp_base.specs.Outside.{Takes, IsAtEnd, no_memory}
use Rattle.feed_core.specs.FeedEnds.{Stream as Frames, stream as frames}
use Rattle.ccp_words.specs.declared.mode.Alone.TheVariants.{Drive}
use Rattle.run_ending.specs.declared.outcome.ModeOutput.{ModeOutput}
use Rattle.run_ending.specs.declared.outcome.Outcome.{Outcome}
use Rattle.run_ending.specs.declared.refusal.Limit.TheVariants.{Audit}
use Rattle.run_ending.specs.declared.refusal.Refusal.{Refusal}
use Rattle.run_ending.specs.declared.refusal.Refusal.TheVariants.{TooLong}
use Rattle.run_ending.specs.Endings.{Refuses}
use Rattle.run_ending.specs.Streams.{StreamChange}
use Rattle.ccp_run.specs.Modes.{Task, Alone}
use Rattle.ccp_run.specs.declared.drive_end.DriveEnd.{DriveEnd}
use Rattle.ccp_run.specs.declared.drive_end.DriveEnd.TheVariants as end
use Rattle.ccp_run.specs.Attempts.{RefusesAny}
use Rattle.ccp_run.specs.DriveEnds.{AnswersDrive, RefusesDrive, IsDriveEnd, ReportsDrive}
use Rattle.ccp_run.specs.DriveInputs.{drive_written, drive_refusal}
use Rattle.ccp_run.specs.Run.{IsRun, WritesAnswers, WritesSomeAnswers}
use Rattle.ccp_run.proofs.RunLemmas.{is_three, ends_done, ends_refused, ends_unread, ends_unwritten, ends_wanting}

module _ (source sink errors : StreamChange) (is_finished : Type 0) (outcome : Outcome) where
  abbrev pub source_of : Frames
  source_of = frames source.old source.new source.before source.now

  abbrev pub sink_of : Frames
  sink_of = frames sink.old sink.new sink.before sink.now

  abbrev pub task : Task
  task = Alone Drive

  answers : (bytes : List ℕ) → AnswersDrive source_of sink_of is_finished bytes → WritesAnswers task source sink is_finished
  answers bytes all = record { taken = bytes; takes = all.taken; answers = all.written; handed = all.handed }

  no_rest : WritesAnswers task source sink is_finished → WritesSomeAnswers task source sink is_finished
  no_rest all = record {
    front = all.taken;
    rest = [];
    later = [];
    takes = subst (Takes source.old source.new) (sym (append-nil all.taken)) all.takes;
    answers = all.answers;
    handed = all.handed;
    begins = ap drive_written (append-nil all.taken) ∙ sym (append-nil (drive_written all.taken));
    kept = omega arith;
  }

  module _ (refusal : Refusal) (r : RefusesDrive source_of sink_of is_finished refusal) where
    cause : RefusesAny true task source refusal
    cause = go r.cause
      where
        go : ((more : List ℕ) → drive_refusal (r.bytes ++ more) ≡ Some refusal)
            ⊎ (IsAtEnd source.new × (length r.bytes ≤ most_audit_bytes) × (drive_refusal r.bytes ≡ Some refusal)) → RefusesAny true task source refusal
        go (inl early) = inl (record { bytes = r.bytes; taken = r.answered.taken; cause = early })
        go (inr at) = inr (record { bytes = r.bytes; read = record { taken = r.answered.taken; end = at.0 }; short = at.1; cause = at.2 })

    -- its line says so, or memory for that line runs out
    refused : Refuses errors outcome refusal → (outcome.status ≡ 3) ⊎ (outcome.status ≢ 3) → ((length r.bytes ≤ most_audit_bytes) ⊎ (refusal ≡ TooLong Audit)) → IsRun task source sink errors is_finished outcome
    refused report (inl three) over =
        ends_refused task source sink errors is_finished outcome refusal cause (record { taken = r.bytes; takes = r.answered.taken; within = r.within }) tt (answers r.bytes r.answered) (report.told three)
    refused report (inr other) (inl few) =
        ends_wanting task source sink errors is_finished outcome (record { taken = r.bytes; takes = r.answered.taken; within = few }) tt (no_rest (answers r.bytes r.answered)) (report.failed other)
    refused report (inr other) (inr long) = absurd (other (report.too_long Audit long))

  pub run_of_drive : (end : DriveEnd) → IsDriveEnd source_of sink_of is_finished end → ReportsDrive errors outcome end → IsRun (Alone Drive) source sink errors is_finished outcome
  run_of_drive end.Whole d e =
      let output : ModeOutput = record { text = drive_written d.bytes; books = []; programs = []; ran = 0 } in
      ends_done task source sink errors is_finished outcome output
      (record {
        bytes = d.bytes;
        read = record { taken = d.answered.taken; end = d.at_end };
        short = d.within;
        made = record { programs = d.programs; input = d.input; written = refl; kept = refl; no_books = refl; idle = refl };
      })
      (record { written = d.answered.written; finished = d.finished; books = e.books; programs = e.programs; ran = e.ran; quiet = e.quiet })
      e.status
  run_of_drive (end.Refused refusal) r e = refused refusal r e (is_three outcome.status) r.over
  run_of_drive end.ReadFailed f e =
      ends_unread task source sink errors is_finished outcome
      (record {
        reads = refl;
        rose = f.rose;
        taken = f.bytes;
        takes = f.answered.taken;
        within = f.within;
        goes_on = f.goes_on;
        answers = f.answered.written;
        handed = f.answered.handed;
        ends = e;
      })
      tt
  run_of_drive end.WriteFailed f e =
      ends_unwritten task source sink errors is_finished outcome f.rose
      (record { taken = f.bytes; takes = f.taken; front = f.front })
      (record { taken = f.bytes; takes = f.taken; within = f.within }) tt e
  run_of_drive (end.NoMemory no_memory) f e =
      ends_wanting task source sink errors is_finished outcome
      (record { taken = f.front ++ f.rest; takes = f.taken; within = f.within }) tt
      (record { front = f.front; rest = f.rest; later = f.later; takes = f.taken; answers = f.written; handed = f.handed; begins = f.begins; kept = f.kept }) e
