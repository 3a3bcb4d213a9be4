-- A run's promises, from its mode's outcome and from how it then ended.
use Rattle.std.proofs.Common.{◌≡◌, ◌≢◌, ◌≤◌, ◌⊎◌, inl, inr, ◌∙◌, ℕ, zero, suc, ◌+◌, Bool, true, false, subst, Result, Ok, Err, List, [], length, arith, ap, sym, refl, append-nil}
use Rattle.ccp_base.specs.Outside.{Known, Rose, Takes, TakesWithin, Appends, no_memory}
use Rattle.feed_core.specs.FeedEnds.{AreHandedOn}
use Rattle.run_ending.specs.declared.outcome.ModeOutput.{ModeOutput}
use Rattle.run_ending.specs.declared.outcome.Outcome.{Outcome}
use Rattle.run_ending.specs.declared.refusal.Refusal.{Refusal}
use Rattle.run_ending.specs.declared.refusal.Refusal.TheVariants.{TooLong}
use Rattle.run_ending.specs.declared.status.Status.{Status}
use Rattle.run_ending.specs.declared.status.Status.TheVariants as status
use Rattle.run_ending.specs.declared.stop.Stop.{Stop}
use Rattle.run_ending.specs.declared.stop.Stop.TheVariants as stop
use Rattle.run_ending.specs.Endings.{Ends, IsEnding, Writes, WritesAll, Refuses}
use Rattle.run_ending.specs.ErrorLine.{refusal_line}
use Rattle.run_ending.specs.Statuses.{status_number, read_line, write_line, memory_line}
use Rattle.run_ending.specs.Streams.{StreamChange, HasInput, IsLeft, IsUntouched}
use Rattle.ccp_run.specs.Attempts.{IsAttempt, MakesOutput, RefusesInput, RefusesAny, FailsToRead, StopsWithoutMemory}
use Rattle.ccp_run.specs.DriveTexts.{IsStreamAttempt, RefusesStream}
use Rattle.ccp_run.specs.Modes.{Task, limit_in, limit_of, is_read, is_stream, is_answered, answers_before}
use Rattle.ccp_run.specs.Run.{EndsWith, IsReadFailed, IsRun, WritesFront, WritesAnyFront, WritesAnswers, WritesSomeAnswers}
use Rattle.ccp_run.proofs.DriveFrames.{appends-nothing, takes-nothing}
use Rattle.ccp_run.proofs.WorkerModes.{is_mode}

pub untouched_within : (limit : ℕ) (old new : Known) → new ≡ old → TakesWithin limit old new
untouched_within limit old new same = record { taken = []; takes = takes-nothing old new same; within = omega arith }

pub one_more : (limit : ℕ) (old new : Known) → TakesWithin limit old new → TakesWithin (limit + 1) old new
one_more limit old new few = record { taken = few.taken; takes = few.takes; within = let w = few.within in omega (arith, w) }

within_of : (task : Task) (source : StreamChange) (bytes : List ℕ) (read : Bool) → HasInput read source bytes → length bytes ≤ limit_of task → TakesWithin (limit_of task) source.old source.new
within_of task source bytes true read short = record { taken = bytes; takes = read.taken; within = short }
within_of task source bytes false read short = untouched_within (limit_of task) source.old source.new read.same.bytes

left_of : (source : StreamChange) (bytes : List ℕ) (read : Bool) → HasInput read source bytes → IsLeft read source
left_of source bytes true has = tt
left_of source bytes false has = has.same

pub is_left : (read : Bool) (source : StreamChange) → read ≡ true → IsLeft read source
is_left true source reads = tt
is_left false source reads = let bad : ⊥ = cc in absurd bad

left_alone : (read : Bool) (source : StreamChange) → IsUntouched source → IsLeft read source
left_alone true source same = tt
left_alone false source same = same

is_zero : (n : ℕ) → (n ≡ 0) ⊎ (n ≢ 0)
is_zero zero = inl refl
is_zero (suc n) = inr (λ e. omega (arith, e))

pub is_three : (n : ℕ) → (n ≡ 3) ⊎ (n ≢ 3)
is_three zero = inr (λ e. omega (arith, e))
is_three (suc zero) = inr (λ e. omega (arith, e))
is_three (suc (suc zero)) = inr (λ e. omega (arith, e))
is_three (suc (suc (suc zero))) = inl refl
is_three (suc (suc (suc (suc n)))) = inr (λ e. omega (arith, e))

module _ (task : Task) (source sink errors : StreamChange) (is_finished : Type 0) (outcome : Outcome) where
  -- out of memory, and these are the answers
  pub ends_wanting : TakesWithin (limit_of task) source.old source.new → IsLeft (is_read task) source → WritesSomeAnswers task source sink is_finished → Ends errors outcome (status.NoMemory no_memory) memory_line
      → IsRun task source sink errors is_finished outcome
  ends_wanting few left some e = record {
    most = one_more (limit_of task) source.old source.new few;
    left = left;
    end = (status.NoMemory no_memory);
    numbered = e.status;
    ended = record { within = few; answers = some; ends = e };
  }

  -- the refusal was reported
  pub ends_refused : (refusal : Refusal) → RefusesAny (is_stream task) task source refusal → TakesWithin (limit_of task + 1) source.old source.new → IsLeft (is_read task) source → WritesAnswers task source sink is_finished
      → Ends errors outcome status.InputRefused (refusal_line refusal)
      → IsRun task source sink errors is_finished outcome
  ends_refused refusal cause most left answers e = record {
    most = most;
    left = left;
    end = status.InputRefused;
    numbered = e.status;
    ended = record { refusal = refusal; refused = cause; answers = answers; ends = e };
  }

  -- a read failed
  pub ends_unread : IsReadFailed task source sink errors is_finished outcome → IsLeft (is_read task) source → IsRun task source sink errors is_finished outcome
  ends_unread failed left = record {
    most = one_more (limit_of task) source.old source.new (record { taken = failed.taken; takes = failed.takes; within = failed.within });
    left = left;
    end = status.ReadFailed;
    numbered = failed.ends.status;
    ended = failed;
  }

  -- a write failed
  pub ends_unwritten : Rose sink.before sink.now → WritesAnyFront (is_answered task) task source sink → TakesWithin (limit_of task) source.old source.new → IsLeft (is_read task) source
      → Ends errors outcome status.WriteFailed write_line
      → IsRun task source sink errors is_finished outcome
  ends_unwritten rose front few left e = record {
    most = one_more (limit_of task) source.old source.new few;
    left = left;
    end = status.WriteFailed;
    numbered = e.status;
    ended = record { rose = rose; within = few; front = front; ends = e };
  }

  -- the whole output was written, and the sink finished
  pub ends_done : (output : ModeOutput) → MakesOutput task source output → WritesAll sink errors is_finished outcome output → outcome.status ≡ 0
      → IsRun task source sink errors is_finished outcome
  ends_done output made written is = record {
    most = one_more (limit_of task) source.old source.new (within_of task source made.bytes (is_read task) made.read made.short);
    left = left_of source made.bytes (is_read task) made.read;
    end = status.Done;
    numbered = is;
    ended = record { output = output; made = made; written = written };
  }

  not_words_refused : (end : Status) → outcome.status ≡ status_number end → EndsWith end task source sink errors is_finished outcome → outcome.status ≡ status_number status.WordsRefused → ⊥
  not_words_refused status.Done is ended at = omega (arith, is, at)
  not_words_refused status.WordsRefused is ended at = ended
  not_words_refused status.InputRefused is ended at = omega (arith, is, at)
  not_words_refused status.ReadFailed is ended at = omega (arith, is, at)
  not_words_refused status.WriteFailed is ended at = omega (arith, is, at)
  not_words_refused (status.NoMemory _) is ended at = omega (arith, is, at)

  -- a run of a task never ends as one whose words are refused
  pub never_words_refused : IsRun task source sink errors is_finished outcome → outcome.status ≡ status_number status.WordsRefused → ⊥
  never_words_refused run at = not_words_refused run.end run.numbered run.ended at

  -- memory was wanted before anything was read
  pub wants_at_once : IsUntouched source → sink.new ≡ sink.old → Ends errors outcome (status.NoMemory no_memory) memory_line → IsRun task source sink errors is_finished outcome
  wants_at_once same quiet e =
      ends_wanting (untouched_within (limit_of task) source.old source.new same.bytes) (left_alone (is_read task) source same)
      (record {
        front = [];
        rest = [];
        later = [];
        takes = takes-nothing source.old source.new same.bytes;
        answers = subst (Appends sink.old sink.new) (sym (is_mode task).begins) (appends-nothing sink.old sink.new quiet);
        handed = inl (is_mode task).begins;
        begins = sym (append-nil (answers_before task []));
        kept = omega arith;
      })
      e

-- if the mode writes nothing before its input's end
module _ (task : Task) (quiet : is_answered task ≡ false) (source sink errors : StreamChange) (is_finished : Type 0) (outcome : Outcome) where
  silent : (taken : List ℕ) → answers_before task taken ≡ []
  silent taken = (is_mode task).quiet quiet taken

  no_answers : (taken : List ℕ) → sink.new ≡ sink.old → Appends sink.old sink.new (answers_before task taken)
  no_answers taken same = subst (Appends sink.old sink.new) (sym (silent taken)) (appends-nothing sink.old sink.new same)

  none_handed : (taken : List ℕ) → AreHandedOn (answers_before task taken) is_finished
  none_handed taken = inl (silent taken)

  answers : (taken : List ℕ) → Takes source.old source.new taken → sink.new ≡ sink.old → WritesAnswers task source sink is_finished
  answers taken takes same = record { taken = taken; takes = takes; answers = no_answers taken same; handed = none_handed taken }

  some_answers : TakesWithin (limit_of task) source.old source.new → sink.new ≡ sink.old → WritesSomeAnswers task source sink is_finished
  some_answers few same = record {
    front = few.taken;
    rest = [];
    later = [];
    takes = subst (Takes source.old source.new) (sym (append-nil few.taken)) few.takes;
    answers = no_answers few.taken same;
    handed = none_handed few.taken;
    begins = ap (answers_before task) (append-nil few.taken) ∙ sym (append-nil (answers_before task few.taken));
    kept = omega arith;
  }

  whole_front : WritesFront task source sink → WritesAnyFront (is_answered task) task source sink
  whole_front front = subst (λ (b : Bool). WritesAnyFront b task source sink) (sym quiet) front

  -- the output was made, and written or not
  written_or_not : (output : ModeOutput) → MakesOutput task source output → Writes sink errors is_finished outcome output → (outcome.status ≡ 0) ⊎ (outcome.status ≢ 0)
      → IsRun task source sink errors is_finished outcome
  written_or_not output made w (inl is) = ends_done task source sink errors is_finished outcome output made (w.whole is) is
  written_or_not output made w (inr not) =
      let failed = w.failed not in
      ends_unwritten task source sink errors is_finished outcome failed.rose
      (whole_front (record { output = output; made = made; front = failed.front }))
      (within_of task source made.bytes (is_read task) made.read made.short) (left_of source made.bytes (is_read task) made.read) failed.ends

  wants_memory : StopsWithoutMemory task source → sink.new ≡ sink.old → Ends errors outcome (status.NoMemory no_memory) memory_line → IsRun task source sink errors is_finished outcome
  wants_memory wants same e = ends_wanting task source sink errors is_finished outcome wants.within wants.left (some_answers wants.within same) e

-- if the mode reads its source to the end before it writes
module _ (task : Task) (plain : is_stream task ≡ false) (source sink errors : StreamChange) (is_finished : Type 0) (outcome : Outcome) where
  quiet : is_answered task ≡ false
  quiet = ((is_mode task).plain plain).0

  plain_cause : (refusal : Refusal) → RefusesInput task source refusal → RefusesAny (is_stream task) task source refusal
  plain_cause refusal cause = subst (λ (b : Bool). RefusesAny b task source refusal) (sym plain) cause

  read_failed : FailsToRead task source → sink.new ≡ sink.old → Ends errors outcome status.ReadFailed read_line → IsRun task source sink errors is_finished outcome
  read_failed failed same e =
      let taken = failed.within.taken in
      ends_unread task source sink errors is_finished outcome
      (record {
        reads = failed.reads;
        rose = failed.rose;
        taken = taken;
        takes = failed.within.takes;
        within = failed.within.within;
        goes_on = ((is_mode task).plain plain).1 taken;
        answers = no_answers task quiet source sink errors is_finished outcome taken same;
        handed = none_handed task quiet source sink errors is_finished outcome taken;
        ends = e;
      })
      (is_left (is_read task) source failed.reads)

  refused_or_not : (refusal : Refusal) → RefusesInput task source refusal → sink.new ≡ sink.old → Refuses errors outcome refusal → (outcome.status ≡ 3) ⊎ (outcome.status ≢ 3) → IsRun task source sink errors is_finished outcome
  refused_or_not refusal (inl length) same r which =
      ends_refused task source sink errors is_finished outcome refusal (plain_cause refusal (inl length)) length.most (is_left (is_read task) source length.reads)
      (answers task quiet source sink errors is_finished outcome length.over.taken length.over.takes same) (r.told (r.too_long (limit_in task) length.cause))
  refused_or_not refusal (inr bytes) same r (inl three) =
      let few = within_of task source bytes.bytes (is_read task) bytes.read bytes.short in
      ends_refused task source sink errors is_finished outcome refusal (plain_cause refusal (inr bytes)) (one_more (limit_of task) source.old source.new few) (left_of source bytes.bytes (is_read task) bytes.read)
      (answers task quiet source sink errors is_finished outcome few.taken few.takes same) (r.told three)
  refused_or_not refusal (inr bytes) same r (inr other) =
      wants_memory task quiet source sink errors is_finished outcome
      (record { left = left_of source bytes.bytes (is_read task) bytes.read; within = within_of task source bytes.bytes (is_read task) bytes.read bytes.short }) same (r.failed other)

  -- a run of a mode
  pub run_of : (made : Result ModeOutput Stop) → IsAttempt task source made → IsEnding sink errors is_finished outcome made → IsRun task source sink errors is_finished outcome
  run_of (Ok output) attempt ending = written_or_not task quiet source sink errors is_finished outcome output attempt ending (is_zero outcome.status)
  run_of (Err (stop.Refused refusal)) attempt ending = refused_or_not refusal attempt ending.0 ending.1 (is_three outcome.status)
  run_of (Err stop.ReadFailed) attempt ending = read_failed attempt ending.0 ending.1
  run_of (Err (stop.NoMemory _)) attempt ending = wants_memory task quiet source sink errors is_finished outcome attempt ending.0 ending.1

-- if the mode judges its input as it comes, and then writes
module _ (task : Task) (quiet : is_answered task ≡ false) (reads : is_read task ≡ true) (source sink errors : StreamChange) (is_finished : Type 0) (outcome : Outcome) where
  left : IsLeft (is_read task) source
  left = is_left (is_read task) source reads

  stream_wants : TakesWithin (limit_of task) source.old source.new → sink.new ≡ sink.old → Ends errors outcome (status.NoMemory no_memory) memory_line → IsRun task source sink errors is_finished outcome
  stream_wants few same e = wants_memory task quiet source sink errors is_finished outcome (record { left = left; within = few }) same e

  stream_told : (refusal : Refusal) → RefusesStream task source refusal → sink.new ≡ sink.old → Ends errors outcome status.InputRefused (refusal_line refusal) → IsRun task source sink errors is_finished outcome
  stream_told refusal r same e =
      ends_refused task source sink errors is_finished outcome refusal r.cause r.most left (answers task quiet source sink errors is_finished outcome r.most.taken r.most.takes same) e

  stream_refused : (refusal : Refusal) → RefusesStream task source refusal → (TakesWithin (limit_of task) source.old source.new ⊎ (refusal ≡ TooLong (limit_in task))) → sink.new ≡ sink.old → Refuses errors outcome refusal
      → (outcome.status ≡ 3) ⊎ (outcome.status ≢ 3) → IsRun task source sink errors is_finished outcome
  stream_refused refusal r over same report (inl three) = stream_told refusal r same (report.told three)
  stream_refused refusal r (inl few) same report (inr other) = stream_wants few same (report.failed other)
  stream_refused refusal r (inr long) same report (inr other) = stream_told refusal r same (report.told (report.too_long (limit_in task) long))

  -- a run of such a mode
  pub run_of_stream : (made : Result ModeOutput Stop) → IsStreamAttempt task source made → IsEnding sink errors is_finished outcome made → IsRun task source sink errors is_finished outcome
  run_of_stream (Ok output) attempt ending = written_or_not task quiet source sink errors is_finished outcome output attempt ending (is_zero outcome.status)
  run_of_stream (Err (stop.Refused refusal)) attempt ending = stream_refused refusal attempt attempt.over ending.0 ending.1 (is_three outcome.status)
  run_of_stream (Err stop.ReadFailed) attempt ending =
      ends_unread task source sink errors is_finished outcome
      (record {
        reads = reads;
        rose = attempt.rose;
        taken = attempt.taken;
        takes = attempt.takes;
        within = attempt.within;
        goes_on = attempt.goes_on;
        answers = no_answers task quiet source sink errors is_finished outcome attempt.taken ending.0;
        handed = none_handed task quiet source sink errors is_finished outcome attempt.taken;
        ends = ending.1;
      })
      left
  run_of_stream (Err (stop.NoMemory _)) attempt ending = stream_wants attempt ending.0 ending.1
