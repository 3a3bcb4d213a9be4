-- What a run promises: the theorem of every task.
use Rattle.std.specs.Prelude.{◌≡◌, ◌≢◌, ◌≤◌, ℕ, ◌+◌, Bool, true, false, List, ◌++◌, length}
use Rattle.ccp_base.specs.Limits.{most_frame_bytes}
use Rattle.ccp_base.specs.Outside.{Rose, Takes, TakesWithin, Appends, AppendsPrefix, no_memory}
use Rattle.feed_core.specs.FeedEnds.{AreHandedOn}
use Rattle.run_ending.specs.declared.outcome.ModeOutput.{ModeOutput}
use Rattle.run_ending.specs.declared.outcome.Outcome.{Outcome}
use Rattle.run_ending.specs.declared.refusal.Refusal.{Refusal}
use Rattle.run_ending.specs.declared.status.Status.{Status}
use Rattle.run_ending.specs.declared.status.Status.TheVariants as status
use Rattle.run_ending.specs.Endings.{Ends, WritesAll}
use Rattle.run_ending.specs.ErrorLine.{refusal_line}
use Rattle.run_ending.specs.Statuses.{status_number, words_line, read_line, write_line, memory_line}
use Rattle.run_ending.specs.Streams.{StreamChange, IsLeft, IsUntouched}
use Rattle.ccp_run.specs.Attempts.{MakesOutput, RefusesAny}
use Rattle.ccp_run.specs.Modes.{Task, limit_of, is_read, is_stream, is_answered, answers_before, GoesOn}

-- ---- what was written

-- the mode has an output for the input, of which a front was written
pub record WritesFront (task : Task) (source sink : StreamChange) : Type 0 where
  pub output : ModeOutput
  pub made : MakesOutput task source output
  pub front : AppendsPrefix sink.old sink.new output.text

-- of the answers to what was taken a front was written
pub record AnswersFront (task : Task) (source sink : StreamChange) : Type 0 where
  pub taken : List ℕ
  pub takes : Takes source.old source.new taken
  pub front : AppendsPrefix sink.old sink.new (answers_before task taken)

-- whether the input is answered as it comes, and the front that is written then or else
abbrev pub WritesAnyFront : Bool → Task → StreamChange → StreamChange → Type 0
WritesAnyFront true task source sink = AnswersFront task source sink
WritesAnyFront false task source sink = WritesFront task source sink

-- exactly the answers to what was taken were written and handed on, which most modes don't have
pub record WritesAnswers (task : Task) (source sink : StreamChange) (is_finished : Type 0) : Type 0 where
  pub taken : List ℕ
  pub takes : Takes source.old source.new taken
  pub answers : Appends sink.old sink.new (answers_before task taken)
  pub handed : AreHandedOn (answers_before task taken) is_finished

-- exactly the answers to a front of what was taken were written and handed on, and those to the rest, at most a frame's
-- bytes, would follow them
pub record WritesSomeAnswers (task : Task) (source sink : StreamChange) (is_finished : Type 0) : Type 0 where
  pub front : List ℕ
  pub rest : List ℕ
  pub later : List ℕ
  pub takes : Takes source.old source.new (front ++ rest)
  pub answers : Appends sink.old sink.new (answers_before task front)
  pub handed : AreHandedOn (answers_before task front) is_finished
  pub begins : answers_before task (front ++ rest) ≡ answers_before task front ++ later
  pub kept : length rest ≤ most_frame_bytes

-- ---- each status

-- 0: the input was read to its end, exactly the mode's output was written, and the sink was finished
pub record IsDone (task : Task) (source sink errors : StreamChange) (is_finished : Type 0)
    (outcome : Outcome) : Type 0 where
  pub output : ModeOutput
  pub made : MakesOutput task source output
  pub written : WritesAll sink errors is_finished outcome output

-- 3: more bytes than the limit were taken, or the input was read to its end and has a first refusal; no output is
-- written, but for the answers to what was taken, which are handed on, and the line says which refusal it is
pub record IsInputRefused (task : Task) (source sink errors : StreamChange) (is_finished : Type 0)
    (outcome : Outcome) : Type 0 where
  pub refusal : Refusal
  pub refused : RefusesAny (is_stream task) task source refusal
  pub answers : WritesAnswers task source sink is_finished
  pub ends : Ends errors outcome status.InputRefused (refusal_line refusal)

-- 4: the task reads its source, and a read failed in this run, before what was taken was too long or refused; no output
-- is written, but for the answers to what was taken, which are handed on
pub record IsReadFailed (task : Task) (source sink errors : StreamChange) (is_finished : Type 0)
    (outcome : Outcome) : Type 0 where
  pub reads : is_read task ≡ true
  pub rose : Rose source.before source.now
  pub taken : List ℕ
  pub takes : Takes source.old source.new taken
  pub within : length taken ≤ limit_of task
  pub goes_on : GoesOn task taken
  pub answers : Appends sink.old sink.new (answers_before task taken)
  pub handed : AreHandedOn (answers_before task taken) is_finished
  pub ends : Ends errors outcome status.ReadFailed read_line

-- 5: a write failed in this run, and a front of the mode's output was written
pub record IsWriteFailed (task : Task) (source sink errors : StreamChange) (outcome : Outcome) : Type 0 where
  pub rose : Rose sink.before sink.now
  pub within : TakesWithin (limit_of task) source.old source.new
  pub front : WritesAnyFront (is_answered task) task source sink
  pub ends : Ends errors outcome status.WriteFailed write_line

-- 6: out of memory; no output is written, but for the answers to a front of what was taken, which are handed on
pub record IsOutOfMemory (task : Task) (source sink errors : StreamChange) (is_finished : Type 0)
    (outcome : Outcome) : Type 0 where
  pub within : TakesWithin (limit_of task) source.old source.new
  pub answers : WritesSomeAnswers task source sink is_finished
  pub ends : Ends errors outcome (status.NoMemory no_memory) memory_line

-- what a run of a task did that ended with this status; it never ends as one whose words are refused
abbrev pub EndsWith : Status → Task → StreamChange → StreamChange → StreamChange → Type 0 → Outcome → Type 0
EndsWith status.Done task source sink errors is_finished outcome = IsDone task source sink errors is_finished outcome
EndsWith status.WordsRefused task source sink errors is_finished outcome = ⊥
EndsWith status.InputRefused task source sink errors is_finished outcome =
    IsInputRefused task source sink errors is_finished outcome
EndsWith status.ReadFailed task source sink errors is_finished outcome =
    IsReadFailed task source sink errors is_finished outcome
EndsWith status.WriteFailed task source sink errors is_finished outcome = IsWriteFailed task source sink errors outcome
EndsWith (status.NoMemory no_memory) task source sink errors is_finished outcome =
    IsOutOfMemory task source sink errors is_finished outcome

-- ---- every run

pub record IsRun (task : Task) (source sink errors : StreamChange) (is_finished : Type 0)
    (outcome : Outcome) : Type 0 where
  -- at most one byte more than the limit is taken
  pub most : TakesWithin (limit_of task + 1) source.old source.new
  -- a source that the task doesn't read isn't touched
  pub left : IsLeft (is_read task) source
  -- how it ended: the outcome's number is that of this status, and what the status says holds
  pub end : Status
  pub numbered : outcome.status ≡ status_number end
  pub ended : EndsWith end task source sink errors is_finished outcome

-- the words aren't accepted: nothing is read or written, and that is reported, or out of memory
pub record IsUnasked (source sink errors : StreamChange) (outcome : Outcome) : Type 0 where
  pub unread : IsUntouched source
  pub unwritten : IsUntouched sink
  pub told : outcome.status ≢ status_number (status.NoMemory no_memory) → Ends errors outcome status.WordsRefused words_line
  pub told_memory : outcome.status ≡ status_number (status.NoMemory no_memory) → Ends errors outcome (status.NoMemory no_memory) memory_line
