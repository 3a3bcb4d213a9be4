-- The tasks that the tool can be given, and the rules of each task's mode.
use Rattle.std.specs.Prelude.{ℕ, Bool, List}
use Rattle.ccp_words.specs.declared.mode.Alone.{Alone as AloneMode}
use Rattle.ccp_words.specs.declared.mode.Alone.TheVariants.{Check, Fold, Feed, Audit, Drive}
use Rattle.ccp_words.specs.declared.mode.DriveText.{DriveText}
use Rattle.ccp_words.specs.declared.mode.ToolMode.{ToolMode}
use Rattle.ccp_words.specs.declared.mode.ToolMode.TheVariants as mode
use Rattle.ccp_words.specs.declared.words.Asked.{Asked}
use Rattle.run_ending.specs.declared.outcome.ModeOutput.{ModeOutput}
use Rattle.run_ending.specs.declared.refusal.Limit.{Limit}
use Rattle.run_ending.specs.declared.refusal.Refusal.{Refusal}
use Rattle.run_ending.specs.ErrorLine.{most_bytes}
use Rattle.ccp_run.specs.Rules.{Rules}
use Rattle.ccp_run.specs.AcksRuns.{acks_rules}
use Rattle.ccp_run.specs.AuditRuns.{audit_rules}
use Rattle.ccp_run.specs.Campaign.{campaign_rules}
use Rattle.ccp_run.specs.Check.{check_rules}
use Rattle.ccp_run.specs.Drive.{drive_rules, drive_text_rules}
use Rattle.ccp_run.specs.FeedRuns.{feed_rules}
use Rattle.ccp_run.specs.Fold.{fold_rules}
use Rattle.ccp_run.specs.Live.{live_rules}
use Rattle.ccp_run.specs.Rollout.{rollout_rules}
use Rattle.ccp_run.specs.Shared.{shared_rules}
use Rattle.ccp_run.specs.SharedSeries.{shared_timeline_rules, shared_acks_rules}
use Rattle.ccp_run.specs.Soak.{soak_rules}
use Rattle.ccp_run.specs.Timeline.{timeline_rules}

-- what a run is to do: the mode, and the options that its output depends on. How many workers there are isn't one.
pub data Task : Type 0 where
  -- a mode whose work is done by its caller alone
  Alone : AloneMode → Task
  -- whether the programs' Install frames are shown
  Live : Bool → Task
  Campaign : Bool → Task
  -- the number of the generated campaign
  Soak : ℕ → Task
  Rollout : Task
  Shared : Task
  -- whether the programs' Install frames are shown
  Timeline : Bool → Task
  Acks : Task
  -- whether the programs' Install frames are shown
  SharedTimeline : Bool → Task
  SharedAcks : Task
  -- which text of driven flows, and whether the programs' Install frames are shown
  Driven : DriveText → Bool → Task

-- what this mode is to do, with these options
abbrev pub task_in : ToolMode → Asked → Task
task_in (mode.Alone alone) asked = Alone alone
task_in mode.Live asked = Live asked.wire
task_in mode.Campaign asked = Campaign asked.wire
task_in mode.Soak asked = Soak asked.number
task_in mode.Rollout asked = Rollout
task_in mode.Shared asked = Shared
task_in mode.Timeline asked = Timeline asked.wire
task_in mode.Acks asked = Acks
task_in mode.SharedTimeline asked = SharedTimeline asked.wire
task_in mode.SharedAcks asked = SharedAcks
task_in (mode.Driven text) asked = Driven text asked.wire

-- the rules of a task's mode
abbrev pub rules_of : Task → Rules
rules_of (Alone Check) = check_rules
rules_of (Alone Fold) = fold_rules
rules_of (Alone Feed) = feed_rules
rules_of (Alone Audit) = audit_rules
rules_of (Alone Drive) = drive_rules
rules_of (Live wire) = live_rules wire
rules_of (Campaign wire) = campaign_rules wire
rules_of (Soak number) = soak_rules number
rules_of Rollout = rollout_rules
rules_of Shared = shared_rules
rules_of (Timeline wire) = timeline_rules wire
rules_of Acks = acks_rules
rules_of (SharedTimeline wire) = shared_timeline_rules wire
rules_of SharedAcks = shared_acks_rules
rules_of (Driven text wire) = drive_text_rules text wire

-- ---- for every mode

-- what the words ask for
abbrev pub task_of : Asked → Task
task_of asked = task_in asked.mode asked

-- how long an input may be
abbrev pub limit_in : Task → Limit
limit_in task = (rules_of task).limit

-- the most bytes of an input
abbrev pub limit_of : Task → ℕ
limit_of task = most_bytes (limit_in task)

-- whether the source is read
abbrev pub is_read : Task → Bool
is_read task = (rules_of task).is_read

-- whether the input is judged as it comes, so that it may be refused before it was read to its end
abbrev pub is_stream : Task → Bool
is_stream task = (rules_of task).is_stream

-- whether answers are written before the input was read to its end
abbrev pub is_answered : Task → Bool
is_answered task = (rules_of task).is_answered

-- what is written of the output if these bytes were taken, before the input was read to its end
abbrev pub answers_before : Task → List ℕ → List ℕ
answers_before task bytes = (rules_of task).answers_before bytes

-- bytes that were taken aren't refused so far
abbrev pub GoesOn : Task → List ℕ → Type 0
GoesOn task bytes = (rules_of task).GoesOn bytes

-- bytes are an input of the mode
abbrev pub IsInput : Task → List ℕ → Type 0
IsInput task bytes = (rules_of task).IsInput bytes

-- the output is what the mode makes of its input
abbrev pub IsMade : Task → List ℕ → ModeOutput → Type 0
IsMade task bytes output = (rules_of task).IsMade bytes output

-- bytes are no input of the mode, and this is their first refusal
abbrev pub IsInputRefusal : Task → List ℕ → Refusal → Type 0
IsInputRefusal task bytes refusal = (rules_of task).IsRefused bytes refusal
