-- What the texts of driven flows are made of: flows that have the scenario's programs, at the end of their frames.
use Rattle.std.specs.Prelude.{◌≡◌, ◌⊎◌, ℕ, ◌+◌, ◌-◌, ◌≤◌, Bool, Result, Ok, Err, List, [], length, map}
use Rattle.std.specs.List.{All}
use Rattle.ccp_base.specs.Limits.{most_audit_bytes}
use Rattle.ccp_base.specs.Outside.{Known, Rose, Takes, TakesWithin, no_memory}
use Rattle.ccp_words.specs.declared.mode.DriveText.{DriveText}
use Rattle.reg_compiler.specs.declared.built.Built.{Built}
use Rattle.driven_flow.specs.Driven.{DrivenState, codes_of}
use Rattle.driven_flow.specs.Session.{SessionState, opening}
use Rattle.feed_core.specs.declared.ending.FeedEnd.{FeedEnd}
use Rattle.feed_core.specs.declared.ending.FeedEnd.TheVariants as ends
use Rattle.feed_core.specs.FeedEnds.{Stream}
use Rattle.run_ending.specs.declared.outcome.ModeOutput.{ModeOutput}
use Rattle.run_ending.specs.declared.refusal.Refusal.{Refusal}
use Rattle.run_ending.specs.declared.refusal.Refusal.TheVariants.{TooLong}
use Rattle.run_ending.specs.declared.stop.Stop.{Stop}
use Rattle.run_ending.specs.declared.stop.Stop.TheVariants as stop
use Rattle.run_ending.specs.Streams.{StreamChange}
use Rattle.ccp_run.specs.declared.modes.drive.Opened.{Opened}
use Rattle.ccp_run.specs.Attempts.{MakesOutput, RefusesAny}
use Rattle.ccp_run.specs.Modes.{Task, limit_in, limit_of, is_stream, GoesOn}
use Rattle.ccp_run.specs.DriveEnds.{IsSessionEnd, IsFlowsEnd, end_at, end_in}
use Rattle.campaign_report.specs.AcksText.{flows_text}
use Rattle.live_lines.specs.FlowLabels.{own}
use Rattle.ccp_run.specs.Drive.{drive_text, flow_acks, flow_names}

-- the flow has the codes of these programs, and so have all of these flows
abbrev pub IsOf : List (ℕ × Built) → DrivenState → Type 0
IsOf programs flow = codes_of programs ≡ flow.programs

abbrev pub AreOf : List (ℕ × Built) → List DrivenState → Type 0
AreOf programs flows = All (IsOf programs) flows

-- the lines of the acknowledgements of flows, numbered from this one on
abbrev pub acks_from : ℕ → List (ℕ × Built) → List DrivenState → List ℕ
acks_from number programs flows =
    flows_text number (flow_names flows) (map (λ acks. own) (map (flow_acks programs) flows))
    (map (flow_acks programs) flows)

-- ---- an input that is judged as it comes, and whose output is written at its end

-- a source over a call, by its bytes and its counts of faults before and after
abbrev pub change : Known → Known → ℕ → ℕ → StreamChange
change old new before now = record { old = old; new = new; before = before; now = now }

-- a refusal, after at most one byte more than the limit was taken
pub record RefusesStream (task : Task) (source : StreamChange) (refusal : Refusal) : Type 0 where
  pub cause : RefusesAny (is_stream task) task source refusal
  pub most : TakesWithin (limit_of task + 1) source.old source.new
  pub over : TakesWithin (limit_of task) source.old source.new ⊎ (refusal ≡ TooLong (limit_in task))

-- a read failed, and what was taken isn't refused so far
pub record FailsToReadStream (task : Task) (source : StreamChange) : Type 0 where
  pub rose : Rose source.before source.now
  pub taken : List ℕ
  pub takes : Takes source.old source.new taken
  pub within : length taken ≤ limit_of task
  pub goes_on : GoesOn task taken

abbrev pub IsStreamAttempt : Task → StreamChange → Result ModeOutput Stop → Type 0
IsStreamAttempt task source (Ok output) = MakesOutput task source output
IsStreamAttempt task source (Err (stop.Refused refusal)) = RefusesStream task source refusal
IsStreamAttempt task source (Err stop.ReadFailed) = FailsToReadStream task source
IsStreamAttempt task source (Err (stop.NoMemory _)) = TakesWithin (limit_of task) source.old source.new

-- ---- its frames

-- the frames of a session were answered to their end, or why they weren't
abbrev pub IsHeardOut : (before : List ℕ) (place : ℕ) (begin session : SessionState) → Stream → Stream
    → Result (Unit {0}) Stop → Type 0
IsHeardOut before place begin session source sink (Ok done) =
    IsSessionEnd before place begin session source sink (Unit {0}) ends.Whole
IsHeardOut before place begin session source sink (Err why) =
    (end : FeedEnd) × (end_in end ≡ end_at why) × IsSessionEnd before place begin session source sink (Unit {0}) end

-- the frames were whole, and the output is the text of the flows then, with these programs
pub record MakesText (text : DriveText) (wire : Bool) (before : List ℕ) (opened : Opened) (source sink : Stream)
    (output : ModeOutput) : Type 0 where
  pub session : SessionState
  pub whole :
      IsSessionEnd before opened.place (opening (codes_of opened.programs) opened.cases) session source sink
      (Unit {0}) ends.Whole
  pub kept : output.programs ≡ opened.programs
  pub written : output.text ≡ drive_text text wire opened.programs session.ended
  pub no_books : output.books ≡ []
  pub idle : output.ran ≡ 0

-- the frames ended otherwise
pub record StopsFrames (before : List ℕ) (opened : Opened) (source sink : Stream) (why : Stop) : Type 0 where
  pub end : FeedEnd
  pub stop_is : end_in end ≡ end_at why
  pub frames :
      IsFlowsEnd before opened.place (opening (codes_of opened.programs) opened.cases) source sink (Unit {0}) end

-- how the text of the flows of a scenario is made, of whose frames the first bytes were read before
abbrev pub IsTextMade : DriveText → Bool → (before : List ℕ) → Opened → Stream → Stream → Result ModeOutput Stop
    → Type 0
IsTextMade text wire before opened source sink (Ok output) = MakesText text wire before opened source sink output
IsTextMade text wire before opened source sink (Err (stop.NoMemory no_memory)) =
    TakesWithin (most_audit_bytes - opened.place - length before) source.old source.new
IsTextMade text wire before opened source sink (Err why) = StopsFrames before opened source sink why
