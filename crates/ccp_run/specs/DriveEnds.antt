-- How the reading of an input of `drive` ends, and what was taken and written then.
use Rattle.std.specs.Prelude.{◌≡◌, ◌⊎◌, ℕ, ◌+◌, ◌≤◌, ◌<◌, Some, Result, Ok, Err, List, [], ◌++◌, length, map}
use Rattle.ccp_base.specs.Limits.{most_audit_bytes, most_flows, most_frame_bytes, most_input_bytes}
use Rattle.ccp_base.specs.Outside.{Known, Rose, Takes, IsAtEnd, Appends, AppendsPrefix, no_memory}
use Rattle.ccp_messages.specs.declared.message.Message.{Message}
use Rattle.feed_core.specs.declared.ending.FeedEnd.{FeedEnd}
use Rattle.feed_core.specs.declared.ending.FeedEnd.TheVariants as ends
use Rattle.feed_core.specs.FeedBytes.{frames_from}
use Rattle.feed_core.specs.FeedEnds.{Stream, AreHandedOn, IsFed}
use Rattle.feed_core.specs.FeedLacks.{AnswerLacksAt}
use Rattle.flow_core.specs.declared.case.Case.{Case}
use Rattle.reg_compiler.specs.declared.built.Built.{Built}
use Rattle.scene_members.specs.declared.mode.SceneMode.TheVariants.{Driven}
use Rattle.scene_core.specs.CompiledPrograms.{AreCompiled}
use Rattle.driven_flow.specs.declared.front.FrontFault.{FrontFault}
use Rattle.driven_flow.specs.declared.front.FrontFault.TheVariants as fault
use Rattle.driven_flow.specs.DrivenCases.{driven_case}
use Rattle.driven_flow.specs.Front.{divided}
use Rattle.driven_flow.specs.Session.{SessionState, hear}
use Rattle.run_ending.specs.declared.outcome.Outcome.{Outcome}
use Rattle.run_ending.specs.declared.refusal.Limit.TheVariants.{Input, Audit}
use Rattle.run_ending.specs.declared.refusal.Refusal.{Refusal}
use Rattle.run_ending.specs.declared.refusal.Refusal.TheVariants.{TooLong, NoSeparator, Frame, FrameCut}
use Rattle.run_ending.specs.declared.status.Status.TheVariants as status
use Rattle.run_ending.specs.declared.stop.Stop.{Stop}
use Rattle.run_ending.specs.declared.stop.Stop.TheVariants as stop
use Rattle.run_ending.specs.Endings.{Ends, Refuses}
use Rattle.run_ending.specs.Statuses.{read_line, write_line, memory_line}
use Rattle.run_ending.specs.Streams.{StreamChange}
use Rattle.ccp_run.specs.declared.drive_end.DriveEnd.{DriveEnd}
use Rattle.ccp_run.specs.declared.drive_end.DriveEnd.TheVariants as end
use Rattle.ccp_run.specs.declared.modes.drive.Opened.{Opened}
use Rattle.ccp_run.specs.Drive.{IsDriven}
use Rattle.ccp_run.specs.DriveInputs.{drive_refusal, drive_written, driven_by, IsOpenDrive}
use Rattle.ccp_run.specs.FeedEndings.{EndsWhole}
use Rattle.ccp_run.specs.Scenes.{IsScenario}

-- ---- a whole input

-- these bytes were taken, and exactly what is to be written for them was written and handed on
pub record AnswersDrive (source sink : Stream) (is_finished : Type 0) (bytes : List ℕ) : Type 0 where
  pub taken : Takes source.old source.new bytes
  pub written : Appends sink.old sink.new (drive_written bytes)
  pub handed : AreHandedOn (drive_written bytes) is_finished

-- a read is allowed in every state that comes from this one in which exactly what is to be written for what was taken
-- since was written and handed on, and which is finished if this one is
abbrev pub AllowsDrive : {D : Type 0} (remaining written : D → Known) (is_finished : D → Type 0)
    (Follows : D → D → Type 0) (MayRead : D → Type 0) → D → Type 0
AllowsDrive {D = D} remaining written is_finished Follows MayRead begin = (now : D) (taken : List ℕ)
    → Follows begin now → Takes (remaining begin) (remaining now) taken
    → Appends (written begin) (written now) (drive_written taken)
    → AreHandedOn (drive_written taken) (is_finished now)
    → (is_finished begin → is_finished now) → MayRead now

-- the source was read to its end, and the input isn't refused
pub record EndsDrive (source sink : Stream) (is_finished : Type 0) : Type 0 where
  pub bytes : List ℕ
  pub answered : AnswersDrive source sink is_finished bytes
  pub at_end : IsAtEnd source.new
  pub within : length bytes ≤ most_audit_bytes
  pub programs : List (ℕ × Built)
  pub input : IsDriven bytes programs
  pub finished : is_finished

-- the input has this refusal, whatever follows what was taken, or at its end
pub record RefusesDrive (source sink : Stream) (is_finished : Type 0) (refusal : Refusal) : Type 0 where
  pub bytes : List ℕ
  pub answered : AnswersDrive source sink is_finished bytes
  pub within : length bytes ≤ most_audit_bytes + 1
  pub cause : ((more : List ℕ) → drive_refusal (bytes ++ more) ≡ Some refusal)
      ⊎ (IsAtEnd source.new × (length bytes ≤ most_audit_bytes) × (drive_refusal bytes ≡ Some refusal))
  -- only where the input is too long are more bytes than the limit taken
  pub over : (length bytes ≤ most_audit_bytes) ⊎ (refusal ≡ TooLong Audit)

-- a read failed, and the input isn't refused so far
pub record FailsToReadDrive (source sink : Stream) (is_finished : Type 0) : Type 0 where
  pub bytes : List ℕ
  pub answered : AnswersDrive source sink is_finished bytes
  pub within : length bytes ≤ most_audit_bytes
  pub rose : Rose source.before source.now
  pub goes_on : IsOpenDrive bytes

-- a write failed, and a front of what is to be written was written
pub record FailsToWriteDrive (source sink : Stream) : Type 0 where
  pub bytes : List ℕ
  pub taken : Takes source.old source.new bytes
  pub within : length bytes ≤ most_audit_bytes
  pub rose : Rose sink.before sink.now
  pub front : AppendsPrefix sink.old sink.new (drive_written bytes)

-- out of memory: exactly what is to be written for a front was written and handed on, and the rest of what was taken is
-- at most a frame's bytes
pub record LacksMemoryToDrive (source sink : Stream) (is_finished : Type 0) : Type 0 where
  pub front : List ℕ
  pub rest : List ℕ
  pub later : List ℕ
  pub taken : Takes source.old source.new (front ++ rest)
  pub within : length (front ++ rest) ≤ most_audit_bytes
  pub written : Appends sink.old sink.new (drive_written front)
  pub handed : AreHandedOn (drive_written front) is_finished
  pub begins : drive_written (front ++ rest) ≡ drive_written front ++ later
  pub kept : length rest ≤ most_frame_bytes

abbrev pub IsDriveEnd : Stream → Stream → Type 0 → DriveEnd → Type 0
IsDriveEnd source sink is_finished end.Whole = EndsDrive source sink is_finished
IsDriveEnd source sink is_finished (end.Refused refusal) = RefusesDrive source sink is_finished refusal
IsDriveEnd source sink is_finished end.ReadFailed = FailsToReadDrive source sink is_finished
IsDriveEnd source sink is_finished end.WriteFailed = FailsToWriteDrive source sink
IsDriveEnd source sink is_finished (end.NoMemory _) = LacksMemoryToDrive source sink is_finished

-- how each end is reported
abbrev pub ReportsDrive : StreamChange → Outcome → DriveEnd → Type 0
ReportsDrive errors outcome end.Whole = EndsWhole errors outcome
ReportsDrive errors outcome (end.Refused refusal) = Refuses errors outcome refusal
ReportsDrive errors outcome end.ReadFailed = Ends errors outcome status.ReadFailed read_line
ReportsDrive errors outcome end.WriteFailed = Ends errors outcome status.WriteFailed write_line
ReportsDrive errors outcome (end.NoMemory _) = Ends errors outcome (status.NoMemory no_memory) memory_line

-- ---- its scenario

-- a text is a scenario of driven flows with these programs and cases, and what was read is these programs, the driven
-- cases of these cases, and the place where the frames begin
pub record IsDrivenScene (text : List ℕ) (place : ℕ) (opened : Opened) : Type 0 where
  pub cases : List Case
  pub scenario : IsScenario Driven text opened.programs cases
  pub compiled : AreCompiled opened.programs
  pub driven_is : opened.cases ≡ map driven_case cases
  pub few : length opened.cases ≤ most_flows
  pub place_is : opened.place ≡ place

-- a scenario of driven flows was read, up to the line `---`: these bytes of the input come after the line
pub record OpensDrive (source : Stream) (rest : List ℕ) (opened : Opened) : Type 0 where
  pub bytes : List ℕ
  pub taken : Takes source.old source.new bytes
  pub text : List ℕ
  pub divided_is : divided bytes ≡ Some (text, rest)
  pub short : length text ≤ most_input_bytes
  pub place : ℕ
  pub eaten_is : place + length rest ≡ length bytes
  pub few : length rest < most_frame_bytes
  pub within : length bytes ≤ most_input_bytes + most_frame_bytes
  pub scene : IsDrivenScene text place opened

-- the input is refused for its scenario, whatever follows what was taken, or at its end; nothing is to be written
pub record RefusesOpening (source : Stream) (refusal : Refusal) : Type 0 where
  pub bytes : List ℕ
  pub taken : Takes source.old source.new bytes
  pub silent : drive_written bytes ≡ []
  pub within : length bytes ≤ most_input_bytes + most_frame_bytes
  pub cause : ((more : List ℕ) → drive_refusal (bytes ++ more) ≡ Some refusal)
      ⊎ (IsAtEnd source.new × (drive_refusal bytes ≡ Some refusal))

-- a read failed before the line `---`, and the input isn't refused so far
pub record FailsToOpen (source : Stream) : Type 0 where
  pub bytes : List ℕ
  pub taken : Takes source.old source.new bytes
  pub silent : drive_written bytes ≡ []
  pub within : length bytes ≤ most_input_bytes + most_frame_bytes
  pub rose : Rose source.before source.now
  pub goes_on : IsOpenDrive bytes

-- out of memory before the first frame is written
pub record LacksMemoryToOpen (source : Stream) : Type 0 where
  pub front : List ℕ
  pub rest : List ℕ
  pub taken : Takes source.old source.new (front ++ rest)
  pub within : length (front ++ rest) ≤ most_input_bytes + most_frame_bytes
  pub silent : drive_written front ≡ []
  pub kept : length rest ≤ most_frame_bytes

-- the stop that a fault of the text before the line `---` is
abbrev pub front_stop : FrontFault → Stop
front_stop fault.TooLong = stop.Refused (TooLong Input)
front_stop fault.NoSeparator = stop.Refused NoSeparator
front_stop fault.ReadFailed = stop.ReadFailed
front_stop (fault.NoMemory _) = stop.NoMemory no_memory

-- why no scenario was read
abbrev pub StopsOpening : Stream → Stop → Type 0
StopsOpening source (stop.Refused refusal) = RefusesOpening source refusal
StopsOpening source stop.ReadFailed = FailsToOpen source
StopsOpening source (stop.NoMemory _) = LacksMemoryToOpen source

abbrev pub IsOpened : Stream → List ℕ → Result Opened Stop → Type 0
IsOpened source rest (Ok opened) = OpensDrive source rest opened
IsOpened source rest (Err why) = StopsOpening source why

-- the end that such a stop is
abbrev pub end_at : Stop → DriveEnd
end_at (stop.Refused refusal) = end.Refused refusal
end_at stop.ReadFailed = end.ReadFailed
end_at (stop.NoMemory _) = end.NoMemory no_memory

-- ---- its frames

-- the end that an end of its frames is
abbrev pub end_in : FeedEnd → DriveEnd
end_in ends.Whole = end.Whole
end_in (ends.Bad field place) = end.Refused (Frame field place)
end_in (ends.Cut place) = end.Refused (FrameCut place)
end_in ends.TooLong = end.Refused (TooLong Audit)
end_in ends.ReadFailed = end.ReadFailed
end_in ends.WriteFailed = end.WriteFailed
end_in (ends.NoMemory _) = end.NoMemory no_memory

-- how the frames of a session end that begin at a place of the input, of which the first bytes were read before
abbrev pub IsSessionEnd : (before : List ℕ) (place : ℕ) (begin session : SessionState) → Stream → Stream → Type 0
    → FeedEnd → Type 0
IsSessionEnd before place begin session source sink is_finished end =
    IsFed (driven_by begin place) before
    (AnswerLacksAt hear (λ (s : SessionState) (message : Message). Unit {0}) place
    (frames_from hear most_audit_bytes place begin))
    source sink is_finished session end

-- the same, where the session isn't said that stands then
abbrev pub IsFlowsEnd : (before : List ℕ) (place : ℕ) (begin : SessionState) → Stream → Stream → Type 0 → FeedEnd
    → Type 0
IsFlowsEnd before place begin source sink is_finished end =
    (session : SessionState) × IsSessionEnd before place begin session source sink is_finished end
