-- What the bytes of an input of `drive` say: a scenario up to the first line `---`, then frames, and what is written for
-- them by flows that run the codes of the scenario's programs.
use Rattle.std.specs.Prelude.{ℕ, ◌-◌, nat_lt, if◌then◌else◌, Option, Some, None, Result, Ok, Err, List, [], ◌++◌, length, map}
use Rattle.ccp_base.specs.Limits.{most_input_bytes, most_audit_bytes}
use Rattle.feed_core.specs.declared.ending.FeedEnd.{FeedEnd}
use Rattle.feed_core.specs.declared.ending.FeedEnd.TheVariants as ends
use Rattle.feed_core.specs.Answering.{Answering, answering}
use Rattle.feed_core.specs.FeedBytes.{answer_bytes}
use Rattle.feed_core.specs.FeedEnds.{MayGoOn}
use Rattle.portus_core.specs.Programs.{Form}
use Rattle.reg_compiler.specs.CompiledCode.{code_of}
use Rattle.reg_compiler.specs.Sources.{Sources}
use Rattle.driven_flow.specs.Driven.{Codes, DrivenState}
use Rattle.driven_flow.specs.Front.{divided, IsOpen}
use Rattle.driven_flow.specs.Session.{SessionState, opening, first_frame, hear, waits}
use Rattle.scene_members.specs.declared.mode.SceneMode.TheVariants.{Driven}
use Rattle.scene_faults.specs.declared.fault.SceneFault.{SceneFault}
use Rattle.scenario_json.specs.Scene.{Scene, scene_of}
use Rattle.run_ending.specs.declared.refusal.Limit.TheVariants.{Input, Audit}
use Rattle.run_ending.specs.declared.refusal.Refusal.{Refusal}
use Rattle.run_ending.specs.declared.refusal.Refusal.TheVariants.{TooLong, NoSeparator, Frame, FrameCut}
use Rattle.run_ending.specs.declared.refusal.Refusal.TheVariants as refusal
use Rattle.ccp_run.specs.PlannedCases.{planned_cases}

-- ---- how an input begins

-- no whole line `---`; more bytes before it than an input of the other modes has; a text before it that is no scenario;
-- or a scenario, the place in the input where its frames begin, and the bytes from there on
pub data Beginning : Type 0 where
  undivided : Beginning
  long : Beginning
  faulty : SceneFault → Beginning
  divided_at : Scene → ℕ → List ℕ → Beginning

abbrev pub with_scene : ℕ → List ℕ → Result Scene SceneFault → Beginning
with_scene place frames (Ok scene) = divided_at scene place frames
with_scene place frames (Err fault) = faulty fault

abbrev pub beginning_at : ℕ → Option (List ℕ × List ℕ) → Beginning
beginning_at size None = undivided
beginning_at size (Some (text, frames)) =
    if nat_lt most_input_bytes (length text) then long
    else with_scene (size - length frames) frames (scene_of Driven text)

abbrev pub beginning_of : List ℕ → Beginning
beginning_of bytes = beginning_at (length bytes) (divided bytes)

-- ---- the frames of a scenario

-- the codes that the compiler makes of programs
abbrev pub codes_from : Sources → Codes
codes_from sources = map (λ (source : ℕ × Form). (source.0, code_of source.1)) sources

-- the session of a scenario's flows before the first frame
abbrev pub begun : Scene → SessionState
begun scene = opening (codes_from scene.programs) (planned_cases 0 scene.cases)

-- what is written for frames, if this is written before the first one is read
abbrev pub beginning_with : {S : Type 0} → List ℕ → Answering S → Answering S
beginning_with first a = record a { written = λ bytes. first ++ a.written bytes }

-- a session's first frame and its answers to the frames from a place of the input on, how the input ends, and the
-- session then
abbrev pub driven_by : SessionState → ℕ → Answering SessionState
driven_by session place =
    beginning_with (answer_bytes (first_frame session)) (answering hear waits most_audit_bytes place session)

abbrev pub driving : Scene → ℕ → Answering SessionState
driving scene place = driven_by (begun scene) place

-- ---- what is written, and what is refused

abbrev pub written_in : Beginning → List ℕ
written_in (divided_at scene place frames) = (driving scene place).written frames
written_in _ = []

-- what is written for the bytes that were taken of an input
abbrev pub drive_written : List ℕ → List ℕ
drive_written bytes = written_in (beginning_of bytes)

-- the end of an input as the refusal that reports it, or none if it is whole
abbrev pub end_refusal : FeedEnd → Option Refusal
end_refusal (ends.Bad field place) = Some (Frame field place)
end_refusal (ends.Cut place) = Some (FrameCut place)
end_refusal ends.TooLong = Some (TooLong Audit)
end_refusal _ = None

abbrev pub refusal_in : ℕ → Beginning → Option Refusal
refusal_in size undivided = if nat_lt most_input_bytes size then Some (TooLong Input) else Some NoSeparator
refusal_in size long = Some (TooLong Input)
refusal_in size (faulty fault) = Some (refusal.Scene fault)
refusal_in size (divided_at scene place frames) = end_refusal ((driving scene place).end frames)

-- the first refusal of an input, if it has one
abbrev pub drive_refusal : List ℕ → Option Refusal
drive_refusal bytes = refusal_in (length bytes) (beginning_of bytes)

-- bytes that were taken aren't refused so far: more may follow with which they are an input
abbrev pub IsOpenAt : List ℕ → Beginning → Type 0
IsOpenAt bytes undivided = IsOpen bytes
IsOpenAt bytes (divided_at scene place frames) = MayGoOn ((driving scene place).end frames)
IsOpenAt bytes _ = ⊥

abbrev pub IsOpenDrive : List ℕ → Type 0
IsOpenDrive bytes = IsOpenAt bytes (beginning_of bytes)

-- the flows of an input at their end
abbrev pub flows_in : Beginning → List DrivenState
flows_in (divided_at scene place frames) = ((driving scene place).state frames).ended
flows_in _ = []

abbrev pub driven_flows : List ℕ → List DrivenState
driven_flows bytes = flows_in (beginning_of bytes)
