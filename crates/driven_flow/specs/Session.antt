-- The driven flows of cases, one after another, as an agent's frames drive them: what each frame is answered.
use Rattle.std.specs.Prelude.{ℕ, zero, suc, ◌<◌, ◌^◌, ◌==◌, Bool, false, nat_lt, if◌then◌else◌, is_some, Result, Ok, Err}
use Rattle.driven_flow.specs.Driven.{Codes}
use Rattle.std.specs.Prelude.{Option, Some, None, option_map, unwrap_or, List, [], ◌∷◌, ◌++◌, length}
use Rattle.ccp_base.specs.FieldReg.{Pair, first_bad_pair}
use Rattle.ccp_base.specs.Limits.{most_kept_programs, most_short_fields}
use Rattle.ccp_base.specs.declared.exchange.Told.{Told}
use Rattle.ccp_base.specs.declared.exchange.Told.TheVariants as told
use Rattle.reply_frames.specs.declared.outline.Version.{Version}
use Rattle.reply_frames.specs.declared.outline.Version.TheVariants.{One, Two}
use Rattle.ccp_messages.specs.declared.message.Message.{Message}
use Rattle.ccp_messages.specs.declared.message.Message.TheVariants.{Create, Measure, Update, Change, Fault, Refused}
use Rattle.ccp_messages.specs.declared.reason.Reason.{Reason}
use Rattle.ccp_messages.specs.declared.reason.Reason.TheVariants.{NoFlow, ProgramAbove, NoProgram, NoRegister}
use Rattle.feed_core.specs.Feed.{Answer}
use Rattle.campaign_core.specs.CampaignWord.{next_of}
use Rattle.flow_core.specs.declared.letter.Letter.{Letter}
use Rattle.flow_core.specs.declared.letter.Letter.TheVariants.{A, T, C}
use Rattle.driven_flow.specs.declared.case.DrivenCase.{DrivenCase}
use Rattle.driven_flow.specs.declared.refusal.Refusal.{Refusal}
use Rattle.driven_flow.specs.Driven.{Given, DrivenState, code_in, is_known, initial_window, flow_by, world_by}
use Rattle.driven_flow.specs.Driven.{told_out, present_of, left_of}

-- a session: the programs with their numbers, the flows at their end, the flow that waits for the answer to its ticket,
-- and the cases whose flows have not begun; where no flow waits for an answer, the first of these cases waits for its
-- flow's first change
pub record SessionState : Type 0 where
  pub programs : Codes
  pub ended : List DrivenState
  pub flow : Option DrivenState
  pub left : List DrivenCase

-- before the first frame
abbrev pub opening : Codes → List DrivenCase → SessionState
opening programs cases = record { programs = programs; ended = []; flow = None; left = cases }

-- ---- what flows say

-- the beginning of the next flow, if there is one: its window and the size of its segments
abbrev pub created : List DrivenCase → Answer
created [] = None
created (case ∷ rest) = Some (Create case.flow case.link.mss (initial_window case.link.mss), One)

-- a report of at most 32 fields is a frame of version 1
abbrev pub version_for : ℕ → Version
version_for fields = if nat_lt most_short_fields fields then Two else One

abbrev pub message_of : Told → Message × Version
message_of (told.Report report) = (Measure report, version_for (length report.fields))
message_of (told.Fault notice) = (Fault notice, One)

-- the counts of acknowledgements are narrow enough for version 1
abbrev pub IsShort : Told → Type 0
IsShort (told.Report report) = (report.first < 2 ^ 32) × (report.end < 2 ^ 32)
IsShort (told.Fault notice) = notice.at < 2 ^ 32

-- the flow's ticket that is out, if one is
abbrev pub reported : Option DrivenState → Answer
reported None = None
reported (Some flow) = option_map message_of (told_out (flow_by flow) (world_by flow))

abbrev pub first_frame : SessionState → Answer
first_frame s = created s.left

-- ---- what is refused

-- the number of the flow that waits for a frame; none does if all flows are at their end
abbrev pub waiting_in : Option DrivenState → List DrivenCase → Option ℕ
waiting_in (Some flow) left = Some flow.case.flow
waiting_in None (case ∷ rest) = Some case.flow
waiting_in None [] = None

abbrev pub waiting : SessionState → Option ℕ
waiting s = waiting_in s.flow s.left

abbrev pub waits : SessionState → Bool
waits s = is_some (waiting s)

abbrev pub refused : Reason → ℕ → Refusal
refused reason index = record { reason = reason; index = index }

-- the program that the values of a change or an update are for, where this one runs, if any does
abbrev pub program_meant : Codes → (running changed : Option ℕ) → Result ℕ Refusal
program_meant programs running (Some program) =
    if nat_lt program most_kept_programs
    then (if is_known programs program then Ok program else Err (refused NoProgram program))
    else Err (refused ProgramAbove program)
program_meant programs (Some running) None = Ok running
program_meant programs None None = Err (refused NoProgram 0)

-- none of the values may name a control variable that their program doesn't have
abbrev pub values_refusal : Codes → List Pair → Result ℕ Refusal → Option Refusal
values_refusal programs values (Err refusal) = Some refusal
values_refusal programs values (Ok program) =
    option_map (refused NoRegister) (first_bad_pair (length (code_in programs program).controls) values)

-- the number of the program that runs, if a flow has begun
abbrev pub running : SessionState → Option ℕ
running s = option_map present_of s.flow

abbrev pub is_waiting : Option ℕ → ℕ → Bool
is_waiting None flow = false
is_waiting (Some number) flow = number == flow

-- why a change or an update of the flow with this number is refused, if it is
abbrev pub refusal : SessionState → ℕ → Given → Option Refusal
refusal s flow given =
    if is_waiting (waiting s) flow
    then values_refusal s.programs given.values (program_meant s.programs (running s) given.program)
    else Some (refused NoFlow 0)

-- ---- a flow continues

-- the flow after one more letter; where that is C, this is the answer that is applied
abbrev pub after_one : Given → DrivenState → Letter → DrivenState
after_one given flow A = record flow { word = flow.word ++ A ∷ [] }
after_one given flow T = record flow { word = flow.word ++ T ∷ [] }
after_one given flow C = record flow { answers = flow.answers ++ given ∷ []; word = flow.word ++ C ∷ [] }

-- after the next letter of its campaign word the flow continues, unless that letter is T
abbrev pub then_on : Option Letter → (Letter → DrivenState) → (DrivenState → DrivenState) → DrivenState → DrivenState
then_on None after on flow = flow
then_on (Some A) after on flow = on (after A)
then_on (Some C) after on flow = on (after C)
then_on (Some T) after on flow = after T

-- the flow at its next ticket, or else at the end of its word, which has at most this many letters more
abbrev pub run_for : ℕ → Given → DrivenState → DrivenState
run_for zero given flow = flow
run_for (suc most) given flow =
    then_on (next_of (flow_by flow) flow.case.lag (world_by flow)) (after_one given flow) (run_for most given) flow

abbrev pub run_on : Given → DrivenState → DrivenState
run_on given flow = run_for (left_of flow) given flow

-- ---- a frame

-- a flow after its first change, before its first letter
abbrev pub begun : Codes → DrivenCase → Given → DrivenState
begun programs case given = record {
  case = case;
  programs = programs;
  program = unwrap_or given.program 0;
  values = given.values;
  answers = [];
  word = [];
}

-- where no flow waits for an answer, the next one begins
abbrev pub turned_by : Option DrivenState → List DrivenCase → SessionState → Given → SessionState
turned_by (Some flow) left s given = s
turned_by None [] s given = s
turned_by None (case ∷ rest) s given = record s { flow = Some (begun s.programs case given); left = rest }

abbrev pub turned : SessionState → Given → SessionState
turned s given = turned_by s.flow s.left s given

-- the flow is at its end
abbrev pub with_ended : Option DrivenState → SessionState → SessionState
with_ended None s = s
with_ended (Some flow) s = record s { ended = s.ended ++ flow ∷ []; flow = None }

-- a flow that has a ticket out waits for the answer; another one is at its end, and the next one is created
abbrev pub stopped_by : Answer → SessionState → Answer × SessionState
stopped_by (Some ticket) s = (Some ticket, s)
stopped_by None s = (created s.left, with_ended s.flow s)

abbrev pub stopped : SessionState → Answer × SessionState
stopped s = stopped_by (reported s.flow) s

-- the flow continues with this answer
abbrev pub gone_on : SessionState → Given → SessionState
gone_on s given = record s { flow = option_map (run_on given) s.flow }

-- an accepted message begins a flow or answers a flow's ticket, and that flow continues
abbrev pub accepted : SessionState → Given → Answer × SessionState
accepted s given = stopped (gone_on (turned s given) given)

-- a refused frame is answered in its own version, and changes nothing
abbrev pub heard_as : Option Refusal → SessionState → Version → ℕ → Given → Answer × SessionState
heard_as (Some why) s version flow given = (Some (Refused flow why.reason why.index, version), s)
heard_as None s version flow given = accepted s given

abbrev pub heard : SessionState → Version → ℕ → Given → Answer × SessionState
heard s version flow given = heard_as (refusal s flow given) s version flow given

-- the answer to a message, and the session after it; only an Update or a Change is not ignored
abbrev pub hear : SessionState → Message → Version → Answer × SessionState
hear s (Update flow values) version = heard s version flow (record { program = None; values = values })
hear s (Change flow program values) version = heard s version flow (record { program = Some program; values = values })
hear s message version = (None, s)
