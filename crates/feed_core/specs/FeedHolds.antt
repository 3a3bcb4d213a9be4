-- What holds of a feed at all times, as its type's invariant says.
use Rattle.std.specs.Prelude.{◌≡◌, ℕ, ◌+◌, ◌*◌, ◌≤◌, Option, Some, None, option_map, List, length, map}
use Rattle.std.specs.List.{AllByRecursion}
use Rattle.ccp_base.specs.declared.running_epoch.RunningEpoch.{RunningEpoch}
use Rattle.ccp_base.specs.RunningEpochs.{epochs_in, first_in}
use Rattle.reg_code.specs.declared.code.Code.{Code}
use Rattle.reg_code.specs.declared.checked.Checked.{Checked}
use Rattle.reg_code.specs.AcceptedCode.{IsAccepted}
use Rattle.reply_frames.specs.declared.outline.Version.{Version}
use Rattle.ccp_messages.specs.Messages.{AreFew, Meets, frame_bytes}
use Rattle.fold_machine.specs.MachineState.{MachineState, Fits}
use Rattle.ccp_base.specs.Limits.{most_fields, most_flows, most_kept_programs}
use Rattle.feed_core.specs.declared.flow.Flow.{Flow}
use Rattle.feed_core.specs.declared.tables.Tables.{Tables}
use Rattle.feed_core.specs.Feed.{FeedState, Answer, running_code}

-- the code that was accepted
abbrev pub code_in : Option Checked → Option Code
code_in checked = option_map (λ (c : Checked). c.code) checked

abbrev pub codes_in : List (Option Checked) → List (Option Code)
codes_in programs = map code_in programs

-- what contracts see of a feed
abbrev pub feed_state : Tables → FeedState
feed_state tables = record {
  flows = tables.flows.items;
  programs = codes_in tables.programs.items;
  messages = tables.messages;
}

-- the machine runs the code, whose reports have frames of the version
abbrev pub RunsCode : Version → MachineState → Option Code → Type 0
RunsCode version machine None = ⊥
RunsCode version machine (Some code) = Fits machine code × AreFew version (length code.reports)

-- a flow's machine runs the code of its epoch, if it has one
abbrev pub RunsOn : Option RunningEpoch → Version → MachineState → Option Code → Type 0
RunsOn None version machine running = Unit {0}
RunsOn (Some epoch) version machine running = RunsCode version machine running

-- what holds of a flow after `messages` messages
pub record IsFlow (programs : List (Option Code)) (messages : ℕ) (flow : Flow) : Type 0 where
  pub counted : flow.count ≤ messages
  pub spanned : first_in flow.epoch ≤ flow.count
  pub changed : epochs_in flow.epoch ≤ messages
  pub runs : RunsOn flow.epoch flow.version flow.machine (running_code flow.epoch programs)

abbrev pub IsFlowThere : List (Option Code) → ℕ → Option Flow → Type 0
IsFlowThere programs messages None = Unit {0}
IsFlowThere programs messages (Some flow) = IsFlow programs messages flow

abbrev pub IsAcceptedThere : Option Code → Type 0
IsAcceptedThere None = Unit {0}
IsAcceptedThere (Some code) = IsAccepted code

pub record AreFeedParts (flows : List (Option Flow)) (programs : List (Option Code)) (messages : ℕ) : Type 0 where
  pub flows_full : length flows ≡ most_flows
  pub programs_full : length programs ≡ most_kept_programs
  pub accepted : AllByRecursion IsAcceptedThere programs
  pub each : AllByRecursion (IsFlowThere programs messages) flows

abbrev pub IsFeed : FeedState → Type 0
IsFeed state = AreFeedParts state.flows state.programs state.messages

-- the bytes of the longest answer, a report of all fields in version 2
abbrev pub longest_answer : ℕ
longest_answer = 64 + 8 * most_fields

-- the answer has a frame, which isn't longer than the longest one
abbrev pub HasShortFrame : Answer → Type 0
HasShortFrame None = Unit {0}
HasShortFrame (Some (message, version)) =
    Meets version message × (length (frame_bytes version message) ≤ longest_answer)
