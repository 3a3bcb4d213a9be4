-- What a flow of a rollout keeps, and what holds of it: it is the state after the flow's word.
use Rattle.std.specs.Prelude.{◌≡◌, ℕ, ◌+◌, ◌<◌, ◌≤◌, Bool, true, false, Option, Some, None, option_map, Ok, ⊤}
use Rattle.std.specs.Prelude.{List, length, map, position, slice_get}
use Rattle.ccp_base.specs.declared.running_epoch.RunningEpoch.{RunningEpoch}
use Rattle.ccp_base.specs.RunningEpochs.{epochs_in, first_in}
use Rattle.portus_core.specs.Programs.{Form}
use Rattle.portus_core.specs.ProgramForm.{form_of}
use Rattle.portus_core.specs.OneAcknowledgement.{IsEnvOf}
use Rattle.portus_core.specs.Epoch.{Track}
use Rattle.reg_compiler.specs.declared.built.Built.{Built}
use Rattle.fold_machine.specs.MachineState.{MachineState, Fits}
use Rattle.link_model.specs.Standing.{Stands}
use Rattle.flow_core.specs.Readings.{env_of}
use Rattle.flow_core.specs.World.{Era, time_of}
use Rattle.flow_core.specs.Books.{epoch_line}
use Rattle.open_flow.specs.declared.entry.Entry.{Entry}
use Rattle.open_flow.specs.declared.state.State.{State}
use Rattle.open_flow.specs.Accounts.{faults_of}
use Rattle.open_flow.specs.OpenWorld.{Installed, Running, OpenWorld, track_of, track_now, eras_of, was_started}
use Rattle.open_flow.specs.OpenWords.{install_world, legal}
use Rattle.open_flow.specs.BuiltTexts.{was_built}
use Rattle.open_flow.specs.Entries.{installed_of, built_at, AreStepsFrom}
use Rattle.open_flow.specs.OpenBooks.{seen_of, seen_as}
use Rattle.open_flow.specs.OpenCells.{OpenState, most_letters}

-- the flow as contracts see it
abbrev pub cell_of : State → OpenState
cell_of s = record { case = s.case; entries = s.entries.items; word = s.word.items }

-- the state after the flow's word
abbrev pub world_of : State → OpenWorld
world_of s = install_world s.case s.word.items

-- ---- the epoch that runs, none before the first change

-- its step
abbrev pub step_of : Option RunningEpoch → Option ℕ
step_of running = option_map (λ (epoch : RunningEpoch). epoch.program) running

-- where the kept flow stands
abbrev pub kept_track : State → Track
kept_track s = record {
  env = env_of s.machine.kept;
  is_stopped = s.machine.is_stopped;
  first = first_in s.running;
  count = s.acks;
}

-- ---- steps

-- the first step that no change has looked at
abbrev pub next_from : Option RunningEpoch → ℕ
next_from None = 0
next_from (Some epoch) = epoch.program + 1

-- the place of the first accepted one of these entries
abbrev pub first_accepted : List Entry → Option ℕ
first_accepted entries = position (λ entry. was_built entry.answer) entries

-- the step of the first accepted one of these entries, which are those from this step on
abbrev pub accepted_from : ℕ → List Entry → Option ℕ
accepted_from step entries = option_map (λ place. step + place) (first_accepted entries)

-- the changes went through the entries below this step, and through no other
pub record ArePassed (next : ℕ) (eras : List Era) (entries : List Installed) : Type 0 where
  pub before : (i : ℕ) (form : Form) → i < next → slice_get entries i ≡ Some (Ok form) → was_started i eras ≡ true
  pub after : (i : ℕ) → next ≤ i → was_started i eras ≡ false

-- ---- what runs

abbrev pub form_at : List Entry → ℕ → Option Form
form_at entries step = option_map (λ (built : Built). form_of built.program) (built_at entries step)

-- the step whose program runs, none before the first change
abbrev pub running_step : Option Running → Option ℕ
running_step present = option_map (λ running. running.era.program) present

-- the step's program is the one that runs
pub record Runs (entries : List Entry) (step : ℕ) (running : Running) : Type 0 where
  pub program : running.era.program ≡ step
  pub form : form_at entries step ≡ Some running.form
  pub shape : IsEnvOf running.form (track_of running).env

abbrev pub RunsEpoch : List Entry → Option RunningEpoch → Option Running → Type 0
RunsEpoch entries None None = ⊤
RunsEpoch entries None (Some running) = ⊥
RunsEpoch entries (Some epoch) None = ⊥
RunsEpoch entries (Some epoch) (Some running) = Runs entries epoch.program running

abbrev pub FitsBuilt : MachineState → Option Built → Type 0
FitsBuilt machine None = ⊥
FitsBuilt machine (Some built) = Fits machine built.code.code

abbrev pub FitsAt : MachineState → List Entry → Option RunningEpoch → Type 0
FitsAt machine entries None = ⊤
FitsAt machine entries (Some epoch) = FitsBuilt machine (built_at entries epoch.program)

-- ---- counts

-- how many faults the present epoch can still have
abbrev pub faults_left : Option RunningEpoch → Bool → ℕ
faults_left None stopped = 0
faults_left (Some epoch) stopped = faults_of stopped

-- ---- all that holds

-- all that is kept is that of the state
pub record Keeps (s : State) (w : OpenWorld) : Type 0 where
  pub entries : map installed_of s.entries.items ≡ w.entries
  pub installed : s.installed.items ≡ w.installed
  pub epochs : s.epochs.items ≡ map epoch_line (eras_of w)
  pub reports : s.account.reports.items ≡ w.reports
  pub faults : map (seen_of s.entries.items) s.account.faults.items ≡ map (seen_as s.case.flow) w.faults
  pub acks : s.acks ≡ length w.acks
  pub time : s.time ≡ time_of w.acks
  pub track : kept_track s ≡ track_now s.case w
  pub runs : RunsEpoch s.entries.items s.running w.present
  pub passed : ArePassed (next_from s.running) (eras_of w) w.entries
  pub stands : Stands s.link w.windows

-- the link and the machine are the flow's, the counts are in range, and there is room for what comes
pub record IsFit (s : State) : Type 0 where
  pub link : s.link.case ≡ s.case.link
  pub calls : s.link.standing.calls ≡ s.acks
  pub fits : FitsAt s.machine s.entries.items s.running
  pub steps : AreStepsFrom 0 s.entries.items
  pub acks_most : s.acks ≤ s.case.acks
  pub entries_most : length s.entries.items ≤ length s.case.steps
  pub installed_count : length s.installed.items ≡ length s.entries.items
  pub running_most : next_from s.running ≤ length s.entries.items
  pub epochs_most : length s.epochs.items ≤ next_from s.running
  pub epochs_count : length s.epochs.items ≡ epochs_in s.running
  pub faults_most : length s.account.faults.items + faults_left s.running s.machine.is_stopped ≤ length s.epochs.items
  pub reports_most : length s.account.reports.items ≤ s.acks
  pub letters : length s.word.items ≡ s.acks + (length s.entries.items + length s.epochs.items)
  pub entries_room : length s.case.steps ≤ s.entries.room
  pub installed_room : length s.case.steps ≤ s.installed.room
  pub epochs_room : length s.case.steps ≤ s.epochs.room
  pub faults_room : length s.case.steps ≤ s.account.faults.room
  pub reports_room : s.case.acks ≤ s.account.reports.room
  pub word_room : most_letters s.case ≤ s.word.room

-- the flow is that of its case and its word
pub record IsOpen (s : State) : Type 0 where
  pub fit : IsFit s
  pub keeps : Keeps s (world_of s)
  pub legal : legal s.case s.word.items ≡ true
