-- The state of one flow of a rollout: its history, its library of entries, and what runs.
use Rattle.std.specs.Prelude.{ℕ, ◌+◌, ◌==◌, Bool, true, false, ◌||◌, if◌then◌else◌, Option, Some, None, Result, Ok, Err}
use Rattle.std.specs.Prelude.{List, [], ◌∷◌, ◌++◌, length, slice_get}
use Rattle.ccp_base.specs.declared.ack.Ack.{Ack}
use Rattle.ccp_base.specs.declared.place.Place.{Place}
use Rattle.ccp_base.specs.declared.exchange.Report.{Report}
use Rattle.portus_core.specs.declared.env.Env.{Env}
use Rattle.portus_core.specs.Programs.{Form}
use Rattle.portus_core.specs.Value.{Cause}
use Rattle.portus_core.specs.Epoch.{acknowledged, Outcome, Track, track_at, by_source, declared_env, heard, after}
use Rattle.portus_core.specs.Reports.{reports_met}
use Rattle.portus_build.specs.declared.fault.BuildFault.{BuildFault}
use Rattle.portus_build.specs.TextWalk.{program_of}
use Rattle.scene_members.specs.declared.open_case.OpenCase.{OpenCase}
use Rattle.flow_core.specs.World.{Failure, Era, with_event, time_of, failures_met}

-- an entry of the flow's library: the program that a step's text stands for, or the text's refusal
abbrev pub Installed : Type 0
Installed = Result Form BuildFault

-- a program that runs, and its epoch, whose program is the step
pub record Running : Type 0 where
  pub form : Form
  pub era : Era

-- the state of a flow: its acknowledgements and the window at each; its entries, and how many acknowledgements were in
-- when each was installed; its ended epochs, and what runs, or none before the first change; the reports and the faults
pub record OpenWorld : Type 0 where
  pub acks : List Ack
  pub windows : List ℕ
  pub entries : List Installed
  pub installed : List ℕ
  pub past : List Era
  pub present : Option Running
  pub reports : List Report
  pub faults : List (Failure Place)

-- the flow before its first letter
abbrev pub opening : OpenWorld
opening = record {
  acks = [];
  windows = [];
  entries = [];
  installed = [];
  past = [];
  present = None;
  reports = [];
  faults = [];
}

-- ---- where the flow stands

-- before the first change: no fields, the case's window, and no rate
abbrev pub bare : OpenCase → ℕ → Track
bare case acks = record {
  env = record { fields = []; controls = []; cwnd = case.cwnd; rate = 0; zero = 0 };
  is_stopped = false;
  first = 0;
  count = acks;
}

-- a running program after its epoch's events
abbrev pub track_of : Running → Track
track_of running = after (by_source running.form) running.era.events (track_at running.era.at running.era.first)

abbrev pub track_in : OpenCase → ℕ → Option Running → Track
track_in case acks None = bare case acks
track_in case acks (Some running) = track_of running

abbrev pub track_now : OpenCase → OpenWorld → Track
track_now case w = track_in case (length w.acks) w.present

-- the present `Cwnd`
abbrev pub cwnd_of : OpenCase → OpenWorld → ℕ
cwnd_of case w = (track_now case w).env.cwnd

-- ---- an acknowledgement

-- the outcome of an acknowledgement in a running program, always with room, and the env after it
abbrev pub met_by : Running → Ack → Outcome Cause × Env
met_by running ack = heard (by_source running.form) (track_of running).is_stopped (track_of running).env ack true

-- one that is run, in the epoch with this number: its report has the step as program
abbrev pub with_program_run : OpenCase → Ack → ℕ → Running → OpenWorld → OpenWorld
with_program_run case ack epoch running w =
    let track = track_of running in
    let met = met_by running ack in
    let step = running.era.program in
    record w {
      present = Some (record running { era = with_event (acknowledged ack true) running.era });
      reports = w.reports
          ++ reports_met (record { flow = case.flow; program = step; number = epoch }) track ack met.0 met.1;
      faults = w.faults ++ failures_met step epoch track.count ack met;
    }

-- before the first change it is only counted
abbrev pub run_in : OpenCase → Ack → Option Running → OpenWorld → OpenWorld
run_in case ack None w = w
run_in case ack (Some running) w = with_program_run case ack (length w.past) running w

abbrev pub after_ack : OpenCase → Ack → OpenWorld → OpenWorld
after_ack case ack w =
    run_in case ack w.present (record w { acks = w.acks ++ ack ∷ []; windows = w.windows ++ cwnd_of case w ∷ [] })

-- ---- an entry is installed

abbrev pub world_with_entry : Option (List ℕ) → OpenWorld → OpenWorld
world_with_entry None w = w
world_with_entry (Some text) w = record w {
  entries = w.entries ++ program_of text ∷ [];
  installed = w.installed ++ length w.acks ∷ [];
}

-- what the next step's text stands for
abbrev pub with_next_entry : OpenCase → OpenWorld → OpenWorld
with_next_entry case w = world_with_entry (slice_get case.steps (length w.entries)) w

-- ---- a change

abbrev pub eras_in : List Era → Option Running → List Era
eras_in past None = past
eras_in past (Some running) = past ++ running.era ∷ []

-- all epochs, the present one last
abbrev pub eras_of : OpenWorld → List Era
eras_of w = eras_in w.past w.present

-- whether a step was started
abbrev pub was_started : ℕ → List Era → Bool
was_started step [] = false
was_started step (era ∷ rest) = (era.program == step) || was_started step rest

-- the first accepted entry, of those from this step on, that hasn't been started
abbrev pub first_left : List Era → ℕ → List Installed → Option (ℕ × Form)
first_left eras step [] = None
first_left eras step (Ok form ∷ rest) =
    if was_started step eras then first_left eras (step + 1) rest else Some (step, form)
first_left eras step (Err refusal ∷ rest) = first_left eras (step + 1) rest

abbrev pub next_entry : OpenWorld → Option (ℕ × Form)
next_entry w = first_left (eras_of w) 0 w.entries

-- a program starts without values; `Cwnd` and `Rate` stay, and time zero is the time of the last acknowledgement
abbrev pub running_of : OpenCase → OpenWorld → ℕ → Form → Running
running_of case w step form = record {
  form = form;
  era = record {
    program = step;
    at = length w.acks;
    first = declared_env form (track_now case w).env.cwnd (track_now case w).env.rate (time_of w.acks);
    events = [];
  };
}

abbrev pub with_change : OpenCase → Option (ℕ × Form) → OpenWorld → OpenWorld
with_change case None w = w
with_change case (Some next) w = record w {
  past = eras_of w;
  present = Some (running_of case w next.0 next.1);
}

abbrev pub after_change : OpenCase → OpenWorld → OpenWorld
after_change case w = with_change case (next_entry w) w
