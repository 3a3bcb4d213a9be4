-- The result of a program's fold over acknowledgements: its reports, its fault and its end.
use Rattle.std.specs.Prelude.{◌≡◌, ℕ, ◌<◌, true, Option, Some, option_map, List, length, map, slice_get}
use Rattle.ccp_base.specs.declared.ack.Ack.{Ack}
use Rattle.ccp_base.specs.declared.exchange.Notice.{Notice}
use Rattle.ccp_base.specs.declared.exchange.Report.{Report}
use Rattle.ccp_base.specs.declared.place.Place.{Place}
use Rattle.ccp_base.specs.RunningEpochs.{Reporter, reporter}
use Rattle.portus_core.specs.Programs.{Form}
use Rattle.portus_core.specs.Value.{Cause}
use Rattle.portus_core.specs.Epoch.{Event, acknowledged, by_source, Track, track_at, declared_env, after}
use Rattle.portus_core.specs.Reports.{reports, epoch_fault}
use Rattle.portus_core.specs.ProgramForm.{form_of}
use Rattle.reg_compiler.specs.declared.built.Built.{Built}
use Rattle.reg_compiler.specs.Simulation.{place_at}
use Rattle.report_lines.specs.declared.end_line.End.{End}

-- the one epoch of a fold
abbrev pub fold_reporter : Reporter
fold_reporter = reporter 0 0 0

-- each acknowledgement finds room for a report
abbrev pub with_room : Ack → Event
with_room ack = acknowledged ack true

-- a fold begins with `Cwnd`, `Rate` and time zero 0, and without values
abbrev pub fold_start : Form → Track
fold_start form = track_at 0 (declared_env form 0 0 0)

-- the state of the fold after acknowledgements
abbrev pub fold_track : Form → List Ack → Track
fold_track form acks = after (by_source form) (map with_room acks) (fold_start form)

abbrev pub fold_reports : Form → List Ack → List Report
fold_reports form acks = reports (by_source form) fold_reporter (map with_room acks) (fold_start form)

-- the fault that stops the program, with the number of its acknowledgement
abbrev pub fold_fault : Form → List Ack → Option (ℕ × Cause)
fold_fault form acks = epoch_fault (by_source form) (map with_room acks) (fold_start form)

abbrev pub end_of_track : Track → End
end_of_track track = record {
  acks = track.count;
  first = track.first;
  stopped = track.is_stopped;
  cwnd = track.env.cwnd;
  rate = track.env.rate;
  fields = track.env.fields;
}

abbrev pub fold_end : Form → List Ack → End
fold_end form acks = end_of_track (fold_track form acks)

-- the fault of a notice, if these are the places of the code's instructions
abbrev pub told_fault : List Place → Notice → ℕ × Cause
told_fault places notice = (notice.at, (notice.kind, place_at places notice.index))

-- a notice is of a fold's one epoch: its instruction has a place, its time is that of the acknowledgement with its
-- number, and its window is that at the end, since a fault leaves it and stops the program
pub record IsFoldNotice (acks : List Ack) (places : List Place) (window : ℕ) (notice : Notice) : Type 0 where
  pub flow : notice.flow ≡ 0
  pub program : notice.program ≡ 0
  pub epoch : notice.epoch ≡ 0
  pub placed : notice.index < length places
  pub now : option_map (λ (ack : Ack). ack.now) (slice_get acks notice.at) ≡ Some notice.now
  pub cwnd : notice.cwnd ≡ window

-- the fault of the notice, if there is one, is the one that stops the program
abbrev pub TellsFault : Built → List Ack → Option Notice → Type 0
TellsFault built acks notice = option_map (told_fault built.places) notice ≡ fold_fault (form_of built.program) acks
