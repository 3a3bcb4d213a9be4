-- The reports of an epoch.
use Rattle.std.specs.Prelude.{ℕ, ◌+◌, Option, Some, None, List, [], ◌∷◌, ◌++◌}
use Rattle.std.specs.Option.{option_or}
use Rattle.ccp_base.specs.declared.ack.Ack.{Ack}
use Rattle.ccp_base.specs.declared.exchange.Report.{Report}
use Rattle.ccp_base.specs.RunningEpochs.{Reporter, report_by}
use Rattle.portus_core.specs.declared.env.Env.{Env}
use Rattle.portus_core.specs.Epoch.{Event, acknowledged, updated, Outcome, quiet, reported, held, failed, stopped, Reading, Track, heard, after_event, after}

-- the report of a span, from where the last one ended to just after the reporting acknowledgement
abbrev pub report_of : Reporter → Track → Ack → Env → List ℕ → Report
report_of reporter track ack env fields =
    report_by reporter track.first (track.count + 1) ack.now env.cwnd env.rate fields

abbrev pub reports_met : {F : Type 0} → Reporter → Track → Ack → Outcome F → Env → List Report
reports_met reporter track ack (reported fields) env = report_of reporter track ack env fields ∷ []
reports_met reporter track ack quiet env = []
reports_met reporter track ack held env = []
reports_met reporter track ack (failed fault) env = []
reports_met reporter track ack stopped env = []

-- the report that an event makes, or none
abbrev pub reports_at : {F : Type 0} → Reading F → Reporter → Event → Track → List Report
reports_at reading reporter (acknowledged ack room) track =
    let met = heard reading track.is_stopped track.env ack room in reports_met reporter track ack met.0 met.1
reports_at reading reporter (updated values) track = []

-- the reports of an epoch's events, in order
abbrev pub reports : {F : Type 0} → Reading F → Reporter → List Event → Track → List Report
reports reading reporter [] track = []
reports reading reporter (event ∷ rest) track =
    reports_at reading reporter event track ++ reports reading reporter rest (after_event reading event track)

-- the span that isn't reported yet: from the last report, or else from the change, to the count of acknowledgements
abbrev pub tail : {F : Type 0} → Reading F → List Event → Track → ℕ × ℕ
tail reading events track = ((after reading events track).first, (after reading events track).count)

abbrev pub fault_met : {F : Type 0} → Outcome F → ℕ → Option (ℕ × F)
fault_met (failed fault) at = Some (at, fault)
fault_met quiet at = None
fault_met (reported fields) at = None
fault_met held at = None
fault_met stopped at = None

abbrev pub event_fault : {F : Type 0} → Reading F → Event → Track → Option (ℕ × F)
event_fault reading (acknowledged ack room) track =
    fault_met (heard reading track.is_stopped track.env ack room).0 track.count
event_fault reading (updated values) track = None

-- the fault that stopped the epoch, with the number of its acknowledgement
abbrev pub epoch_fault : {F : Type 0} → Reading F → List Event → Track → Option (ℕ × F)
epoch_fault reading [] track = None
epoch_fault reading (event ∷ rest) track =
    option_or (event_fault reading event track) (epoch_fault reading rest (after_event reading event track))
