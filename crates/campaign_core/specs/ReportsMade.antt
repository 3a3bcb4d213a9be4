-- The reports that a flow's epochs made, and those that its answered tickets have.
use Rattle.std.specs.Prelude.{ℕ, ◌+◌, List, [], ◌∷◌, ◌++◌, length}
use Rattle.ccp_base.specs.declared.exchange.Report.{Report}
use Rattle.portus_core.specs.Epoch.{track_at}
use Rattle.portus_core.specs.Reports.{reports}
use Rattle.flow_core.specs.Readings.{Flow}
use Rattle.flow_core.specs.World.{Content, of_report, of_failure, Era, Answered, World}

-- the reports of an epoch with this number
abbrev pub era_reports : {X : Type 0} → Flow X → ℕ → Era → List Report
era_reports flow number era =
    reports (flow.reading era.program) (record { flow = flow.number; program = era.program; number = number })
    era.events
    (track_at era.at era.first)

-- the reports of epochs, the first of which has this number
abbrev pub reports_from : {X : Type 0} → Flow X → ℕ → List Era → List Report
reports_from flow number [] = []
reports_from flow number (era ∷ rest) = era_reports flow number era ++ reports_from flow (number + 1) rest

-- the reports of a flow's ended epochs, and of the present one
abbrev pub reports_made : {X : Type 0} → Flow X → World X → List Report
reports_made flow w = reports_from flow 0 w.past ++ era_reports flow (length w.past) w.present

-- the report of a ticket; a fault is none
abbrev pub reports_of : {X : Type 0} → Content X → List Report
reports_of (of_report report) = report ∷ []
reports_of (of_failure failure) = []

abbrev pub reports_answered : {X : Type 0} → List (Answered X) → List Report
reports_answered [] = []
reports_answered (ticket ∷ rest) = reports_of ticket.told ++ reports_answered rest
