-- The text of a rollout: for each flow its entries, changes, faults, reports and end, read over the sources of its
-- steps' texts.
use Rattle.std.specs.Prelude.{ℕ, ◌+◌, ◌-◌, Option, Some, None, Ok, Err, List, [], ◌∷◌, length, slice_get, map}
use Rattle.std.specs.Prelude.{codes, decimal}
use Rattle.ccp_base.specs.Text.{◌⧺◌}
use Rattle.ccp_base.specs.declared.exchange.Report.{Report}
use Rattle.ccp_base.specs.declared.place.Place.{Place}
use Rattle.portus_core.specs.declared.program.Decl.{Decl}
use Rattle.portus_build.specs.RefusalText.{refusal_text}
use Rattle.report_lines.specs.declared.end_line.End.{End}
use Rattle.report_lines.specs.FlowLine.{flow_head}
use Rattle.report_lines.specs.ReportLine.{report_head, report_tail}
use Rattle.report_lines.specs.EndLine.{end_head, end_tail}
use Rattle.flow_core.specs.declared.book.EpochLine.{EpochLine}
use Rattle.flow_core.specs.World.{Failure}
use Rattle.flow_core.specs.Books.{epoch_line}
use Rattle.scene_members.specs.declared.open_case.OpenCase.{OpenCase}
use Rattle.open_flow.specs.declared.letter.OpenLetter.{OpenLetter}
pub use Rattle.flow_core.specs.LiveText.{end_of, fault_lines}
use Rattle.open_flow.specs.OpenWorld.{Installed, OpenWorld, eras_of, track_now}
use Rattle.open_flow.specs.OpenWords.{install_world}

-- ---- the account of a flow

-- its entries, and at how many acknowledgements each was installed; its changes, its faults with their places and its
-- reports, each in order; and how it stands at the end
pub record OpenAccount : Type 0 where
  pub entries : List Installed
  pub installed : List ℕ
  pub epochs : List EpochLine
  pub faults : List (Failure Place)
  pub reports : List Report
  pub end : End

-- the account of a flow's state; before the first change the unreported span begins at 0, nothing is stopped and there
-- are no fields
abbrev pub account_of : OpenCase → OpenWorld → OpenAccount
account_of case w = record {
  entries = w.entries;
  installed = w.installed;
  epochs = map epoch_line (eras_of w);
  faults = w.faults;
  reports = w.reports;
  end = end_of (length w.acks) (track_now case w);
}

-- ---- the fields of programs

-- those of the program that a text stands for; none if it is refused
abbrev pub fields_of : Installed → List Decl
fields_of (Ok form) = form.fields
fields_of (Err refusal) = []

abbrev pub fields_in : Option Installed → List Decl
fields_in None = []
fields_in (Some entry) = fields_of entry

-- those of a step's program
abbrev pub fields_at : List Installed → ℕ → List Decl
fields_at entries step = fields_in (slice_get entries step)

-- those of an epoch's program; none if there is no epoch
abbrev pub fields_during : List Installed → Option EpochLine → List Decl
fields_during entries None = []
fields_during entries (Some epoch) = fields_at entries epoch.program

-- those of the last of these epochs
abbrev pub last_fields : List Installed → List EpochLine → List Decl
last_fields entries epochs = fields_during entries (slice_get epochs (length epochs - 1))

-- ---- its lines

abbrev pub flow_line : ℕ → List ℕ → List ℕ
flow_line flow name = flow_head flow name ⧺ codes "\n"

-- a step's text was installed after this many acknowledgements
abbrev pub installed_line : ℕ → ℕ → List ℕ
installed_line step at = codes "step " ⧺ decimal step ⧺ codes " installed at=" ⧺ decimal at ⧺ codes "\n"

-- a step's text was refused then
abbrev pub refused_head : ℕ → ℕ → List ℕ
refused_head step at = codes "step " ⧺ decimal step ⧺ codes " refused at=" ⧺ decimal at ⧺ codes " "

abbrev pub entry_line : ℕ → ℕ → Installed → List ℕ
entry_line step at (Ok form) = installed_line step at
entry_line step at (Err refusal) = refused_head step at ⧺ refusal_text refusal ⧺ codes "\n"

-- the entries, numbered from this step on
abbrev pub entry_lines : ℕ → List ℕ → List Installed → List ℕ
entry_lines step [] entries = []
entry_lines step (at ∷ later) [] = []
entry_lines step (at ∷ later) (entry ∷ rest) = entry_line step at entry ⧺ entry_lines (step + 1) later rest

-- a change: the epoch that it starts, the step, at how many acknowledgements, and the window
abbrev pub change_line : ℕ → EpochLine → List ℕ
change_line number epoch =
    codes "epoch " ⧺ decimal number ⧺ codes " step=" ⧺ decimal epoch.program ⧺ codes " at=" ⧺ decimal epoch.at
    ⧺ codes " cwnd=" ⧺ decimal epoch.cwnd ⧺ codes "\n"

-- the changes, numbered from this epoch on
abbrev pub change_lines : ℕ → List EpochLine → List ℕ
change_lines number [] = []
change_lines number (epoch ∷ rest) = change_line number epoch ⧺ change_lines (number + 1) rest

-- each report with the fields of its step's program
abbrev pub shown_lines : List Installed → List Report → List ℕ
shown_lines entries [] = []
shown_lines entries (report ∷ rest) =
    (report_head report ⧺ report_tail (fields_at entries report.program) report) ⧺ shown_lines entries rest

abbrev pub last_line : OpenAccount → List ℕ
last_line account =
    end_head (length account.reports) account.end ⧺ end_tail (last_fields account.entries account.epochs) account.end

-- ---- the parts and the whole

-- the flow, its entries, its changes, its faults and its reports, and how it stands at the end
abbrev pub account_text : OpenCase → OpenAccount → List ℕ
account_text case account =
    flow_line case.flow case.name
    ⧺ entry_lines 0 account.installed account.entries
    ⧺ change_lines 0 account.epochs
    ⧺ fault_lines account.faults
    ⧺ shown_lines account.entries account.reports
    ⧺ last_line account

-- a flow's part of the text, if this is its state
abbrev pub open_part : OpenCase → OpenWorld → List ℕ
open_part case w = account_text case (account_of case w)

-- the text of flows, each a case and its word
abbrev pub rollout_text : List (OpenCase × List OpenLetter) → List ℕ
rollout_text [] = []
rollout_text (flow ∷ rest) = open_part flow.0 (install_world flow.0 flow.1) ⧺ rollout_text rest
