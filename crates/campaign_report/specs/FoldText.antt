-- The text of a fold: its reports, its fault and its end, and when a program can have made them.
use Rattle.std.specs.Prelude.{◌≡◌, ℕ, ◌<◌, Option, Some, None, List, [], length, slice_get}
use Rattle.ccp_base.specs.declared.exchange.Notice.{Notice}
use Rattle.ccp_base.specs.declared.exchange.Report.{Report}
use Rattle.ccp_base.specs.declared.place.Place.{Place}
use Rattle.portus_core.specs.declared.program.Decl.{Decl}
use Rattle.portus_core.specs.ProgramForm.{form_of}
use Rattle.reg_compiler.specs.declared.built.Built.{Built}
use Rattle.report_lines.specs.declared.end_line.End.{End}
use Rattle.ccp_base.specs.Text.{◌⧺◌}
use Rattle.report_lines.specs.EndLine.{end_line}
use Rattle.report_lines.specs.FaultLine.{placed_line}
use Rattle.report_lines.specs.ReportLine.{report_lines}

-- the line of a fault or none, each instruction having one of these places
abbrev pub fault_part : List Place → Option Notice → List ℕ
fault_part places None = []
fault_part places (Some notice) = placed_line notice (slice_get places notice.index)

-- reports and the fault in order of acknowledgements, which is that order since a fault stops the program, and the end
abbrev pub fold_text : List Decl → List Place → List Report → Option Notice → End → List ℕ
fold_text fields places reports fault end =
    report_lines fields reports ⧺ fault_part places fault ⧺ end_line fields (length reports) end

-- a report shows as many fields as are declared
abbrev pub ShowsAll : List Decl → Report → Type 0
ShowsAll fields report = length report.fields ≡ length fields

-- a fault's instruction has a place
abbrev pub IsPlaced : List Place → Notice → Type 0
IsPlaced places notice = notice.index < length places

-- the text of a fold of this program
abbrev pub program_text : Built → List Report → Option Notice → End → List ℕ
program_text built reports fault end = fold_text (form_of built.program).fields built.places reports fault end
