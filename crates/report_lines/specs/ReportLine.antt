-- The line of a report: what it is of, and what it shows.
use Rattle.std.specs.Prelude.{ℕ, List, [], ◌∷◌, codes, decimal}
use Rattle.ccp_base.specs.declared.exchange.Report.{Report}
use Rattle.portus_core.specs.declared.program.Decl.{Decl}
use Rattle.ccp_base.specs.Text.{◌⧺◌}
use Rattle.report_lines.specs.FieldsText.{window_text, fields_text}

-- the program, the epoch, and the span of acknowledgements
abbrev pub report_head : Report → List ℕ
report_head report =
    codes "report program=" ⧺ decimal report.program ⧺ codes " epoch=" ⧺ decimal report.epoch
    ⧺ codes " span=" ⧺ decimal report.first ⧺ codes ".." ⧺ decimal report.end

-- the time, the window, the rate and the fields, to the end of the line
abbrev pub report_tail : List Decl → Report → List ℕ
report_tail fields report =
    codes " now=" ⧺ decimal report.now ⧺ window_text report.cwnd report.rate
    ⧺ fields_text fields report.fields ⧺ codes "\n"

abbrev pub report_line : List Decl → Report → List ℕ
report_line fields report = report_head report ⧺ report_tail fields report

-- the lines of reports of one program, in their order
abbrev pub report_lines : List Decl → List Report → List ℕ
report_lines fields [] = []
report_lines fields (report ∷ rest) = report_line fields report ⧺ report_lines fields rest
