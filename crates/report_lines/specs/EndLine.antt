-- The last line of a flow: how many acknowledgements and reports there were, and how the flow stands.
use Rattle.std.specs.Prelude.{ℕ, Bool, true, false, List, codes, decimal}
use Rattle.portus_core.specs.declared.program.Decl.{Decl}
use Rattle.report_lines.specs.declared.end_line.End.{End}
use Rattle.ccp_base.specs.Text.{◌⧺◌}
use Rattle.report_lines.specs.FieldsText.{window_text, fields_text}

abbrev pub yes_or_no : Bool → List ℕ
yes_or_no true = codes "yes"
yes_or_no false = codes "no"

-- the acknowledgements and the reports
abbrev pub end_head : ℕ → End → List ℕ
end_head reports end = codes "end acks=" ⧺ decimal end.acks ⧺ codes " reports=" ⧺ decimal reports

-- the acknowledgements that no report has shown
abbrev pub span_text : End → List ℕ
span_text end = codes " tail=" ⧺ decimal end.first ⧺ codes ".." ⧺ decimal end.acks

-- these, whether a fault stopped the program, the window, the rate and the fields, to the end of the line
abbrev pub end_tail : List Decl → End → List ℕ
end_tail fields end =
    span_text end ⧺ codes " stopped=" ⧺ yes_or_no end.stopped
    ⧺ window_text end.cwnd end.rate ⧺ fields_text fields end.fields ⧺ codes "\n"

-- the line if nothing stands between its two parts
abbrev pub end_line : List Decl → ℕ → End → List ℕ
end_line fields reports end = end_head reports end ⧺ end_tail fields end
