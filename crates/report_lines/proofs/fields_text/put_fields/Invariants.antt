use Rattle.std.proofs.Common.{◌≡◌, ◌++◌, drop}
use Rattle.report_lines.specs.FieldsText.{fields_text}
use Rattle.report_lines.proofs.fields_text.put_fields.Given as goal

abbrev pub invariant-loop-decl : goal.invariant-loop-decl
invariant-loop-decl l = l.text ++ fields_text (drop l.decl-index l.fields) l.left ≡ l.initial.text ++ fields_text l.fields l.values
