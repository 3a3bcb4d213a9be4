-- The marks of an event, as tables have them.
use Rattle.std.specs.Prelude.{ℕ, Bool, false, List, slice_index_or}
use Rattle.reg_code.specs.AcceptedCode.{Marks}
use Rattle.code_verifier.specs.declared.tables.Tables.{Tables}

-- whether the table has a mark at this place; past its end it has none
abbrev pub has_mark : List Bool → ℕ → Bool
has_mark table i = slice_index_or table i false

-- the marks that the tables have
abbrev pub marks_of : Tables → Marks
marks_of tables = record { temps = has_mark tables.temps; locals = has_mark tables.locals }
