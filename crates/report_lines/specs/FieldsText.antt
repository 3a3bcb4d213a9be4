-- What a line says of a flow's state: its window and rate, and its fields.
use Rattle.std.specs.Prelude.{ℕ, List, [], ◌∷◌, codes, decimal}
use Rattle.portus_core.specs.declared.program.Decl.{Decl}
use Rattle.ccp_base.specs.Text.{◌⧺◌}

-- the congestion window, in bytes, and the pacing rate, in bytes a second
abbrev pub window_text : ℕ → ℕ → List ℕ
window_text cwnd rate = codes " cwnd=" ⧺ decimal cwnd ⧺ codes " rate=" ⧺ decimal rate

abbrev pub field_text : Decl → ℕ → List ℕ
field_text decl value = codes " " ⧺ decl.name ⧺ codes "=" ⧺ decimal value

-- each field with its value, in order of declaration
abbrev pub fields_text : List Decl → List ℕ → List ℕ
fields_text [] values = []
fields_text (decl ∷ decls) [] = []
fields_text (decl ∷ decls) (value ∷ values) = field_text decl value ⧺ fields_text decls values
