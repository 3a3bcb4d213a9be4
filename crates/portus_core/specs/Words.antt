-- The words of the language, and the words that a program may declare.
use Rattle.std.specs.Prelude.{ℕ, Bool, false, ◌&&◌, ◌||◌, not, ◌==◌, List, [], ◌∷◌, Option, Some, None, is_some, codes, if◌then◌else◌, bytes_eq, nat_eq}
use Rattle.std.specs.List.{starts_with, list_all, list_any}
use Rattle.std.specs.Char.{is_ascii_alphabetic, is_ascii_alphanumeric}
use Rattle.ccp_base.specs.Operations.{operator_of}
use Rattle.portus_core.specs.declared.program.Var.{Var}
use Rattle.portus_core.specs.declared.program.Var.TheVariants as var

-- the variable of the language that a word names
abbrev pub variable_of : List ℕ → Option Var
variable_of w =
    if bytes_eq w (codes "Cwnd") then Some var.Cwnd
    else if bytes_eq w (codes "Rate") then Some var.Rate
    else if bytes_eq w (codes "Micros") then Some var.Micros
    else None

-- a letter or `_`
abbrev pub is_first : ℕ → Bool
is_first c = is_ascii_alphabetic c || c == 95

-- a letter, a digit, `_` or `.`
abbrev pub is_later : ℕ → Bool
is_later c = is_ascii_alphanumeric c || c == 95 || c == 46

-- a first one, then later ones
abbrev pub is_name_shaped : List ℕ → Bool
is_name_shaped [] = false
is_name_shaped (c ∷ rest) = is_first c && list_all is_later rest

-- a word that a form, a declaration or a command begins with
abbrev pub is_heading : List ℕ → Bool
is_heading w =
    bytes_eq w (codes "def") || bytes_eq w (codes "when") || bytes_eq w (codes "Report")
    || bytes_eq w (codes "volatile") || bytes_eq w (codes "if") || bytes_eq w (codes "ewma")
    || bytes_eq w (codes "report") || bytes_eq w (codes "fallthrough") || bytes_eq w (codes "bind")

abbrev pub is_constant : List ℕ → Bool
is_constant w = bytes_eq w (codes "true") || bytes_eq w (codes "false") || bytes_eq w (codes "+infinity")

-- a word that no program may declare
abbrev pub is_reserved : List ℕ → Bool
is_reserved w =
    not (is_name_shaped w) || is_heading w || is_constant w || is_some (variable_of w) || is_some (operator_of w)

-- a word that names a field
abbrev pub is_field_use : List ℕ → Bool
is_field_use w = starts_with nat_eq w (codes "Report.")

-- a word that only a primitive may be
abbrev pub is_primitive_use : List ℕ → Bool
is_primitive_use w = starts_with nat_eq w (codes "Ack.") || starts_with nat_eq w (codes "Flow.")

abbrev pub has_dot : List ℕ → Bool
has_dot w = list_any (λ c. c == 46) w

-- a word that a field may have
abbrev pub is_field_name : List ℕ → Bool
is_field_name w =
    is_name_shaped w
    && not (has_dot w || bytes_eq w (codes "volatile") || bytes_eq w (codes "true") || bytes_eq w (codes "false"))

-- a word that a control variable may have
abbrev pub is_control_name : List ℕ → Bool
is_control_name w = not (is_reserved w || is_field_use w || is_primitive_use w)
