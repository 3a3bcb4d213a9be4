-- Names whose numbers fit the number of a register.
use Rattle.std.specs.Prelude.{Bool, true, ◌&&◌, nat_lt, List, [], ◌∷◌}
use Rattle.portus_core.specs.declared.program.Var.{Var}
use Rattle.portus_core.specs.declared.program.Var.TheVariants as var
use Rattle.portus_core.specs.Programs.{Term, number, truth, name, pair, Action, set, set_if, set_unless, ewma, zero_micros, report, fall, Part}

abbrev pub is_numbered : Var → Bool
is_numbered (var.Field i) = nat_lt i 256
is_numbered (var.Control i) = nat_lt i 256
is_numbered (var.Local i) = nat_lt i 256
is_numbered var.Cwnd = true
is_numbered var.Rate = true
is_numbered var.Micros = true
is_numbered (var.Prim n) = nat_lt n 256

-- each name of an expression, a command, a body or a list of blocks
abbrev pub is_numbered_term : Term → Bool
is_numbered_term (number n) = true
is_numbered_term (truth b) = true
is_numbered_term (name v) = is_numbered v
is_numbered_term (pair op place left right) = is_numbered_term left && is_numbered_term right

abbrev pub is_numbered_action : Action → Bool
is_numbered_action (set v term) = is_numbered v && is_numbered_term term
is_numbered_action (set_if place v condition term) =
    is_numbered v && (is_numbered_term condition && is_numbered_term term)
is_numbered_action (set_unless place v condition term) =
    is_numbered v && (is_numbered_term condition && is_numbered_term term)
is_numbered_action (ewma place v weight term) = is_numbered v && is_numbered_term term
is_numbered_action zero_micros = true
is_numbered_action report = true
is_numbered_action fall = true

abbrev pub is_numbered_body : List Action → Bool
is_numbered_body [] = true
is_numbered_body (action ∷ rest) = is_numbered_action action && is_numbered_body rest

abbrev pub are_numbered : List Part → Bool
are_numbered [] = true
are_numbered (part ∷ rest) = is_numbered_term part.condition && (is_numbered_body part.body && are_numbered rest)
