-- What holds of a valid program's parts when it runs.
use Rattle.std.specs.Prelude.{Bool, true, ◌&&◌, nat_lt, nat_le, List, [], ◌∷◌}
use Rattle.ccp_base.specs.Limits.{most_locals, most_tenths}
use Rattle.portus_core.specs.declared.program.Var.{Var}
use Rattle.portus_core.specs.declared.program.Var.TheVariants as var
use Rattle.portus_core.specs.Programs.{Action, set, set_if, set_unless, ewma, zero_micros, report, fall, Part}

-- a local is one of those that a body may have
abbrev pub has_place : Var → Bool
has_place (var.Local i) = nat_lt i most_locals
has_place (var.Field i) = true
has_place (var.Control i) = true
has_place (var.Prim n) = true
has_place var.Cwnd = true
has_place var.Rate = true
has_place var.Micros = true

-- what holds of a valid program's command when it runs: its target has a place, and a weight is at most ten tenths
abbrev pub is_runnable : Action → Bool
is_runnable (set v term) = has_place v
is_runnable (set_if place v condition term) = has_place v
is_runnable (set_unless place v condition term) = has_place v
is_runnable (ewma place v weight term) = has_place v && nat_le weight most_tenths
is_runnable zero_micros = true
is_runnable report = true
is_runnable fall = true

abbrev pub is_runnable_body : List Action → Bool
is_runnable_body [] = true
is_runnable_body (action ∷ rest) = is_runnable action && is_runnable_body rest

abbrev pub are_runnable : List Part → Bool
are_runnable [] = true
are_runnable (part ∷ rest) = is_runnable_body part.body && are_runnable rest
