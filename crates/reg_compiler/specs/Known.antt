-- Expressions whose value is the same for every state and every acknowledgement.
use Rattle.std.specs.Prelude.{◌≡◌, ◌↔◌, ℕ, Bool, true, false, ◌&&◌, Option, Some, None, Result, Ok, Err}
use Rattle.ccp_base.specs.declared.arithmetic.FaultKind.{FaultKind}
use Rattle.ccp_base.specs.Acknowledgement.{bool_number}
use Rattle.ccp_base.specs.declared.ack.Ack.{Ack}
use Rattle.portus_core.specs.declared.env.Env.{Env}
use Rattle.ccp_base.specs.declared.operation.Op2.{Op2}
use Rattle.portus_core.specs.Programs.{Term, number, truth, name, pair}
use Rattle.portus_core.specs.Value.{Locals, value_of}
use Rattle.ccp_base.specs.Operations.{apply}

abbrev pub known_result : Result ℕ FaultKind → Option ℕ
known_result (Ok value) = Some value
known_result (Err kind) = None

abbrev pub known_pair : Op2 → Option ℕ → Option ℕ → Option ℕ
known_pair op (Some a) (Some b) = known_result (apply op a b)
known_pair op (Some a) None = None
known_pair op None b = None

-- the value of an expression that has no name and doesn't fault
abbrev pub known_value : Term → Option ℕ
known_value (number n) = Some n
known_value (truth b) = Some (bool_number b)
known_value (name v) = None
known_value (pair op place left right) = known_pair op (known_value left) (known_value right)

-- whether the expression has no name
abbrev pub is_nameless : Term → Bool
is_nameless (number n) = true
is_nameless (truth b) = true
is_nameless (name v) = false
is_nameless (pair op place left right) = is_nameless left && is_nameless right

-- an expression is known, by a value, exactly if it has no name and that is its value, whatever the state and the
-- acknowledgement are
abbrev pub KnownExactly : Type 0
KnownExactly =
    (term : Term) (value : ℕ) (env : Env) (locals : Locals) (ack : Ack)
    → (known_value term ≡ Some value) ↔ ((is_nameless term ≡ true) × (value_of term env locals ack ≡ Ok value))
