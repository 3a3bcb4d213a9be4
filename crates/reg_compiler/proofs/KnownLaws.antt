-- A known expression has no name, and its value for every state and every acknowledgement; and every expression without
-- a name whose value is no fault is known.
use Rattle.std.proofs.Common.{◌≡◌, refl, ℕ, Bool, true, ◌&&◌, Option, Some, None, Result, Ok, Err}
use Rattle.std.proofs.lemmas.Bool.{and_parts, and_from}
use Rattle.ccp_base.specs.declared.ack.Ack.{Ack}
use Rattle.ccp_base.specs.declared.arithmetic.FaultKind.{FaultKind}
use Rattle.ccp_base.specs.declared.place.Place.{Place}
use Rattle.portus_core.specs.declared.env.Env.{Env}
use Rattle.ccp_base.specs.declared.operation.Op2.{Op2}
use Rattle.portus_core.specs.Programs.{Term, number, truth, name, pair}
use Rattle.ccp_base.specs.Chaining.{then_do}
use Rattle.portus_core.specs.Value.{Cause, Locals, at_place, value_of}
use Rattle.ccp_base.specs.Operations.{apply}
use Rattle.reg_compiler.specs.Known.{known_result, known_pair, known_value, is_nameless, KnownExactly}

known_result-value : (result : Result ℕ FaultKind) (place : Place) (value : ℕ) → known_result result ≡ Some value → at_place place result ≡ Ok value
known_result-value (Ok value) place other is = cc
known_result-value (Err kind) place other is = cc

known_pair-value : (o : Op2) (place : Place) (left right : Option ℕ) (first second : Result ℕ Cause) (value : ℕ)
    → ((a : ℕ) → left ≡ Some a → first ≡ Ok a) → ((b : ℕ) → right ≡ Some b → second ≡ Ok b)
    → known_pair o left right ≡ Some value → then_do first (λ a. then_do second (λ b. at_place place (apply o a b))) ≡ Ok value
known_pair-value o place (Some a) (Some b) first second value left right is =
    rw (left a refl, right b refl) (known_result-value (apply o a b) place value is)
known_pair-value o place (Some a) None first second value left right is = cc
known_pair-value o place None right first second value left other is = cc

pub known_value-value : (term : Term) (value : ℕ) (env : Env) (locals : Locals) (ack : Ack) → known_value term ≡ Some value → value_of term env locals ack ≡ Ok value
known_value-value (number n) value env locals ack is = cc
known_value-value (truth b) value env locals ack is = cc
known_value-value (name v) value env locals ack is = cc
known_value-value (pair o place left right) value env locals ack is =
    known_pair-value o place (known_value left) (known_value right) (value_of left env locals ack) (value_of right env locals ack) value
    (λ a known. known_value-value left a env locals ack known)
    (λ b known. known_value-value right b env locals ack known) is

known_pair-nameless : (o : Op2) (left right : Option ℕ) (first second : Bool) (value : ℕ)
    → ((a : ℕ) → left ≡ Some a → first ≡ true) → ((b : ℕ) → right ≡ Some b → second ≡ true)
    → known_pair o left right ≡ Some value → first && second ≡ true
known_pair-nameless o (Some a) (Some b) first second value left right is = and_from first second (left a refl) (right b refl)
known_pair-nameless o (Some a) None first second value left right is = cc
known_pair-nameless o None right first second value left other is = cc

pub known_value-nameless : (term : Term) (value : ℕ) → known_value term ≡ Some value → is_nameless term ≡ true
known_value-nameless (number n) value is = refl
known_value-nameless (truth b) value is = refl
known_value-nameless (name v) value is = cc
known_value-nameless (pair o place left right) value is =
    known_pair-nameless o (known_value left) (known_value right) (is_nameless left) (is_nameless right) value
    (λ a known. known_value-nameless left a known) (λ b known. known_value-nameless right b known) is

value-known_result : (result : Result ℕ FaultKind) (place : Place) (value : ℕ) → at_place place result ≡ Ok value → known_result result ≡ Some value
value-known_result (Ok value) place other is = cc
value-known_result (Err kind) place other is = cc

value-known_pair : (o : Op2) (place : Place) (left right : Option ℕ) (first second : Result ℕ Cause) (value : ℕ)
    → ((a : ℕ) → first ≡ Ok a → left ≡ Some a) → ((b : ℕ) → second ≡ Ok b → right ≡ Some b)
    → then_do first (λ a. then_do second (λ b. at_place place (apply o a b))) ≡ Ok value → known_pair o left right ≡ Some value
value-known_pair o place left right (Ok a) (Ok b) value known_left known_right is =
    rw (known_left a refl, known_right b refl) (value-known_result (apply o a b) place value is)
value-known_pair o place left right (Ok a) (Err cause) value known_left known_right is = cc
value-known_pair o place left right (Err cause) second value known_left known_right is = cc

pub value-known_value : (term : Term) (value : ℕ) (env : Env) (locals : Locals) (ack : Ack) → is_nameless term ≡ true → value_of term env locals ack ≡ Ok value → known_value term ≡ Some value
value-known_value (number n) value env locals ack nameless is = cc
value-known_value (truth b) value env locals ack nameless is = cc
value-known_value (name v) value env locals ack nameless is = cc
value-known_value (pair o place left right) value env locals ack nameless is =
    value-known_pair o place (known_value left) (known_value right) (value_of left env locals ack) (value_of right env locals ack) value
    (λ a known. value-known_value left a env locals ack (and_parts (is_nameless left) (is_nameless right) nameless).0 known)
    (λ b known. value-known_value right b env locals ack (and_parts (is_nameless left) (is_nameless right) nameless).1 known) is

pub known-exactly : KnownExactly
known-exactly term value env locals ack = (
  (λ known. (known_value-nameless term value known, known_value-value term value env locals ack known)),
  (λ means. value-known_value term value env locals ack means.0 means.1),
)
