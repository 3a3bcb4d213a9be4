-- What is run of a valid program has a place for each local, and each weight is at most ten tenths.
use Rattle.std.proofs.Common.{◌≡◌, refl, ℕ, ◌≤◌, ◌<◌, Bool, true, false, not, ◌&&◌, ◌||◌, ◌==◌, nat_lt, nat_le, inl, inr, List, [], ◌∷◌, length, arith, length-append, lit≤}
use Rattle.std.proofs.lemmas.Bool.{and_from, and_parts, or_cases, ltb-true, lt-ltb, eqb-true}
use Rattle.portus_core.specs.declared.program.Var.{Var}
use Rattle.portus_core.specs.declared.program.Var.TheVariants as var
use Rattle.portus_core.specs.Programs.{Action, set, set_if, set_unless, ewma, zero_micros, report, fall, Part, Form}
use Rattle.portus_core.specs.ValidPrograms.{KnownNames, is_known, is_target, is_next_local, fits_target, is_condition, is_term, is_truth, term_is_truth, is_action, with_known_local, known_after, is_body, is_part, are_parts, known_of, is_valid}
use Rattle.portus_core.specs.Runnable.{has_place, is_runnable, is_runnable_body, are_runnable}

known_has_place : (known : KnownNames) (v : Var) → length known.locals ≤ 8 → is_known known v ≡ true → has_place v ≡ true
known_has_place known (var.Local i) few is = lt-ltb i 8 (omega (arith, ltb-true i (length known.locals) is))
known_has_place known (var.Field i) few is = refl
known_has_place known (var.Control i) few is = refl
known_has_place known (var.Prim n) few is = refl
known_has_place known var.Cwnd few is = refl
known_has_place known var.Rate few is = refl
known_has_place known var.Micros few is = refl

target_has_place : (known : KnownNames) (v : Var) (rest : Bool) → length known.locals ≤ 8 → is_target known v && rest ≡ true → has_place v ≡ true
target_has_place known v rest few is = known_has_place known v few (and_parts (is_known known v) _ (and_parts (is_target known v) rest is).0).0

next_has_place : (known : KnownNames) (v : Var) → is_next_local known v ≡ true → has_place v ≡ true
next_has_place known (var.Local i) is = (and_parts (i == length known.locals) (nat_lt i 8) is).1
next_has_place known (var.Field i) is = refl
next_has_place known (var.Control i) is = refl
next_has_place known (var.Prim n) is = refl
next_has_place known var.Cwnd is = refl
next_has_place known var.Rate is = refl
next_has_place known var.Micros is = refl

set_has_place : (known : KnownNames) (v : Var) (fits is : Bool) → length known.locals ≤ 8 → (is_target known v && fits) || (is_next_local known v && is) ≡ true → has_place v ≡ true
set_has_place known v fits is few one = elim (or_cases (is_target known v && fits) (is_next_local known v && is) one) [
  | inl target ↦ target_has_place known v fits few target
  | inr next ↦ next_has_place known v (and_parts (is_next_local known v) is next).0
]

action_is_runnable : (known : KnownNames) (action : Action) → length known.locals ≤ 8 → is_action known action ≡ true → is_runnable action ≡ true
action_is_runnable known (set v term) few is = set_has_place known v _ _ few is
action_is_runnable known (set_if place v condition term) few is =
    target_has_place known v (is_condition known condition) few (and_parts (is_target known v && is_condition known condition) (fits_target known v term) is).0
action_is_runnable known (set_unless place v condition term) few is =
    target_has_place known v (is_condition known condition) few (and_parts (is_target known v && is_condition known condition) (fits_target known v term) is).0
action_is_runnable known (ewma place v weight term) few is =
    let number = is_target known v && not (is_truth known v) in
    let weighted = (and_parts (number && nat_le weight 10) (is_term known term) is).0 in
    and_from (has_place v) (nat_le weight 10)
    (target_has_place known v (not (is_truth known v)) few (and_parts number (nat_le weight 10) weighted).0)
    (and_parts number (nat_le weight 10) weighted).1
action_is_runnable known zero_micros few is = refl
action_is_runnable known report few is = refl
action_is_runnable known fall few is = refl

-- a body's locals stay within eight
few_with_local : (known : KnownNames) (next is_bool : Bool) → length known.locals ≤ 8 → (next ≡ true → length known.locals < 8) → length (with_known_local known next is_bool).locals ≤ 8
few_with_local known true is_bool few room = omega (arith, length-append known.locals (is_bool ∷ []), room refl)
few_with_local known false is_bool few room = few

pub next_has_room : (known : KnownNames) (v : Var) → is_next_local known v ≡ true → length known.locals < 8
next_has_room known (var.Local i) is = omega (arith, ltb-true i 8 (and_parts (i == length known.locals) (nat_lt i 8) is).1, eqb-true i (length known.locals) (and_parts (i == length known.locals) (nat_lt i 8) is).0)
next_has_room known (var.Field i) is = absurd (cc)
next_has_room known (var.Control i) is = absurd (cc)
next_has_room known (var.Prim n) is = absurd (cc)
next_has_room known var.Cwnd is = absurd (cc)
next_has_room known var.Rate is = absurd (cc)
next_has_room known var.Micros is = absurd (cc)

few_after : (known : KnownNames) (action : Action) → length known.locals ≤ 8 → length (known_after known action).locals ≤ 8
few_after known (set v term) few = few_with_local known (is_next_local known v) (term_is_truth known term) few (next_has_room known v)
few_after known (set_if place v condition term) few = few
few_after known (set_unless place v condition term) few = few
few_after known (ewma place v weight term) few = few
few_after known zero_micros few = few
few_after known report few = few
few_after known fall few = few

body_is_runnable : (known : KnownNames) (locals : ℕ) (actions : List Action) → length known.locals ≤ 8 → is_body known locals actions ≡ true → is_runnable_body actions ≡ true
body_is_runnable known locals [] few is = refl
body_is_runnable known locals (action ∷ rest) few is =
    and_from (is_runnable action) (is_runnable_body rest)
    (action_is_runnable known action few (and_parts (is_action known action) (is_body (known_after known action) locals rest) is).0)
    (body_is_runnable (known_after known action) locals rest (few_after known action few) (and_parts (is_action known action) (is_body (known_after known action) locals rest) is).1)

parts_are_runnable : (known : KnownNames) (parts : List Part) → length known.locals ≤ 8 → are_parts known parts ≡ true → are_runnable parts ≡ true
parts_are_runnable known [] few is = refl
parts_are_runnable known (part ∷ rest) few is =
    and_from (is_runnable_body part.body) (are_runnable rest)
    (body_is_runnable known part.locals part.body few (and_parts (is_condition known part.condition) (is_body known part.locals part.body) (and_parts (is_part known part) (are_parts known rest) is).0).1)
    (parts_are_runnable known rest few (and_parts (is_part known part) (are_parts known rest) is).1)

pub are_runnable-from_valid : (form : Form) → is_valid form ≡ true → are_runnable form.blocks ≡ true
are_runnable-from_valid form valid =
    parts_are_runnable (known_of form) form.blocks (lit≤ tt)
    (and_parts (nat_le (length form.fields) 64 && nat_le (length form.controls) 64 && nat_le (length form.blocks) 64) (are_parts (known_of form) form.blocks) valid).1
