-- The names of a valid program have numbers below 256.
use Rattle.std.proofs.Common.{◌≡◌, refl, ℕ, ◌≤◌, ◌<◌, Bool, true, false, not, ◌&&◌, ◌==◌, nat_lt, nat_le, inl, inr, List, [], ◌∷◌, length, arith, length-append, lit≤}
use Rattle.std.proofs.lemmas.Bool.{and_from, and_parts, or_cases, ltb-true, lt-ltb, leb-true}
use Rattle.ccp_base.specs.Limits.{primitive_count}
use Rattle.portus_core.specs.declared.program.Var.{Var}
use Rattle.ccp_base.specs.Limits.{primitive_count}
use Rattle.portus_core.specs.declared.program.Var.TheVariants as var
use Rattle.portus_core.specs.Programs.{Term, number, truth, name, pair, Action, set, set_if, set_unless, ewma, zero_micros, report, fall, Part, Form}
use Rattle.portus_core.specs.ValidPrograms.{KnownNames, is_known, is_target, is_next_local, fits_target, is_condition, is_term, is_truth, term_is_truth, is_writable, is_action, with_known_local, known_after, is_body, are_parts, known_of, is_valid}
use Rattle.portus_core.proofs.ValidIsRunnable.{next_has_room}
use Rattle.reg_compiler.specs.Numbered.{is_numbered, is_numbered_term, is_numbered_action, is_numbered_body, are_numbered}

-- names within the limits of a program
record IsSmall (known : KnownNames) : Type 0 where
  pub fields : length known.fields ≤ 64
  pub controls : length known.controls ≤ 64
  pub locals : length known.locals ≤ 8

below_256 : (i n : ℕ) → n ≤ 256 → nat_lt i n ≡ true → nat_lt i 256 ≡ true
below_256 i n few is = lt-ltb i 256 (omega (arith, ltb-true i n is))

numbered-known : (known : KnownNames) (v : Var) → IsSmall known → is_known known v ≡ true → is_numbered v ≡ true
numbered-known known (var.Field i) small is = below_256 i (length known.fields) (omega (arith, small.fields)) is
numbered-known known (var.Control i) small is = below_256 i (length known.controls) (omega (arith, small.controls)) is
numbered-known known (var.Local i) small is = below_256 i (length known.locals) (omega (arith, small.locals)) is
numbered-known known (var.Prim n) small is = below_256 n primitive_count (lit≤ tt) is
numbered-known known var.Cwnd small is = refl
numbered-known known var.Rate small is = refl
numbered-known known var.Micros small is = refl

numbered-next : (known : KnownNames) (v : Var) → is_next_local known v ≡ true → is_numbered v ≡ true
numbered-next known (var.Local i) is = below_256 i 8 (lit≤ tt) (and_parts (i == length known.locals) (nat_lt i 8) is).1
numbered-next known (var.Field i) is = absurd (cc)
numbered-next known (var.Control i) is = absurd (cc)
numbered-next known (var.Prim n) is = absurd (cc)
numbered-next known var.Cwnd is = refl
numbered-next known var.Rate is = refl
numbered-next known var.Micros is = refl

numbered-term : (known : KnownNames) (term : Term) → IsSmall known → is_term known term ≡ true → is_numbered_term term ≡ true
numbered-term known (number n) small is = refl
numbered-term known (truth b) small is = refl
numbered-term known (name v) small is = numbered-known known v small is
numbered-term known (pair op place left right) small is =
    and_from (is_numbered_term left) (is_numbered_term right)
    (numbered-term known left small (and_parts (is_term known left) (is_term known right) is).0)
    (numbered-term known right small (and_parts (is_term known left) (is_term known right) is).1)

numbered-target : (known : KnownNames) (v : Var) → IsSmall known → is_target known v ≡ true → is_numbered v ≡ true
numbered-target known v small is = numbered-known known v small (and_parts (is_known known v) (is_writable v) is).0

numbered-condition : (known : KnownNames) (term : Term) → IsSmall known → is_condition known term ≡ true → is_numbered_term term ≡ true
numbered-condition known term small is = numbered-term known term small (and_parts (is_term known term) (term_is_truth known term) is).0

numbered-value : (known : KnownNames) (v : Var) (term : Term) → IsSmall known → fits_target known v term ≡ true → is_numbered_term term ≡ true
numbered-value known v term small is = numbered-term known term small (and_parts (is_term known term) _ is).0

numbered-set : (known : KnownNames) (v : Var) (term : Term) → IsSmall known → is_action known (set v term) ≡ true → is_numbered_action (set v term) ≡ true
numbered-set known v term small is = elim (or_cases (is_target known v && fits_target known v term) (is_next_local known v && is_term known term) is) [
  | inl old ↦
      and_from (is_numbered v) (is_numbered_term term)
      (numbered-target known v small (and_parts (is_target known v) (fits_target known v term) old).0)
      (numbered-value known v term small (and_parts (is_target known v) (fits_target known v term) old).1)
  | inr next ↦
      and_from (is_numbered v) (is_numbered_term term)
      (numbered-next known v (and_parts (is_next_local known v) (is_term known term) next).0)
      (numbered-term known term small (and_parts (is_next_local known v) (is_term known term) next).1)
]

numbered-choice : (known : KnownNames) (v : Var) (condition term : Term) → IsSmall known → is_target known v && is_condition known condition && fits_target known v term ≡ true → is_numbered v && (is_numbered_term condition && is_numbered_term term) ≡ true
numbered-choice known v condition term small is =
    let target = is_target known v in
    let held = is_condition known condition in
    let fits = fits_target known v term in
    let front = (and_parts (target && held) fits is).0 in
    and_from (is_numbered v) (is_numbered_term condition && is_numbered_term term)
    (numbered-target known v small (and_parts target held front).0)
    (and_from (is_numbered_term condition) (is_numbered_term term)
    (numbered-condition known condition small (and_parts target held front).1)
    (numbered-value known v term small (and_parts (target && held) fits is).1))

numbered-action : (known : KnownNames) (action : Action) → IsSmall known → is_action known action ≡ true → is_numbered_action action ≡ true
numbered-action known (set v term) small is = numbered-set known v term small is
numbered-action known (set_if place v condition term) small is = numbered-choice known v condition term small is
numbered-action known (set_unless place v condition term) small is = numbered-choice known v condition term small is
numbered-action known (ewma place v weight term) small is =
    let target = is_target known v in
    let plain = not (is_truth known v) in
    let front = (and_parts (target && plain && nat_le weight 10) (is_term known term) is).0 in
    and_from (is_numbered v) (is_numbered_term term)
    (numbered-target known v small (and_parts target plain (and_parts (target && plain) (nat_le weight 10) front).0).0)
    (numbered-term known term small (and_parts (target && plain && nat_le weight 10) (is_term known term) is).1)
numbered-action known zero_micros small is = refl
numbered-action known report small is = refl
numbered-action known fall small is = refl

small-with_local : (known : KnownNames) (next told : Bool) → IsSmall known → (next ≡ true → length known.locals < 8) → IsSmall (with_known_local known next told)
small-with_local known true told small room = record { fields = small.fields; controls = small.controls; locals = omega (arith, length-append known.locals (told ∷ []), room refl) }
small-with_local known false told small room = small

small-after : (known : KnownNames) (action : Action) → IsSmall known → IsSmall (known_after known action)
small-after known (set v term) small = small-with_local known (is_next_local known v) (term_is_truth known term) small (next_has_room known v)
small-after known (set_if place v condition term) small = small
small-after known (set_unless place v condition term) small = small
small-after known (ewma place v weight term) small = small
small-after known zero_micros small = small
small-after known report small = small
small-after known fall small = small

numbered-body : (known : KnownNames) (locals : ℕ) (actions : List Action) → IsSmall known → is_body known locals actions ≡ true → is_numbered_body actions ≡ true
numbered-body known locals [] small is = refl
numbered-body known locals (action ∷ rest) small is =
    let after = is_body (known_after known action) locals rest in
    and_from (is_numbered_action action) (is_numbered_body rest)
    (numbered-action known action small (and_parts (is_action known action) after is).0)
    (numbered-body (known_after known action) locals rest (small-after known action small) (and_parts (is_action known action) after is).1)

numbered-parts : (known : KnownNames) (parts : List Part) → IsSmall known → are_parts known parts ≡ true → are_numbered parts ≡ true
numbered-parts known [] small is = refl
numbered-parts known (part ∷ rest) small is =
    let held = is_condition known part.condition in
    let body = is_body known part.locals part.body in
    let own = (and_parts (held && body) (are_parts known rest) is).0 in
    and_from (is_numbered_term part.condition) (is_numbered_body part.body && are_numbered rest)
    (numbered-condition known part.condition small (and_parts held body own).0)
    (and_from (is_numbered_body part.body) (are_numbered rest)
    (numbered-body known part.locals part.body small (and_parts held body own).1)
    (numbered-parts known rest small (and_parts (held && body) (are_parts known rest) is).1))

pub numbered-valid : (form : Form) → is_valid form ≡ true → are_numbered form.blocks ≡ true
numbered-valid form valid =
    let fields = nat_le (length form.fields) 64 in
    let controls = nat_le (length form.controls) 64 in
    let blocks = nat_le (length form.blocks) 64 in
    let parts = are_parts (known_of form) form.blocks in
    let counts = (and_parts (fields && controls && blocks) parts valid).0 in
    let declared = (and_parts (fields && controls) blocks counts).0 in
    numbered-parts (known_of form) form.blocks
    (record {
      fields = leb-true (length form.fields) 64 (and_parts fields controls declared).0;
      controls = leb-true (length form.controls) 64 (and_parts fields controls declared).1;
      locals = lit≤ tt;
    })
    (and_parts (fields && controls && blocks) parts valid).1
