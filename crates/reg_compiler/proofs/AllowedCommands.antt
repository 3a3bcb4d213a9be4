-- The lines of commands and bodies fail no rule.
use Rattle.std.proofs.Common.{◌≡◌, refl, ap, sym, ◌∙◌, ℕ, ◌+◌, ◌^◌, ◌<◌, ◌≤◌, Bool, true, false, not, ◌&&◌, ◌==◌, nat_lt, nat_le, max, inl, inr, None, List, [], ◌∷◌, length, arith, length-append, ltb-true, lt-ltb, leb-true, eqb-true}
use Rattle.std.proofs.lemmas.Bool.{and_parts, or_cases, cases_lt}
use Rattle.ccp_base.specs.declared.place.Place.{Place}
use Rattle.portus_core.specs.declared.program.Var.{Var}
use Rattle.portus_core.specs.declared.program.Var.TheVariants as var
use Rattle.portus_core.specs.Programs.{Term, number, Action, set, set_if, set_unless, ewma, zero_micros, report, fall}
use Rattle.portus_core.specs.ValidPrograms.{KnownNames, is_known, is_truth, is_writable, term_is_truth, is_term, is_condition, fits_target, is_target, is_next_local, is_action, with_known_local, known_after, is_body}
use Rattle.reg_code.specs.declared.code.Op.{Op}
use Rattle.reg_code.specs.declared.code.Op.TheVariants as op
use Rattle.reg_code.specs.declared.code.Reg.{Reg}
use Rattle.reg_code.specs.declared.code.Reg.TheVariants as reg
use Rattle.reg_code.specs.declared.rule.Part.TheVariants.{Body}
use Rattle.reg_code.specs.declared.rule.Rule.TheVariants as rule
use Rattle.reg_code.specs.declared.rule.Sizes.{Sizes}
use Rattle.reg_code.specs.AcceptedCode.{Marks, is_there, missing_value, is_bind, is_ewma, rule_failed}
use Rattle.reg_code.specs.AcceptedLaws.{none-first, none-next}
use Rattle.reg_compiler.specs.Needs.{kept_temporaries, need_of, action_need, deep_action, deep_body}
use Rattle.reg_compiler.specs.CompiledCode.{variable_reg, operand, first_free_after, value_lines, both_into, action_lines, body_lines}
use Rattle.reg_compiler.proofs.FittingNeeds.{fits-action}
use Rattle.reg_compiler.proofs.AllowedLines.{after, AreAllowed, AreAllowed-append, Grows, after-grows, none-mark}
use Rattle.reg_compiler.proofs.AllowedInstrs.{IsOperand, IsOperand-grows, IsTarget, IsTarget-temp, conditional-none, ewma-none}
use Rattle.reg_compiler.proofs.AllowedExpressions.{IsScope, IsScope-grows, IsOperand-name, value_lines-written, operand_lines, first_free_after-le, operand_lines-allowed, operation_lines-allowed, value_lines-allowed}

-- targets

IsTarget-there : (v : Var) (sizes : Sizes) → is_there sizes (variable_reg v) ≡ true → is_writable v ≡ true → IsTarget sizes Body false (variable_reg v)
IsTarget-there (var.Field i) sizes there writable = record { there = there; free = refl; timeless = refl; in_condition = refl; in_body = refl; at_end = refl }
IsTarget-there (var.Control i) sizes there writable = record { there = there; free = refl; timeless = refl; in_condition = refl; in_body = refl; at_end = refl }
IsTarget-there (var.Local i) sizes there writable = record { there = there; free = refl; timeless = refl; in_condition = refl; in_body = refl; at_end = refl }
IsTarget-there var.Cwnd sizes there writable = record { there = there; free = refl; timeless = refl; in_condition = refl; in_body = refl; at_end = refl }
IsTarget-there var.Rate sizes there writable = record { there = there; free = refl; timeless = refl; in_condition = refl; in_body = refl; at_end = refl }
IsTarget-there var.Micros sizes there writable = absurd (cc)
IsTarget-there (var.Prim n) sizes there writable = absurd (cc)

IsTarget-name : (v : Var) (known : KnownNames) (sizes : Sizes) (marks : Marks) → IsScope known sizes marks → is_target known v ≡ true → IsTarget sizes Body false (variable_reg v)
IsTarget-name v known sizes marks scope is =
    let parts = and_parts (is_known known v) (is_writable v) is in
    IsTarget-there v sizes (IsOperand-name v known sizes marks scope parts.0).there parts.1

IsTarget-next : (v : Var) (known : KnownNames) (sizes : Sizes) → is_next_local known v ≡ true → IsTarget sizes Body false (variable_reg v)
IsTarget-next (var.Local i) known sizes is = IsTarget-there (var.Local i) sizes (and_parts (i == length known.locals) (nat_lt i 8) is).1 refl
IsTarget-next (var.Field i) known sizes is = absurd (cc)
IsTarget-next (var.Control i) known sizes is = absurd (cc)
IsTarget-next (var.Prim n) known sizes is = absurd (cc)
IsTarget-next var.Cwnd known sizes is = absurd (cc)
IsTarget-next var.Rate known sizes is = absurd (cc)
IsTarget-next var.Micros known sizes is = absurd (cc)

-- commands

IsTarget-set : (v : Var) (term : Term) (known : KnownNames) (sizes : Sizes) (marks : Marks) → IsScope known sizes marks → is_action known (set v term) ≡ true → IsTarget sizes Body false (variable_reg v) × (is_term known term ≡ true)
IsTarget-set v term known sizes marks scope is = elim (or_cases (is_target known v && fits_target known v term) (is_next_local known v && is_term known term) is) [
  | inl known_before ↦
      let parts = and_parts (is_target known v) (fits_target known v term) known_before in
      (IsTarget-name v known sizes marks scope parts.0, (and_parts (is_term known term) _ parts.1).0)
  | inr next ↦
      let parts = and_parts (is_next_local known v) (is_term known term) next in
      (IsTarget-next v known sizes parts.0, parts.1)
]

both-allowed : (o : Op) (to : Reg) (place : Place) (left right : Term) (known : KnownNames) (sizes : Sizes) (marks : Marks)
    → IsScope known sizes marks → is_term known left ≡ true → is_term known right ≡ true → need_of left ≤ 8 → need_of right + kept_temporaries left ≤ 8
    → ((later : Marks) → Grows marks later → IsOperand sizes later (operand left 0) → IsOperand sizes later (operand right (first_free_after left 0))
    → rule_failed sizes Body false later (record { op = o; to = to; left = operand left 0; right = operand right (first_free_after left 0) }) ≡ None)
    → AreAllowed sizes Body false marks (both_into o to place left right)
both-allowed o to place left right known sizes marks scope is_left is_right left_need right_need none =
    let next = first_free_after left 0 in
    let left_fits : need_of left + 0 ≤ 8 = omega (arith, left_need) in
    let right_fits : need_of right + next ≤ 8 = omega (arith, right_need, first_free_after-le left 0) in
    let between = after (operand_lines left 0) marks in
    operation_lines-allowed o to place left right known sizes Body false marks 0 scope is_left is_right left_fits right_fits
    (operand_lines-allowed left sizes Body marks 0 left_fits (λ below. value_lines-allowed left (reg.Temp 0) 0 known sizes Body false marks scope is_left left_fits (IsTarget-temp sizes Body 0 below)))
    (operand_lines-allowed right sizes Body between next right_fits (λ below. value_lines-allowed right (reg.Temp next) next known sizes Body false between (IsScope-grows known sizes marks between (after-grows (operand_lines left 0) marks) scope) is_right right_fits (IsTarget-temp sizes Body next below)))
    none

-- `if` and `notif`
where-allowed : (o : Op) (place : Place) (v : Var) (condition term : Term) (known : KnownNames) (sizes : Sizes) (marks : Marks) → is_bind o ≡ false → is_ewma o ≡ false → IsScope known sizes marks → is_target known v && is_condition known condition && fits_target known v term ≡ true
    → max (need_of condition) (need_of term + kept_temporaries condition) ≤ 8 → AreAllowed sizes Body false marks (both_into o (variable_reg v) place condition term)
where-allowed o place v condition term known sizes marks unbound no_ewma scope is fits =
    let value = and_parts (is_target known v && is_condition known condition) (fits_target known v term) is in
    let target = and_parts (is_target known v) (is_condition known condition) value.0 in
    both-allowed o (variable_reg v) place condition term known sizes marks scope
    (and_parts (is_term known condition) (term_is_truth known condition) target.1).0
    (and_parts (is_term known term) _ value.1).0
    (omega (arith, fits)) (omega (arith, fits))
    (λ later grows first second. conditional-none o (variable_reg v) (operand condition 0) (operand term (first_free_after condition 0)) sizes later unbound no_ewma (IsTarget-name v known sizes marks scope target.0) first second)

ewma-allowed : (place : Place) (v : Var) (weight : ℕ) (term : Term) (known : KnownNames) (sizes : Sizes) (marks : Marks) → IsScope known sizes marks → is_action known (ewma place v weight term) ≡ true → need_of term ≤ 8
    → AreAllowed sizes Body false marks (both_into op.Ewma (variable_reg v) place (number weight) term)
ewma-allowed place v weight term known sizes marks scope is fits =
    let value = and_parts (is_target known v && not (is_truth known v) && nat_le weight 10) (is_term known term) is in
    let few = and_parts (is_target known v && not (is_truth known v)) (nat_le weight 10) value.0 in
    let target = (and_parts (is_target known v) (not (is_truth known v)) few.0).0 in
    let old = IsOperand-name v known sizes marks scope (and_parts (is_known known v) (is_writable v) target).0 in
    both-allowed op.Ewma (variable_reg v) place (number weight) term known sizes marks scope
    (lt-ltb weight (2 ^ 64) (omega (arith, leb-true weight 10 few.1)))
    value.1 (omega arith) (omega (arith, fits))
    (λ later grows first second. ewma-none (variable_reg v) (operand term 0) weight sizes later few.1 (IsTarget-name v known sizes marks scope target) (IsOperand-grows sizes marks later (variable_reg v) grows old) second)

action-allowed : (action : Action) (known : KnownNames) (sizes : Sizes) (marks : Marks) → IsScope known sizes marks → is_action known action ≡ true → action_need action ≤ 8 → AreAllowed sizes Body false marks (action_lines action)
action-allowed (set v term) known sizes marks scope is fits =
    let both = IsTarget-set v term known sizes marks scope is in
    value_lines-allowed term (variable_reg v) 0 known sizes Body false marks scope both.1 (omega (arith, fits)) both.0
action-allowed (set_if place v condition term) known sizes marks scope is fits = where-allowed op.If place v condition term known sizes marks refl refl scope is fits
action-allowed (set_unless place v condition term) known sizes marks scope is fits = where-allowed op.NotIf place v condition term known sizes marks refl refl scope is fits
action-allowed (ewma place v weight term) known sizes marks scope is fits = ewma-allowed place v weight term known sizes marks scope is fits
action-allowed zero_micros known sizes marks scope is fits = (refl, tt)
action-allowed report known sizes marks scope is fits = (refl, tt)
action-allowed fall known sizes marks scope is fits = (refl, tt)

-- the names after a command have a value

IsScope-with_local : (next is_bool : Bool) (known : KnownNames) (sizes : Sizes) (marks : Marks) → IsScope known sizes marks → (next ≡ true → (length known.locals < 8) × (marks.locals (length known.locals) ≡ true)) → IsScope (with_known_local known next is_bool) sizes marks
IsScope-with_local true is_bool known sizes marks scope room = record {
  fields = scope.fields;
  controls = scope.controls;
  few = omega (arith, length-append known.locals (is_bool ∷ []), (room refl).0);
  locals = λ i below. elim (cases_lt i (length known.locals)) [
    | inl before ↦ scope.locals i before
    | inr last ↦
        let is : i ≡ length known.locals = omega (arith, last, below, length-append known.locals (is_bool ∷ [])) in
        ap marks.locals is ∙ (room refl).1
  ];
}
IsScope-with_local false is_bool known sizes marks scope room = scope

next-written : (v : Var) (known : KnownNames) (marks : Marks) → missing_value marks (variable_reg v) ≡ None → is_next_local known v ≡ true → (length known.locals < 8) × (marks.locals (length known.locals) ≡ true)
next-written (var.Local i) known marks written is =
    let parts = and_parts (i == length known.locals) (nat_lt i 8) is in
    let last = eqb-true i (length known.locals) parts.0 in
    (omega (arith, last, ltb-true i 8 parts.1), ap marks.locals (sym last) ∙ none-mark (marks.locals i) rule.Local written)
next-written (var.Field i) known marks written is = absurd (cc)
next-written (var.Control i) known marks written is = absurd (cc)
next-written (var.Prim n) known marks written is = absurd (cc)
next-written var.Cwnd known marks written is = absurd (cc)
next-written var.Rate known marks written is = absurd (cc)
next-written var.Micros known marks written is = absurd (cc)

IsScope-after : (action : Action) (known : KnownNames) (sizes : Sizes) (marks : Marks) → IsScope known sizes marks → IsScope (known_after known action) sizes (after (action_lines action) marks)
IsScope-after (set v term) known sizes marks scope =
    let later = after (value_lines (variable_reg v) term 0) marks in
    IsScope-with_local (is_next_local known v) (term_is_truth known term) known sizes later
    (IsScope-grows known sizes marks later (after-grows (value_lines (variable_reg v) term 0) marks) scope)
    (next-written v known later (value_lines-written term (variable_reg v) 0 marks))
IsScope-after (set_if place v condition term) known sizes marks scope = IsScope-grows known sizes marks _ (after-grows (action_lines (set_if place v condition term)) marks) scope
IsScope-after (set_unless place v condition term) known sizes marks scope = IsScope-grows known sizes marks _ (after-grows (action_lines (set_unless place v condition term)) marks) scope
IsScope-after (ewma place v weight term) known sizes marks scope = IsScope-grows known sizes marks _ (after-grows (action_lines (ewma place v weight term)) marks) scope
IsScope-after zero_micros known sizes marks scope = IsScope-grows known sizes marks _ (after-grows (action_lines zero_micros) marks) scope
IsScope-after report known sizes marks scope = IsScope-grows known sizes marks _ (after-grows (action_lines report) marks) scope
IsScope-after fall known sizes marks scope = IsScope-grows known sizes marks _ (after-grows (action_lines fall) marks) scope

pub body-allowed : (body : List Action) (known : KnownNames) (locals : ℕ) (sizes : Sizes) (marks : Marks) → IsScope known sizes marks → is_body known locals body ≡ true → deep_body body ≡ None → AreAllowed sizes Body false marks (body_lines body)
body-allowed [] known locals sizes marks scope is none = tt
body-allowed (action ∷ rest) known locals sizes marks scope is none =
    let parts = and_parts (is_action known action) (is_body (known_after known action) locals rest) is in
    AreAllowed-append (action_lines action) (body_lines rest) sizes Body false marks
    (action-allowed action known sizes marks scope parts.0 (fits-action action (none-first (deep_action action) (deep_body rest) none)))
    refl
    (body-allowed rest (known_after known action) locals sizes (after (action_lines action) marks) (IsScope-after action known sizes marks scope) parts.1 (none-next (deep_action action) (deep_body rest) none))
