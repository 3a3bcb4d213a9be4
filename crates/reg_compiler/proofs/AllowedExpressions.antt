-- The lines of expressions fail no rule.
use Rattle.std.proofs.Common.{◌≡◌, refl, ap, sym, ◌∙◌, ℕ, ◌+◌, ◌<◌, ◌≤◌, Bool, true, false, nat_lt, Option, Some, None, option_map, unwrap_or, List, [], ◌∷◌, ◌++◌, length, arith, ltb-true, lt-ltb}
use Rattle.std.proofs.lemmas.Bool.{and_right, and_parts}
use Rattle.ccp_base.specs.declared.place.Place.{Place}
use Rattle.ccp_base.specs.Acknowledgement.{bool_number}
use Rattle.portus_core.specs.declared.program.Var.{Var}
use Rattle.portus_core.specs.declared.program.Var.TheVariants as var
use Rattle.portus_core.specs.Programs.{Term, number, truth, name, pair}
use Rattle.portus_core.specs.ValidPrograms.{KnownNames, is_known, is_term}
use Rattle.reg_code.specs.declared.code.Op.{Op}
use Rattle.reg_code.specs.declared.code.Op.TheVariants as op
use Rattle.reg_code.specs.declared.code.Reg.{Reg}
use Rattle.reg_code.specs.declared.code.Reg.TheVariants as reg
use Rattle.reg_code.specs.declared.rule.Part.{Part}
use Rattle.reg_code.specs.declared.rule.Rule.TheVariants as rule
use Rattle.reg_code.specs.declared.rule.Sizes.{Sizes}
use Rattle.reg_code.specs.AcceptedCode.{Marks, missing_value, rule_failed}
use Rattle.reg_compiler.specs.declared.line.Line.{Line}
use Rattle.reg_compiler.specs.Known.{known_value}
use Rattle.reg_compiler.specs.Needs.{kept_temporaries, need_of}
use Rattle.reg_compiler.specs.CompiledCode.{variable_reg, code_line, bind_line, direct_operand, operand, next_free, first_free_after, unless_direct, operation_lines, unless_known, value_lines}
use Rattle.reg_compiler.proofs.AllowedLines.{after, AreAllowed, after-append, is_end-append, AreAllowed-append, Grows, Grows-trans, after-grows, mark-none, with_target-written, last-written}
use Rattle.reg_compiler.proofs.AllowedInstrs.{IsOperand, IsOperand-grows, IsOperand-imm, IsTarget, IsTarget-temp, bind-none, pair-none}

-- each name that may be read is a register, and has a value
pub record IsScope (known : KnownNames) (sizes : Sizes) (marks : Marks) : Type 0 where
  pub fields : length known.fields ≡ sizes.reports
  pub controls : length known.controls ≡ sizes.controls
  pub few : length known.locals ≤ 8
  pub locals : (i : ℕ) → i < length known.locals → marks.locals i ≡ true

pub IsScope-grows : (known : KnownNames) (sizes : Sizes) (before later : Marks) → Grows before later → IsScope known sizes before → IsScope known sizes later
IsScope-grows known sizes before later grows scope = record {
  fields = scope.fields;
  controls = scope.controls;
  few = scope.few;
  locals = λ i below. grows.locals i (scope.locals i below);
}

pub IsOperand-name : (v : Var) (known : KnownNames) (sizes : Sizes) (marks : Marks) → IsScope known sizes marks → is_known known v ≡ true → IsOperand sizes marks (variable_reg v)
IsOperand-name (var.Field i) known sizes marks scope is = record { there = ap (nat_lt i) (sym scope.fields) ∙ is; readable = refl; written = refl }
IsOperand-name (var.Control i) known sizes marks scope is = record { there = ap (nat_lt i) (sym scope.controls) ∙ is; readable = refl; written = refl }
IsOperand-name (var.Local i) known sizes marks scope is =
    let below = ltb-true i (length known.locals) is in
    record { there = lt-ltb i 8 (omega (arith, below, scope.few)); readable = refl; written = mark-none (marks.locals i) rule.Local (scope.locals i below) }
IsOperand-name (var.Prim n) known sizes marks scope is = record { there = is; readable = refl; written = refl }
IsOperand-name var.Cwnd known sizes marks scope is = record { there = refl; readable = refl; written = refl }
IsOperand-name var.Rate known sizes marks scope is = record { there = refl; readable = refl; written = refl }
IsOperand-name var.Micros known sizes marks scope is = record { there = refl; readable = refl; written = refl }

-- a register that an expression's lines are for is written by them

unless_known-written : (value : Option ℕ) (to : Reg) (lines : List Line) (marks : Marks) → missing_value (after lines marks) to ≡ None → missing_value (after (unless_known value to lines) marks) to ≡ None
unless_known-written (Some value) to lines marks written = with_target-written to marks
unless_known-written None to lines marks written = written

pub value_lines-written : (term : Term) (to : Reg) (free : ℕ) (marks : Marks) → missing_value (after (value_lines to term free) marks) to ≡ None
value_lines-written (number n) to free marks = with_target-written to marks
value_lines-written (truth b) to free marks = with_target-written to marks
value_lines-written (name v) to free marks = with_target-written to marks
value_lines-written (pair o place left right) to free marks =
    let first = unless_direct (direct_operand left) (value_lines (reg.Temp free) left free) in
    let second = unless_direct (direct_operand right) (value_lines (reg.Temp (first_free_after left free)) right (first_free_after left free)) in
    let line : Line = code_line (op.Pair o) to (operand left free) (operand right (first_free_after left free)) place in
    unless_known-written (known_value (pair o place left right)) to (first ++ (second ++ line ∷ [])) marks
    (ap (λ marks. missing_value marks to) (after-append first (second ++ line ∷ []) marks) ∙ last-written second line (after first marks) refl)

-- operands

-- the lines of an operand
abbrev pub operand_lines : Term → ℕ → List Line
operand_lines term free = unless_direct (direct_operand term) (value_lines (reg.Temp free) term free)

first_free_after-pair : (value : Option ℕ) (free : ℕ) → next_free (option_map reg.Imm value) free ≤ free + 1
first_free_after-pair (Some value) free = omega arith
first_free_after-pair None free = omega arith

pub first_free_after-le : (term : Term) (free : ℕ) → first_free_after term free ≤ free + kept_temporaries term
first_free_after-le (number n) free = omega arith
first_free_after-le (truth b) free = omega arith
first_free_after-le (name v) free = omega arith
first_free_after-le (pair o place left right) free = first_free_after-pair (known_value (pair o place left right)) free

unless_direct-allowed : (from : Option Reg) (sizes : Sizes) (part : Part) (marks : Marks) (lines : List Line) → AreAllowed sizes part false marks lines → AreAllowed sizes part false marks (unless_direct from lines)
unless_direct-allowed (Some from) sizes part marks lines allowed = tt
unless_direct-allowed None sizes part marks lines allowed = allowed

pub operand_lines-allowed : (term : Term) (sizes : Sizes) (part : Part) (marks : Marks) (free : ℕ) → need_of term + free ≤ 8 → (free < 8 → AreAllowed sizes part false marks (value_lines (reg.Temp free) term free)) → AreAllowed sizes part false marks (operand_lines term free)
operand_lines-allowed (number n) sizes part marks free fits allowed = tt
operand_lines-allowed (truth b) sizes part marks free fits allowed = tt
operand_lines-allowed (name v) sizes part marks free fits allowed = tt
operand_lines-allowed (pair o place left right) sizes part marks free fits allowed =
    unless_direct-allowed (option_map reg.Imm (known_value (pair o place left right))) sizes part marks (value_lines (reg.Temp free) (pair o place left right) free) (allowed (omega (arith, fits)))

IsOperand-pair : (value : Option ℕ) (sizes : Sizes) (marks : Marks) (lines : List Line) (free : ℕ) → free < 8 → missing_value (after lines marks) (reg.Temp free) ≡ None
    → IsOperand sizes (after (unless_direct (option_map reg.Imm value) lines) marks) (unwrap_or (option_map reg.Imm value) (reg.Temp free))
IsOperand-pair (Some value) sizes marks lines free below written = IsOperand-imm sizes marks value
IsOperand-pair None sizes marks lines free below written = record { there = lt-ltb free 8 below; readable = refl; written = written }

-- an operand may be read after its lines
pub IsOperand-operand : (term : Term) (known : KnownNames) (sizes : Sizes) (marks : Marks) (free : ℕ) → IsScope known sizes marks → is_term known term ≡ true → need_of term + free ≤ 8 → IsOperand sizes (after (operand_lines term free) marks) (operand term free)
IsOperand-operand (number n) known sizes marks free scope is fits = IsOperand-imm sizes marks n
IsOperand-operand (truth b) known sizes marks free scope is fits = IsOperand-imm sizes marks (bool_number b)
IsOperand-operand (name v) known sizes marks free scope is fits = IsOperand-name v known sizes marks scope is
IsOperand-operand (pair o place left right) known sizes marks free scope is fits =
    IsOperand-pair (known_value (pair o place left right)) sizes marks (value_lines (reg.Temp free) (pair o place left right) free) free (omega (arith, fits)) (value_lines-written (pair o place left right) (reg.Temp free) free marks)

-- the lines of expressions

pub line-allowed : (line : Line) (sizes : Sizes) (part : Part) (ends : Bool) (marks : Marks) → rule_failed sizes part ends marks line.instr ≡ None → AreAllowed sizes part ends marks (line ∷ [])
line-allowed line sizes part true marks none = (none, tt)
line-allowed line sizes part false marks none = (none, tt)

pub operation_lines-allowed : (o : Op) (to : Reg) (place : Place) (left right : Term) (known : KnownNames) (sizes : Sizes) (part : Part) (ends : Bool) (marks : Marks) (free : ℕ)
    → IsScope known sizes marks → is_term known left ≡ true → is_term known right ≡ true → need_of left + free ≤ 8 → need_of right + first_free_after left free ≤ 8
    → AreAllowed sizes part false marks (operand_lines left free)
    → AreAllowed sizes part false (after (operand_lines left free) marks) (operand_lines right (first_free_after left free))
    → ((later : Marks) → Grows marks later → IsOperand sizes later (operand left free) → IsOperand sizes later (operand right (first_free_after left free))
    → rule_failed sizes part ends later (record { op = o; to = to; left = operand left free; right = operand right (first_free_after left free) }) ≡ None)
    → AreAllowed sizes part ends marks (operation_lines o to place left (value_lines (reg.Temp free) left free) right (value_lines (reg.Temp (first_free_after left free)) right (first_free_after left free)) free)
operation_lines-allowed o to place left right known sizes part ends marks free scope is_left is_right left_fits right_fits left_allowed right_allowed none =
    let next = first_free_after left free in
    let line : Line = code_line o to (operand left free) (operand right next) place in
    let first = operand_lines left free in
    let second = operand_lines right next in
    let between = after first marks in
    let later = after second between in
    let to_between = after-grows first marks in
    let to_later = after-grows second between in
    let goes_on = and_right ends false refl in
    AreAllowed-append first (second ++ line ∷ []) sizes part ends marks left_allowed (is_end-append second (line ∷ []) ends goes_on)
    (AreAllowed-append second (line ∷ []) sizes part ends between right_allowed goes_on
    (line-allowed line sizes part ends later
    (none later
    (Grows-trans marks between later to_between to_later)
    (IsOperand-grows sizes between later (operand left free) to_later (IsOperand-operand left known sizes marks free scope is_left left_fits))
    (IsOperand-operand right known sizes between next (IsScope-grows known sizes marks between to_between scope) is_right right_fits))))

unless_known-allowed : (value : Option ℕ) (to : Reg) (sizes : Sizes) (part : Part) (ends : Bool) (marks : Marks) (lines : List Line) → IsTarget sizes part ends to → AreAllowed sizes part ends marks lines → AreAllowed sizes part ends marks (unless_known value to lines)
unless_known-allowed (Some value) to sizes part ends marks lines target allowed =
    line-allowed (bind_line to (reg.Imm value)) sizes part ends marks (bind-none to (reg.Imm value) sizes part ends marks target (IsOperand-imm sizes marks value))
unless_known-allowed None to sizes part ends marks lines target allowed = allowed

pub value_lines-allowed : (term : Term) (to : Reg) (free : ℕ) (known : KnownNames) (sizes : Sizes) (part : Part) (ends : Bool) (marks : Marks) → IsScope known sizes marks → is_term known term ≡ true → need_of term + free ≤ 8 → IsTarget sizes part ends to → AreAllowed sizes part ends marks (value_lines to term free)
value_lines-allowed (number n) to free known sizes part ends marks scope is fits target =
    line-allowed (bind_line to (reg.Imm n)) sizes part ends marks (bind-none to (reg.Imm n) sizes part ends marks target (IsOperand-imm sizes marks n))
value_lines-allowed (truth b) to free known sizes part ends marks scope is fits target =
    line-allowed (bind_line to (reg.Imm (bool_number b))) sizes part ends marks (bind-none to (reg.Imm (bool_number b)) sizes part ends marks target (IsOperand-imm sizes marks (bool_number b)))
value_lines-allowed (name v) to free known sizes part ends marks scope is fits target =
    line-allowed (bind_line to (variable_reg v)) sizes part ends marks (bind-none to (variable_reg v) sizes part ends marks target (IsOperand-name v known sizes marks scope is))
value_lines-allowed (pair o place left right) to free known sizes part ends marks scope is fits target =
    let parts = and_parts (is_term known left) (is_term known right) is in
    let next = first_free_after left free in
    let left_fits : need_of left + free ≤ 8 = omega (arith, fits) in
    let right_fits : need_of right + next ≤ 8 = omega (arith, fits, first_free_after-le left free) in
    let between = after (operand_lines left free) marks in
    unless_known-allowed (known_value (pair o place left right)) to sizes part ends marks _ target
    (operation_lines-allowed (op.Pair o) to place left right known sizes part ends marks free scope parts.0 parts.1 left_fits right_fits
    (operand_lines-allowed left sizes part marks free left_fits (λ below. value_lines-allowed left (reg.Temp free) free known sizes part false marks scope parts.0 left_fits (IsTarget-temp sizes part free below)))
    (operand_lines-allowed right sizes part between next right_fits (λ below. value_lines-allowed right (reg.Temp next) next known sizes part false between (IsScope-grows known sizes marks between (after-grows (operand_lines left free) marks) scope) parts.1 right_fits (IsTarget-temp sizes part next below)))
    (λ later grows first second. pair-none o to (operand left free) (operand right next) sizes part ends later target first second))
