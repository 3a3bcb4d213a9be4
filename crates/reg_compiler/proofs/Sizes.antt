-- A program's code is at most as long as its lean count, which is at most its count.
use Rattle.std.proofs.Common.{ℕ, ◌+◌, ◌≤◌, max, Option, Some, None, option_map, List, [], ◌∷◌, ◌++◌, length, arith, length-append}
use Rattle.ccp_base.specs.declared.place.Place.{Place}
use Rattle.portus_core.specs.Programs.{Term, number, truth, name, pair, Action, set, set_if, set_unless, ewma, zero_micros, report, fall, Part, Form}
use Rattle.reg_code.specs.declared.code.Implicit.TheVariants.{Flag}
use Rattle.reg_code.specs.declared.code.Op.{Op}
use Rattle.reg_code.specs.declared.code.Op.TheVariants as op
use Rattle.reg_code.specs.declared.code.Reg.{Reg}
use Rattle.reg_code.specs.declared.code.Reg.TheVariants as reg
use Rattle.reg_compiler.specs.declared.line.Line.{Line}
use Rattle.reg_compiler.specs.Known.{known_value}
use Rattle.reg_compiler.specs.Counts.{term_count, action_count, body_count, parts_count, form_count, lean_where, lean_of, action_lean, body_lean, parts_lean, lean}
use Rattle.reg_compiler.specs.CompiledCode.{variable_reg, code_line, direct_operand, operand, first_free_after, unless_direct, operation_lines, unless_known, value_lines, both_into, action_lines, body_lines, condition_lines, lines_of}

unless_known-length : (known : Option ℕ) (to : Reg) (lines : List Line) (few : ℕ) → length lines ≤ few → length (unless_known known to lines) ≤ max 1 (lean_where known few)
unless_known-length (Some value) to lines few within = omega arith
unless_known-length None to lines few within = omega (arith, within)

-- the lines of a pair as an operand: none if it is known
unless_direct-length : (known : Option ℕ) (lines : List Line) (few : ℕ) → 1 ≤ few → length lines ≤ max 1 (lean_where known few) → length (unless_direct (option_map reg.Imm known) lines) ≤ lean_where known few
unless_direct-length (Some value) lines few some within = omega arith
unless_direct-length None lines few some within = omega (arith, some, within)

operand-length : (term : Term) (lines : List Line) → length lines ≤ max 1 (lean_of term) → length (unless_direct (direct_operand term) lines) ≤ lean_of term
operand-length (number n) lines within = omega arith
operand-length (truth b) lines within = omega arith
operand-length (name v) lines within = omega arith
operand-length (pair o place left right) lines within = unless_direct-length (known_value (pair o place left right)) lines (1 + (lean_of left + lean_of right)) (omega arith) within

operation_lines-length : (o : Op) (to : Reg) (place : Place) (left : Term) (left_lines : List Line) (right : Term) (right_lines : List Line) (free : ℕ) → length left_lines ≤ max 1 (lean_of left) → length right_lines ≤ max 1 (lean_of right) → length (operation_lines o to place left left_lines right right_lines free) ≤ 1 + (lean_of left + lean_of right)
operation_lines-length o to place left left_lines right right_lines free left_few right_few =
    let first = unless_direct (direct_operand left) left_lines in
    let second = unless_direct (direct_operand right) right_lines in
    let last : List Line = code_line o to (operand left free) (operand right (first_free_after left free)) place ∷ [] in
    omega (arith, length-append first (second ++ last), length-append second last, operand-length left left_lines left_few, operand-length right right_lines right_few)

value_lines-length : (term : Term) (to : Reg) (free : ℕ) → length (value_lines to term free) ≤ max 1 (lean_of term)
value_lines-length (number n) to free = omega arith
value_lines-length (truth b) to free = omega arith
value_lines-length (name v) to free = omega arith
value_lines-length (pair o place left right) to free =
    unless_known-length (known_value (pair o place left right)) to _ (1 + (lean_of left + lean_of right))
    (operation_lines-length (op.Pair o) to place left (value_lines (reg.Temp free) left free) right (value_lines (reg.Temp (first_free_after left free)) right (first_free_after left free)) free (value_lines-length left (reg.Temp free) free) (value_lines-length right (reg.Temp (first_free_after left free)) (first_free_after left free)))

both_into-length : (o : Op) (to : Reg) (place : Place) (left right : Term) → length (both_into o to place left right) ≤ 1 + (lean_of left + lean_of right)
both_into-length o to place left right =
    operation_lines-length o to place left (value_lines (reg.Temp 0) left 0) right (value_lines (reg.Temp (first_free_after left 0)) right (first_free_after left 0)) 0 (value_lines-length left (reg.Temp 0) 0) (value_lines-length right (reg.Temp (first_free_after left 0)) (first_free_after left 0))

action-length : (action : Action) → length (action_lines action) ≤ action_lean action
action-length (set v term) = value_lines-length term (variable_reg v) 0
action-length (set_if place v condition term) = both_into-length op.If (variable_reg v) place condition term
action-length (set_unless place v condition term) = both_into-length op.NotIf (variable_reg v) place condition term
action-length (ewma place v weight term) = omega (arith, both_into-length op.Ewma (variable_reg v) place (number weight) term)
action-length zero_micros = omega arith
action-length report = omega arith
action-length fall = omega arith

body-length : (body : List Action) → length (body_lines body) ≤ body_lean body
body-length [] = omega arith
body-length (action ∷ rest) = omega (arith, length-append (action_lines action) (body_lines rest), action-length action, body-length rest)

parts-length : (parts : List Part) → length (lines_of parts) ≤ parts_lean parts
parts-length [] = omega arith
parts-length (part ∷ rest) =
    omega (
      arith,
      length-append (condition_lines part.condition) (body_lines part.body ++ lines_of rest),
      length-append (body_lines part.body) (lines_of rest),
      value_lines-length part.condition (reg.Implicit Flag) 0,
      body-length part.body,
      parts-length rest,
    )

-- the lines are at most as many as the lean count
pub length-lines : (form : Form) → length (lines_of form.blocks) ≤ lean form
length-lines form = parts-length form.blocks

lean_where-le : (known : Option ℕ) (few many : ℕ) → few ≤ many → lean_where known few ≤ many
lean_where-le (Some value) few many within = omega arith
lean_where-le None few many within = within

lean_of-le : (term : Term) → lean_of term ≤ term_count term
lean_of-le (number n) = omega arith
lean_of-le (truth b) = omega arith
lean_of-le (name v) = omega arith
lean_of-le (pair o place left right) = lean_where-le (known_value (pair o place left right)) (1 + (lean_of left + lean_of right)) _ (omega (arith, lean_of-le left, lean_of-le right))

action_lean-le : (action : Action) → action_lean action ≤ action_count action
action_lean-le (set v term) = omega (arith, lean_of-le term)
action_lean-le (set_if place v condition term) = omega (arith, lean_of-le condition, lean_of-le term)
action_lean-le (set_unless place v condition term) = omega (arith, lean_of-le condition, lean_of-le term)
action_lean-le (ewma place v weight term) = omega (arith, lean_of-le term)
action_lean-le zero_micros = omega arith
action_lean-le report = omega arith
action_lean-le fall = omega arith

body_lean-le : (body : List Action) → body_lean body ≤ body_count body
body_lean-le [] = omega arith
body_lean-le (action ∷ rest) = omega (arith, action_lean-le action, body_lean-le rest)

parts_lean-le : (parts : List Part) → parts_lean parts ≤ parts_count parts
parts_lean-le [] = omega arith
parts_lean-le (part ∷ rest) = omega (arith, lean_of-le part.condition, body_lean-le part.body, parts_lean-le rest)

-- the lean count is at most the count
pub lean-count : (form : Form) → lean form ≤ form_count form
lean-count form = parts_lean-le form.blocks
