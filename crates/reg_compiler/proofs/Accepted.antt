-- The code of a valid program that isn't refused is accepted.
use Rattle.std.proofs.Common.{◌≡◌, refl, ap, ap₂, sym, ◌∙◌, ℕ, ◌+◌, ◌-◌, ◌≤◌, Bool, true, false, ◌&&◌, ◌||◌, ◌==◌, nat_lt, nat_le, IsTrue, Option, Some, None, List, [], ◌∷◌, ◌++◌, length, map, take, drop, arith, length-append, leb-true, le-ltb, ne_eqb}
use Rattle.std.proofs.lemmas.Bool.{and_parts, or_from}
use Rattle.std.proofs.lemmas.List.{length-map}
use Rattle.portus_core.specs.Programs.{Term, number, truth, name, pair, Part, Form}
use Rattle.portus_core.specs.ValidPrograms.{is_condition, is_term, term_is_truth, is_body, is_part, are_parts, known_of, is_valid}
use Rattle.reg_code.specs.declared.code.Event.{Event}
use Rattle.reg_code.specs.declared.code.Implicit.TheVariants.{Flag}
use Rattle.reg_code.specs.declared.code.Instr.{Instr}
use Rattle.reg_code.specs.declared.code.Op.TheVariants as op
use Rattle.reg_code.specs.declared.code.Reg.{Reg}
use Rattle.reg_code.specs.declared.code.Reg.TheVariants as reg
use Rattle.reg_code.specs.declared.rule.Part.TheVariants.{Condition, Body}
use Rattle.reg_code.specs.declared.rule.Rule.{Rule}
use Rattle.reg_code.specs.declared.rule.Rule.TheVariants as rule
use Rattle.reg_code.specs.declared.rule.Sizes.{Sizes}
use Rattle.reg_code.specs.CodeStep.{condition_of, event_body}
use Rattle.reg_code.specs.AcceptedCode.{refusal_where, Marks, no_marks, marks_after, part_refusal, event_refusal, instrs_refusal, events_refusal, counts_refusal, sizes_of, IsAccepted}
use Rattle.reg_code.specs.AcceptedLaws.{none-first, none-next}
use Rattle.reg_compiler.specs.declared.line.Line.{Line}
use Rattle.reg_compiler.specs.Known.{known_value}
use Rattle.reg_compiler.specs.Needs.{deep_term, deep_body, deep_parts, deep_form}
use Rattle.reg_compiler.specs.Counts.{form_count}
use Rattle.reg_compiler.specs.Simulation.{register_start}
use Rattle.reg_compiler.specs.CompiledCode.{code_line, direct_operand, operand, first_free_after, unless_direct, unless_known, value_lines, body_lines, condition_lines, lines_of, event_of, instr_of, code_of}
use Rattle.reg_compiler.proofs.Sizes.{length-lines, lean-count}
use Rattle.reg_compiler.proofs.AllowedLines.{after, or_else-none, condition-none, body-none}
use Rattle.reg_compiler.proofs.AllowedInstrs.{IsTarget-flag}
use Rattle.reg_compiler.proofs.AllowedExpressions.{IsScope, value_lines-allowed}
use Rattle.reg_compiler.proofs.AllowedCommands.{body-allowed}
use Rattle.reg_compiler.proofs.BlockRuns.{take-own, drop-own}
use Rattle.reg_compiler.proofs.FittingNeeds.{fits-term}

refusal_where-none : (fails : Bool) (which : Rule) (index : ℕ) → fails ≡ false → refusal_where fails which index ≡ None
refusal_where-none true which index is = cc
refusal_where-none false which index is = refl

-- one event

event-none : (sizes : Sizes) (event : Event) (index : ℕ) (instrs condition body : List Instr) → condition_of event instrs ≡ condition → event_body event instrs ≡ body
    → part_refusal sizes Condition index no_marks condition ≡ None
    → part_refusal sizes Body (index + event.condition) (marks_after condition no_marks) body ≡ None
    → event_refusal sizes event index instrs ≡ None
event-none sizes event index instrs condition body is_condition is_body condition_none body_none =
    or_else-none _ _
    (ap (part_refusal sizes Condition index no_marks) is_condition ∙ condition_none)
    (ap₂ (λ condition body. part_refusal sizes Body (index + event.condition) (marks_after condition no_marks) body) is_condition is_body ∙ body_none)

-- a block begins without locals
IsScope-block : (form : Form) (marks : Marks) → IsScope (known_of form) (sizes_of (code_of form)) marks
IsScope-block form marks = record {
  fields = sym (length-map form.fields register_start);
  controls = sym (length-map form.controls register_start);
  few = omega arith;
  locals = λ i below. absurd (omega (arith, below));
}

instrs-none : (parts : List Part) (form : Form) (index : ℕ) → are_parts (known_of form) parts ≡ true → deep_parts parts ≡ None
    → instrs_refusal (sizes_of (code_of form)) (map event_of parts) index (map instr_of (lines_of parts)) ≡ None
instrs-none [] form index is none = refl
instrs-none (part ∷ rest) form index is none =
    let known = known_of form in
    let sizes = sizes_of (code_of form) in
    let condition = condition_lines part.condition in
    let body = body_lines part.body in
    let lines = lines_of rest in
    let event = event_of part in
    let instrs = map instr_of (condition ++ (body ++ lines)) in
    let between = after condition no_marks in
    let split = and_parts (is_part known part) (are_parts known rest) is in
    let own = and_parts (is_condition known part.condition) (is_body known part.locals part.body) split.0 in
    let term_is = (and_parts (is_term known part.condition) (term_is_truth known part.condition) own.0).0 in
    let after_term = none-next (deep_term part.condition) _ none in
    let term_fits = fits-term part.condition (none-first (deep_term part.condition) _ none) in
    let cut = drop-own condition (body ++ lines) in
    or_else-none (event_refusal sizes event index instrs) _
    (event-none sizes event index instrs (map instr_of condition) (map instr_of body)
    (take-own condition (body ++ lines))
    (ap (take (length body)) cut ∙ take-own body lines)
    (condition-none condition sizes index no_marks (value_lines-allowed part.condition (reg.Implicit Flag) 0 known sizes Condition true no_marks (IsScope-block form no_marks) term_is (omega (arith, term_fits)) (IsTarget-flag sizes)))
    (body-none body sizes (index + event.condition) between (body-allowed part.body known part.locals sizes between (IsScope-block form between) own.1 (none-first (deep_body part.body) _ after_term))))
    (ap (instrs_refusal sizes (map event_of rest) (index + event.condition + event.body)) (ap (drop (length body)) cut ∙ drop-own body lines)
    ∙ instrs-none rest form (index + event.condition + event.body) split.1 (none-next (deep_body part.body) _ after_term))

-- the events fill the lines

unless_known-some : (value : Option ℕ) (to : Reg) (lines : List Line) → 1 ≤ length lines → 1 ≤ length (unless_known value to lines)
unless_known-some (Some value) to lines some = omega arith
unless_known-some None to lines some = some

value_lines-some : (term : Term) (to : Reg) (free : ℕ) → 1 ≤ length (value_lines to term free)
value_lines-some (number n) to free = omega arith
value_lines-some (truth b) to free = omega arith
value_lines-some (name v) to free = omega arith
value_lines-some (pair o place left right) to free =
    let first = unless_direct (direct_operand left) (value_lines (reg.Temp free) left free) in
    let second = unless_direct (direct_operand right) (value_lines (reg.Temp (first_free_after left free)) right (first_free_after left free)) in
    let last : List Line = code_line (op.Pair o) to (operand left free) (operand right (first_free_after left free)) place ∷ [] in
    unless_known-some (known_value (pair o place left right)) to (first ++ (second ++ last)) (omega (arith, length-append first (second ++ last), length-append second last))

events-none : (parts : List Part) (index : ℕ) → events_refusal (map event_of parts) index (length (lines_of parts)) ≡ None
events-none [] index = refl
events-none (part ∷ rest) index =
    let condition = condition_lines part.condition in
    let body = body_lines part.body in
    let lines = lines_of rest in
    let all = length (condition ++ (body ++ lines)) in
    let own = length condition + length body in
    let some = value_lines-some part.condition (reg.Implicit Flag) 0 in
    let whole : all ≡ length condition + (length body + length lines) = omega (arith, length-append condition (body ++ lines), length-append body lines) in
    let left : all - own ≡ length lines = omega (arith, whole) in
    or_else-none (refusal_where ((length condition == 0) || nat_lt all own) rule.Events index) _
    (refusal_where-none _ rule.Events index
    (or_from (length condition == 0) (nat_lt all own)
    (ne_eqb (length condition) 0 (λ is. omega (arith, is, some)))
    (le-ltb all own (omega (arith, whole)))))
    (ap (events_refusal (map event_of rest) (index + 1)) left ∙ events-none rest (index + 1))

-- the counts are within the limits

record Few (form : Form) : Type 0 where
  fields : length form.fields ≤ 64
  controls : length form.controls ≤ 64
  blocks : length form.blocks ≤ 64
  parts : are_parts (known_of form) form.blocks ≡ true

Few-valid : (form : Form) → is_valid form ≡ true → Few form
Few-valid form valid =
    let fields = nat_le (length form.fields) 64 in
    let controls = nat_le (length form.controls) 64 in
    let blocks = nat_le (length form.blocks) 64 in
    let all = and_parts (fields && controls && blocks) (are_parts (known_of form) form.blocks) valid in
    let three = and_parts (fields && controls) blocks all.0 in
    let two = and_parts fields controls three.0 in
    record {
      fields = leb-true (length form.fields) 64 two.0;
      controls = leb-true (length form.controls) 64 two.1;
      blocks = leb-true (length form.blocks) 64 three.1;
      parts = all.1;
    }

counts-none : (form : Form) → Few form → form_count form ≤ 256 → counts_refusal (code_of form) ≡ None
counts-none form few within =
    let code = code_of form in
    or_else-none _ _ (or_else-none _ _ (or_else-none _ _
    (refusal_where-none _ rule.Counts 0 (le-ltb 64 (length code.reports) (omega (arith, few.fields, length-map form.fields register_start))))
    (refusal_where-none _ rule.Counts 1 (le-ltb 64 (length code.controls) (omega (arith, few.controls, length-map form.controls register_start)))))
    (refusal_where-none _ rule.Counts 2 (le-ltb 64 (length code.events) (omega (arith, few.blocks, length-map form.blocks event_of)))))
    (refusal_where-none _ rule.Counts 3 (le-ltb 256 (length code.instrs) (omega (arith, within, length-lines form, lean-count form, length-map (lines_of form.blocks) instr_of))))

-- the code of a valid program is accepted, unless an expression is too deep or the count is too large
pub IsAccepted-compiled : (form : Form) → IsTrue (is_valid form) → deep_form form ≡ None → form_count form ≤ 256 → IsAccepted (code_of form)
IsAccepted-compiled form valid none within =
    let few = Few-valid form valid in
    or_else-none _ _ (or_else-none _ _
    (counts-none form few within)
    (ap (events_refusal (map event_of form.blocks) 0) (length-map (lines_of form.blocks) instr_of) ∙ events-none form.blocks 0))
    (instrs-none form.blocks form 0 few.parts none)
