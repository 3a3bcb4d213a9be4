-- The lines of an expression put its value into a register.
use Rattle.std.proofs.Common.{◌≡◌, refl, sym, ap, ◌∙◌, ℕ, ◌≤◌, true, Option, Some, None, Result, Ok, Err, List, [], arith}
use Rattle.std.proofs.lemmas.Bool.{and_parts}
use Rattle.ccp_base.specs.declared.ack.Ack.{Ack}
use Rattle.ccp_base.specs.declared.arithmetic.FaultKind.{FaultKind}
use Rattle.ccp_base.specs.declared.place.Place.{Place}
use Rattle.ccp_base.specs.Acknowledgement.{bool_number}
use Rattle.portus_core.specs.declared.env.Env.{Env}
use Rattle.ccp_base.specs.declared.operation.Op2.{Op2}
use Rattle.portus_core.specs.Programs.{Term, number, truth, name, pair}
use Rattle.ccp_base.specs.Chaining.{then_do as then_value}
use Rattle.portus_core.specs.Value.{Cause, Locals, at_place, value_of}
use Rattle.ccp_base.specs.Operations.{apply}
use Rattle.portus_core.specs.ValidPrograms.{KnownNames, is_term}
use Rattle.reg_code.specs.declared.code.Reg.{Reg}
use Rattle.reg_code.specs.declared.code.Reg.TheVariants as reg
use Rattle.ccp_base.specs.Chaining.{then_do}
use Rattle.reg_code.specs.CodeStep.{Variables, Regs, with_written, put, effect, with_operand}
use Rattle.reg_code.specs.declared.code.Op.{Op}
use Rattle.reg_code.specs.declared.code.Op.TheVariants as op
use Rattle.reg_compiler.specs.declared.line.Line.{Line}
use Rattle.reg_compiler.specs.Known.{known_value}
use Rattle.reg_compiler.specs.CompiledCode.{no_place, direct_operand, operand, next_free, first_free_after, unless_direct, operation_lines, unless_known, value_lines}
use Rattle.reg_compiler.proofs.LineRuns.{Halt, placed, run_lines, halting, with_temps, Comes}
use Rattle.reg_compiler.proofs.OperandRuns.{Reads, Reads-with_temps, Works, Works-direct_operand, Works-name, Works-pair, operated, Comes-operation_lines}
use Rattle.reg_compiler.proofs.KnownLaws.{known_value-value}

pub placed-put : (place : Place) (to : Reg) (result : Result ℕ FaultKind) (ack : Ack) (regs : Regs) → placed place (put to result ack regs) ≡ halting (at_place place result) (λ value. Ok (with_written to value ack regs))
placed-put place to (Ok value) ack regs = refl
placed-put place to (Err kind) ack regs = refl

-- the code's operation is the source's
placed-effect : (o : Op2) (to : Reg) (place : Place) (a b : ℕ) (ack : Ack) (regs : Regs) → placed place (effect (op.Pair o) to a b ack regs) ≡ halting (at_place place (apply o a b)) (λ value. Ok (with_written to value ack regs))
placed-effect o to place a b ack regs = placed-put place to (apply o a b) ack regs

-- an expression's value in a register
abbrev pub told : Result ℕ Cause → Reg → Ack → Regs → Variables → Result Regs Halt
told result to ack regs temps = halting result (λ value. Ok (with_written to value ack (with_temps regs temps)))

operated-told : (o : Op2) (to : Reg) (place : Place) (left right : Result ℕ Cause) (ack : Ack) (regs : Regs) (temps : Variables)
    → operated (op.Pair o) to place left right ack regs temps ≡ told (then_value left (λ a. then_value right (λ b. at_place place (apply o a b)))) to ack regs temps
operated-told o to place (Ok a) (Ok b) ack regs temps = placed-effect o to place a b ack (with_temps regs temps)
operated-told o to place (Ok a) (Err cause) ack regs temps = refl
operated-told o to place (Err cause) right ack regs temps = refl

pub Comes-as : (lines : List Line) (free : ℕ) (ack : Ack) (regs : Regs) (outcome other : Variables → Result Regs Halt) → ((temps : Variables) → outcome temps ≡ other temps) → Comes lines free ack regs outcome → Comes lines free ack regs other
Comes-as lines free ack regs outcome other is comes = record { temps = comes.temps; same = comes.same; ran = comes.ran ∙ is comes.temps }

-- a known value is bound
Comes-known : (known : Option ℕ) (result : Result ℕ Cause) (to : Reg) (lines : List Line) (free : ℕ) (ack : Ack) (regs : Regs)
    → ((value : ℕ) → known ≡ Some value → result ≡ Ok value) → Comes lines free ack regs (told result to ack regs) → Comes (unless_known known to lines) free ack regs (told result to ack regs)
Comes-known (Some value) result to lines free ack regs is comes = record {
  temps = regs.temps;
  same = λ i below. refl;
  ran = ap (λ result. told result to ack regs regs.temps) (sym (is value refl));
}
Comes-known None result to lines free ack regs is comes = comes

-- the operand of an expression whose lines put its value into a temporary
pub Works-operand : (known : KnownNames) (env : Env) (locals : Locals) (term : Term) (free : ℕ) (ack : Ack) (regs : Regs)
    → Reads known env locals ack regs → is_term known term ≡ true
    → Comes (value_lines (reg.Temp free) term free) free ack regs (told (value_of term env locals ack) (reg.Temp free) ack regs)
    → Works (value_of term env locals ack) (unless_direct (direct_operand term) (value_lines (reg.Temp free) term free)) (operand term free) free (first_free_after term free) ack regs
Works-operand known env locals (number n) free ack regs reads is comes = Works-direct_operand (reg.Imm n) n free ack regs (λ more. refl)
Works-operand known env locals (truth b) free ack regs reads is comes = Works-direct_operand (reg.Imm (bool_number b)) (bool_number b) free ack regs (λ more. refl)
Works-operand known env locals (name v) free ack regs reads is comes = Works-name known env locals v free ack regs reads is
Works-operand known env locals (pair o place left right) free ack regs reads is comes =
    Works-pair (known_value (pair o place left right)) (value_of (pair o place left right) env locals ack) (value_lines (reg.Temp free) (pair o place left right) free) free ack regs
    (λ value known. known_value-value (pair o place left right) value env locals ack known) comes

next_free-grows : (from : Option Reg) (free : ℕ) → free ≤ next_free from free
next_free-grows (Some from) free = omega arith
next_free-grows None free = omega arith

-- the lines of two expressions, and then an operation on their values
pub Comes-both : (known : KnownNames) (env : Env) (locals : Locals) (o : Op) (to : Reg) (place : Place) (left right : Term) (free : ℕ) (ack : Ack) (regs : Regs)
    → Reads known env locals ack regs → is_term known left ≡ true → is_term known right ≡ true
    → Comes (value_lines (reg.Temp free) left free) free ack regs (told (value_of left env locals ack) (reg.Temp free) ack regs)
    → ((temps : Variables) → Comes (value_lines (reg.Temp (first_free_after left free)) right (first_free_after left free)) (first_free_after left free) ack (with_temps regs temps) (told (value_of right env locals ack) (reg.Temp (first_free_after left free)) ack (with_temps regs temps)))
    → Comes (operation_lines o to place left (value_lines (reg.Temp free) left free) right (value_lines (reg.Temp (first_free_after left free)) right (first_free_after left free)) free) free ack regs
    (operated o to place (value_of left env locals ack) (value_of right env locals ack) ack regs)
Comes-both known env locals o to place left right free ack regs reads is_left is_right left_comes right_comes =
    let later = first_free_after left free in
    Comes-operation_lines o to place (value_of left env locals ack) (value_of right env locals ack)
    (unless_direct (direct_operand left) (value_lines (reg.Temp free) left free)) (unless_direct (direct_operand right) (value_lines (reg.Temp later) right later))
    (operand left free) (operand right later) free later (first_free_after right later) ack regs
    (next_free-grows (direct_operand left) free)
    (Works-operand known env locals left free ack regs reads is_left left_comes)
    (λ temps. Works-operand known env locals right later ack (with_temps regs temps) (Reads-with_temps known env locals ack regs temps reads) is_right (right_comes temps))

-- whatever the register, if every name is read from its own
pub Comes-value_lines : (known : KnownNames) (env : Env) (locals : Locals) (to : Reg) (term : Term) (free : ℕ) (ack : Ack) (regs : Regs)
    → Reads known env locals ack regs → is_term known term ≡ true → Comes (value_lines to term free) free ack regs (told (value_of term env locals ack) to ack regs)
Comes-value_lines known env locals to (number n) free ack regs reads is = record { temps = regs.temps; same = λ i below. refl; ran = refl }
Comes-value_lines known env locals to (truth b) free ack regs reads is = record { temps = regs.temps; same = λ i below. refl; ran = refl }
Comes-value_lines known env locals to (name v) free ack regs reads is = record {
  temps = regs.temps;
  same = λ i below. refl;
  ran = ap (λ read. then_do (placed no_place (with_operand read (λ a. with_operand (Some 0) (λ b. effect op.Bind to a b ack regs)))) (run_lines [] ack)) (reads v is);
}
Comes-value_lines known env locals to (pair o place left right) free ack regs reads is =
    let later = first_free_after left free in
    let is_left = (and_parts (is_term known left) (is_term known right) is).0 in
    let is_right = (and_parts (is_term known left) (is_term known right) is).1 in
    Comes-known (known_value (pair o place left right)) (value_of (pair o place left right) env locals ack) to
    (operation_lines (op.Pair o) to place left (value_lines (reg.Temp free) left free) right (value_lines (reg.Temp later) right later) free) free ack regs
    (λ value known. known_value-value (pair o place left right) value env locals ack known)
    (Comes-as (operation_lines (op.Pair o) to place left (value_lines (reg.Temp free) left free) right (value_lines (reg.Temp later) right later) free) free ack regs
    (operated (op.Pair o) to place (value_of left env locals ack) (value_of right env locals ack) ack regs)
    (told (value_of (pair o place left right) env locals ack) to ack regs)
    (operated-told o to place (value_of left env locals ack) (value_of right env locals ack) ack regs)
    (Comes-both known env locals (op.Pair o) to place left right free ack regs reads is_left is_right
    (Comes-value_lines known env locals (reg.Temp free) left free ack regs reads is_left)
    (λ temps. Comes-value_lines known env locals (reg.Temp later) right later ack (with_temps regs temps) (Reads-with_temps known env locals ack regs temps reads) is_right)))
