-- The lines of a command and of a body do what they do to the source's state.
use Rattle.std.proofs.Common.{◌≡◌, refl, ap, ◌∙◌, ℕ, ◌^◌, nat_le, not, ◌&&◌, ◌||◌, Bool, true, false, inl, inr, Some, Result, Ok, Err, List, [], ◌∷◌, ◌++◌, length, arith}
use Rattle.std.proofs.lemmas.Bool.{and_parts, or_cases, ltb-true, lt-ltb, leb-true}
use Rattle.std.proofs.lemmas.Option.{slice_get-get_or}
use Rattle.std.specs.Prelude.{IfOk}
use Rattle.ccp_base.specs.declared.ack.Ack.{Ack}
use Rattle.ccp_base.specs.Limits.{primitive_count}
use Rattle.ccp_base.specs.declared.place.Place.{Place}
use Rattle.ccp_base.specs.Acknowledgement.{bool_number, primitives}
use Rattle.ccp_base.specs.Limits.{primitive_count}
use Rattle.portus_core.specs.declared.program.Var.{Var}
use Rattle.portus_core.specs.declared.program.Var.TheVariants as var
use Rattle.portus_core.specs.Programs.{Term, number, Action, set, set_if, set_unless, ewma, zero_micros, report, fall}
use Rattle.ccp_base.specs.Chaining.{then_do as then_value}
use Rattle.ccp_base.specs.Truth.{is_true}
use Rattle.portus_core.specs.Value.{Cause, at_place, read_of}
use Rattle.ccp_base.specs.Blending.{moving_average}
use Rattle.portus_core.specs.Command.{Going, written_where, value_in, command_of, run_commands}
use Rattle.portus_core.specs.Command as source
use Rattle.portus_core.specs.ValidPrograms.{KnownNames, is_known, is_term, is_truth, is_writable, is_target, is_next_local, is_condition, fits_target, term_is_truth, is_action, known_after, is_body}
use Rattle.reg_code.specs.declared.code.Op.{Op}
use Rattle.reg_code.specs.declared.code.Op.TheVariants as op
use Rattle.ccp_base.specs.Chaining.{then_do}
use Rattle.reg_code.specs.CodeStep.{Variables, Regs, register_value, with_written, put, with_operand}
use Rattle.ccp_base.specs.Blending.{moving_average as mixed_as}
use Rattle.reg_code.specs.CodeStep as code
use Rattle.reg_compiler.specs.declared.line.Line.{Line}
use Rattle.reg_compiler.specs.Simulation.{kept_of}
use Rattle.reg_compiler.specs.CompiledCode.{variable_reg, first_free_after, value_lines, both_into, action_lines, body_lines}
use Rattle.reg_compiler.proofs.LineRuns.{Halt, placed, run_lines, halting, Comes, run_lines-append}
use Rattle.reg_compiler.proofs.OperandRuns.{Reads, operated}
use Rattle.reg_compiler.proofs.ExpressionRuns.{placed-put, told, Comes-as, Comes-both, Comes-value_lines}
use Rattle.reg_compiler.proofs.BodyShapes.{Fits, Fits-command}

-- the registers that hold the state of a body
abbrev pub regs_of : Going → ℕ → Variables → Regs
regs_of going flag temps = record {
  kept = kept_of going.env;
  flag = flag;
  fall = bool_number going.falls;
  send = bool_number going.asked;
  locals = going.locals;
  temps = temps;
}

-- what is left of the source's work, in registers
abbrev pub went : Result Going Cause → ℕ → Variables → Result Regs Halt
went result flag temps = halting result (λ going. Ok (regs_of going flag temps))

pub Reads-regs_of : (known : KnownNames) (going : Going) (flag : ℕ) (temps : Variables) (ack : Ack) → Fits known going → Reads known going.env going.locals ack (regs_of going flag temps)
Reads-regs_of known going flag temps ack fits (var.Field i) is =
    slice_get-get_or going.env.fields i 0 (omega (arith, ltb-true i (length known.fields) is, fits.sized.fields))
Reads-regs_of known going flag temps ack fits (var.Control i) is =
    slice_get-get_or going.env.controls i 0 (omega (arith, ltb-true i (length known.controls) is, fits.sized.controls))
Reads-regs_of known going flag temps ack fits (var.Local i) is = fits.locals i (ltb-true i (length known.locals) is)
Reads-regs_of known going flag temps ack fits (var.Prim n) is = slice_get-get_or (primitives ack) n 0 (ltb-true n primitive_count is)
Reads-regs_of known going flag temps ack fits var.Cwnd is = refl
Reads-regs_of known going flag temps ack fits var.Rate is = refl
Reads-regs_of known going flag temps ack fits var.Micros is = refl

written-regs_of : (v : Var) (value : ℕ) (ack : Ack) (going : Going) (flag : ℕ) (temps : Variables) → is_writable v ≡ true → with_written (variable_reg v) value ack (regs_of going flag temps) ≡ regs_of (source.with_written v value going) flag temps
written-regs_of (var.Field i) value ack going flag temps is = refl
written-regs_of (var.Control i) value ack going flag temps is = refl
written-regs_of (var.Local i) value ack going flag temps is = refl
written-regs_of var.Cwnd value ack going flag temps is = refl
written-regs_of var.Rate value ack going flag temps is = refl
written-regs_of var.Micros value ack going flag temps is = cc
written-regs_of (var.Prim n) value ack going flag temps is = cc

written_where-regs_of : (holds : Bool) (v : Var) (value : ℕ) (ack : Ack) (going : Going) (flag : ℕ) (temps : Variables) → is_writable v ≡ true → code.written_where holds (variable_reg v) value ack (regs_of going flag temps) ≡ regs_of (written_where holds v value going) flag temps
written_where-regs_of true v value ack going flag temps is = written-regs_of v value ack going flag temps is
written_where-regs_of false v value ack going flag temps is = refl

-- an assignment
told-went : (result : Result ℕ Cause) (v : Var) (ack : Ack) (going : Going) (flag : ℕ) (before temps : Variables) → is_writable v ≡ true
    → told result (variable_reg v) ack (regs_of going flag before) temps ≡ went (then_value result (λ value. Ok (source.with_written v value going))) flag temps
told-went (Ok value) v ack going flag before temps is = ap (λ (r : Regs). Ok r) (written-regs_of v value ack going flag temps is)
told-went (Err cause) v ack going flag before temps is = refl

-- an assignment if a condition holds
if-went : (condition result : Result ℕ Cause) (v : Var) (place : Place) (ack : Ack) (going : Going) (flag : ℕ) (before temps : Variables) → is_writable v ≡ true
    → operated op.If (variable_reg v) place condition result ack (regs_of going flag before) temps
    ≡ went (then_value condition (λ held. then_value result (λ value. Ok (written_where (is_true held) v value going)))) flag temps
if-went (Ok held) (Ok value) v place ack going flag before temps is = ap (λ (r : Regs). Ok r) (written_where-regs_of (is_true held) v value ack going flag temps is)
if-went (Ok held) (Err cause) v place ack going flag before temps is = refl
if-went (Err cause) result v place ack going flag before temps is = refl

unless-went : (condition result : Result ℕ Cause) (v : Var) (place : Place) (ack : Ack) (going : Going) (flag : ℕ) (before temps : Variables) → is_writable v ≡ true
    → operated op.NotIf (variable_reg v) place condition result ack (regs_of going flag before) temps
    ≡ went (then_value condition (λ held. then_value result (λ value. Ok (written_where (not (is_true held)) v value going)))) flag temps
unless-went (Ok held) (Ok value) v place ack going flag before temps is = ap (λ (r : Regs). Ok r) (written_where-regs_of (not (is_true held)) v value ack going flag temps is)
unless-went (Ok held) (Err cause) v place ack going flag before temps is = refl
unless-went (Err cause) result v place ack going flag before temps is = refl

-- a number moved towards a value
ewma-went : (result : Result ℕ Cause) (weight old : ℕ) (v : Var) (place : Place) (ack : Ack) (going : Going) (flag : ℕ) (before temps : Variables) → is_writable v ≡ true
    → register_value (variable_reg v) (regs_of going flag temps) ack ≡ Some old
    → operated op.Ewma (variable_reg v) place (Ok weight) result ack (regs_of going flag before) temps
    ≡ went (then_value result (λ value. then_value (at_place place (moving_average weight old value)) (λ mixed. Ok (source.with_written v mixed going)))) flag temps
ewma-went (Ok value) weight old v place ack going flag before temps is reads =
    ap (λ register_value. placed place (with_operand register_value (λ old. put (variable_reg v) (mixed_as weight old value) ack (regs_of going flag temps)))) reads
    ∙ placed-put place (variable_reg v) (mixed_as weight old value) ack (regs_of going flag temps)
    ∙ told-went (at_place place (moving_average weight old value)) v ack going flag before temps is
ewma-went (Err cause) weight old v place ack going flag before temps is reads = refl

Comes-operated : (known : KnownNames) (o : Op) (v : Var) (place : Place) (left right : Term) (ack : Ack) (going : Going) (flag : ℕ) (temps : Variables) → Fits known going → is_term known left ≡ true → is_term known right ≡ true
    → Comes (both_into o (variable_reg v) place left right) 0 ack (regs_of going flag temps) (operated o (variable_reg v) place (value_in left ack going) (value_in right ack going) ack (regs_of going flag temps))
Comes-operated known o v place left right ack going flag temps fits is_left is_right =
    let reads = Reads-regs_of known going flag temps ack fits in
    Comes-both known going.env going.locals o (variable_reg v) place left right 0 ack (regs_of going flag temps) reads is_left is_right
    (Comes-value_lines known going.env going.locals _ left 0 ack (regs_of going flag temps) reads is_left)
    (λ more. Comes-value_lines known going.env going.locals _ right (first_free_after left 0) ack (regs_of going flag more) (Reads-regs_of known going flag more ack fits) is_right)

target-writable : (known : KnownNames) (v : Var) (rest : Bool) → is_target known v && rest ≡ true → is_writable v ≡ true
target-writable known v rest is = (and_parts (is_known known v) (is_writable v) (and_parts (is_target known v) rest is).0).1

next-writable : (known : KnownNames) (v : Var) → is_next_local known v ≡ true → is_writable v ≡ true
next-writable known (var.Local i) is = refl
next-writable known (var.Field i) is = refl
next-writable known (var.Control i) is = refl
next-writable known var.Cwnd is = refl
next-writable known var.Rate is = refl
next-writable known var.Micros is = cc
next-writable known (var.Prim n) is = cc

Comes-set : (known : KnownNames) (v : Var) (term : Term) (ack : Ack) (going : Going) (flag : ℕ) (temps : Variables) → Fits known going → is_writable v ≡ true → is_term known term ≡ true
    → Comes (value_lines (variable_reg v) term 0) 0 ack (regs_of going flag temps) (went (command_of (set v term) ack going) flag)
Comes-set known v term ack going flag temps fits writable is =
    Comes-as (value_lines (variable_reg v) term 0) 0 ack (regs_of going flag temps) (told (value_in term ack going) (variable_reg v) ack (regs_of going flag temps)) (went (command_of (set v term) ack going) flag)
    (λ more. told-went (value_in term ack going) v ack going flag temps more writable)
    (Comes-value_lines known going.env going.locals (variable_reg v) term 0 ack (regs_of going flag temps) (Reads-regs_of known going flag temps ack fits) is)

pub Comes-command : (known : KnownNames) (action : Action) (ack : Ack) (going : Going) (flag : ℕ) (temps : Variables) → Fits known going → is_action known action ≡ true
    → Comes (action_lines action) 0 ack (regs_of going flag temps) (went (command_of action ack going) flag)
Comes-command known (set v term) ack going flag temps fits is = elim (or_cases (is_target known v && fits_target known v term) (is_next_local known v && is_term known term) is) [
  | inl target ↦ Comes-set known v term ack going flag temps fits (target-writable known v (fits_target known v term) target)
      (and_parts (is_term known term) (not (is_truth known v) || term_is_truth known term) (and_parts (is_target known v) (fits_target known v term) target).1).0
  | inr next ↦ Comes-set known v term ack going flag temps fits (next-writable known v (and_parts (is_next_local known v) (is_term known term) next).0) (and_parts (is_next_local known v) (is_term known term) next).1
]
Comes-command known (set_if place v condition term) ack going flag temps fits is =
    let both = (and_parts (is_target known v && is_condition known condition) (fits_target known v term) is).0 in
    Comes-as (both_into op.If (variable_reg v) place condition term) 0 ack (regs_of going flag temps)
    (operated op.If (variable_reg v) place (value_in condition ack going) (value_in term ack going) ack (regs_of going flag temps))
    (went (command_of (set_if place v condition term) ack going) flag)
    (λ more. if-went (value_in condition ack going) (value_in term ack going) v place ack going flag temps more (target-writable known v (is_condition known condition) both))
    (Comes-operated known op.If v place condition term ack going flag temps fits
    (and_parts (is_term known condition) (term_is_truth known condition) (and_parts (is_target known v) (is_condition known condition) both).1).0
    (and_parts (is_term known term) (not (is_truth known v) || term_is_truth known term) (and_parts (is_target known v && is_condition known condition) (fits_target known v term) is).1).0)
Comes-command known (set_unless place v condition term) ack going flag temps fits is =
    let both = (and_parts (is_target known v && is_condition known condition) (fits_target known v term) is).0 in
    Comes-as (both_into op.NotIf (variable_reg v) place condition term) 0 ack (regs_of going flag temps)
    (operated op.NotIf (variable_reg v) place (value_in condition ack going) (value_in term ack going) ack (regs_of going flag temps))
    (went (command_of (set_unless place v condition term) ack going) flag)
    (λ more. unless-went (value_in condition ack going) (value_in term ack going) v place ack going flag temps more (target-writable known v (is_condition known condition) both))
    (Comes-operated known op.NotIf v place condition term ack going flag temps fits
    (and_parts (is_term known condition) (term_is_truth known condition) (and_parts (is_target known v) (is_condition known condition) both).1).0
    (and_parts (is_term known term) (not (is_truth known v) || term_is_truth known term) (and_parts (is_target known v && is_condition known condition) (fits_target known v term) is).1).0)
Comes-command known (ewma place v weight term) ack going flag temps fits is =
    let number_too = is_target known v && not (is_truth known v) in
    let weighted = (and_parts (number_too && nat_le weight 10) (is_term known term) is).0 in
    let target = (and_parts number_too (nat_le weight 10) weighted).0 in
    let is_known_too = (and_parts (is_known known v) (is_writable v) (and_parts (is_target known v) (not (is_truth known v)) target).0).0 in
    Comes-as (both_into op.Ewma (variable_reg v) place (number weight) term) 0 ack (regs_of going flag temps)
    (operated op.Ewma (variable_reg v) place (Ok weight) (value_in term ack going) ack (regs_of going flag temps))
    (went (command_of (ewma place v weight term) ack going) flag)
    (λ more. ewma-went (value_in term ack going) weight (read_of v going.env going.locals ack) v place ack going flag temps more
    (target-writable known v (not (is_truth known v)) target) (Reads-regs_of known going flag more ack fits v is_known_too))
    (Comes-operated known op.Ewma v place (number weight) term ack going flag temps fits
    (lt-ltb weight (2 ^ 64) (omega (arith, leb-true weight 10 (and_parts number_too (nat_le weight 10) weighted).1)))
    (and_parts (number_too && nat_le weight 10) (is_term known term) is).1)
Comes-command known zero_micros ack going flag temps fits is = record { temps = temps; same = λ i below. refl; ran = refl }
Comes-command known report ack going flag temps fits is = record { temps = temps; same = λ i below. refl; ran = refl }
Comes-command known fall ack going flag temps fits is = record { temps = temps; same = λ i below. refl; ran = refl }

Comes-then : (lines rest : List Line) (result : Result Going Cause) (P : Going → Type 0) (next : Going → Result Going Cause) (flag : ℕ) (ack : Ack) (regs : Regs)
    → IfOk result P → Comes lines 0 ack regs (went result flag)
    → ((going : Going) → P going → (temps : Variables) → Comes rest 0 ack (regs_of going flag temps) (went (next going) flag))
    → Comes (lines ++ rest) 0 ack regs (went (then_value result next) flag)
Comes-then lines rest (Ok going) P next flag ack regs holds front back =
    let after = back going holds front.temps in record {
      temps = after.temps;
      same = λ i below. absurd (omega (arith, below));
      ran = run_lines-append lines rest ack regs ∙ ap (λ result. then_do result (run_lines rest ack)) front.ran ∙ after.ran;
    }
Comes-then lines rest (Err cause) P next flag ack regs holds front back = record {
  temps = regs.temps;
  same = λ i below. refl;
  ran = run_lines-append lines rest ack regs ∙ ap (λ result. then_do result (run_lines rest ack)) front.ran;
}

-- the commands of a body in turn
pub Comes-body : (known : KnownNames) (locals : ℕ) (actions : List Action) (ack : Ack) (going : Going) (flag : ℕ) (temps : Variables) → Fits known going → is_body known locals actions ≡ true
    → Comes (body_lines actions) 0 ack (regs_of going flag temps) (went (run_commands actions ack going) flag)
Comes-body known locals [] ack going flag temps fits is = record { temps = temps; same = λ i below. refl; ran = refl }
Comes-body known locals (action ∷ rest) ack going flag temps fits is =
    Comes-then (action_lines action) (body_lines rest) (command_of action ack going) (Fits (known_after known action)) (run_commands rest ack) flag ack (regs_of going flag temps)
    (Fits-command known action ack going fits)
    (Comes-command known action ack going flag temps fits (and_parts (is_action known action) (is_body (known_after known action) locals rest) is).0)
    (λ after fits_after more. Comes-body (known_after known action) locals rest ack after flag more fits_after (and_parts (is_action known action) (is_body (known_after known action) locals rest) is).1)
