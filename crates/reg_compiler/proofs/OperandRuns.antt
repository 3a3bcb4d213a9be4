-- Lines that work out an operand, and an operation on two of them.
use Rattle.std.proofs.Common.{◌≡◌, refl, sym, ap, ◌∙◌, ℕ, ◌+◌, ◌<◌, ◌≤◌, true, cond, Option, Some, None, option_map, unwrap_or, Result, Ok, Err, List, [], ◌∷◌, ◌++◌, arith}
use Rattle.std.proofs.lemmas.Bool.{eq-eqb, ne_eqb}
use Rattle.ccp_base.specs.declared.ack.Ack.{Ack}
use Rattle.ccp_base.specs.declared.place.Place.{Place}
use Rattle.portus_core.specs.declared.env.Env.{Env}
use Rattle.portus_core.specs.declared.program.Var.{Var}
use Rattle.portus_core.specs.declared.program.Var.TheVariants as var
use Rattle.portus_core.specs.Value.{Cause, Locals, read_of}
use Rattle.portus_core.specs.ValidPrograms.{KnownNames, is_known}
use Rattle.reg_code.specs.declared.code.Op.{Op}
use Rattle.reg_code.specs.declared.code.Reg.{Reg}
use Rattle.reg_code.specs.declared.code.Reg.TheVariants as reg
use Rattle.ccp_base.specs.Chaining.{then_do}
use Rattle.reg_code.specs.CodeStep.{Variables, with_value_at, Regs, register_value, with_written, with_operand, effect}
use Rattle.reg_compiler.specs.declared.line.Line.{Line}
use Rattle.reg_compiler.specs.CompiledCode.{variable_reg, code_line, next_free, unless_direct}
use Rattle.reg_compiler.proofs.LineRuns.{Halt, placed, run_lines, halting, with_temps, SameBelow, Comes, then_do-Ok, run_lines-append}

-- every name that the program knows is read from its register
abbrev pub Reads : KnownNames → Env → Locals → Ack → Regs → Type 0
Reads known env locals ack regs = (v : Var) → is_known known v ≡ true → register_value (variable_reg v) regs ack ≡ Some (read_of v env locals ack)

read-with_temps : (v : Var) (regs : Regs) (temps : Variables) (ack : Ack) → register_value (variable_reg v) (with_temps regs temps) ack ≡ register_value (variable_reg v) regs ack
read-with_temps (var.Field i) regs temps ack = refl
read-with_temps (var.Control i) regs temps ack = refl
read-with_temps (var.Local i) regs temps ack = refl
read-with_temps var.Cwnd regs temps ack = refl
read-with_temps var.Rate regs temps ack = refl
read-with_temps var.Micros regs temps ack = refl
read-with_temps (var.Prim n) regs temps ack = refl

pub Reads-with_temps : (known : KnownNames) (env : Env) (locals : Locals) (ack : Ack) (regs : Regs) (temps : Variables) → Reads known env locals ack regs → Reads known env locals ack (with_temps regs temps)
Reads-with_temps known env locals ack regs temps reads v is = read-with_temps v regs temps ack ∙ reads v is

-- lines after which a register has the result of an operand, for as long as the temporaries below a number stay
pub record Works (result : Result ℕ Cause) (lines : List Line) (from : Reg) (free later : ℕ) (ack : Ack) (regs : Regs) : Type 0 where
  pub temps : Variables
  pub same : SameBelow free regs.temps temps
  pub ran : run_lines lines ack regs ≡ halting result (λ value. Ok (with_temps regs temps))
  pub reads : (value : ℕ) → result ≡ Ok value → (more : Variables) → SameBelow later temps more → register_value from (with_temps regs more) ack ≡ Some value

same_value : (a b : ℕ) → ◌≡◌ {A = Result ℕ Cause} (Ok a) (Ok b) → ◌≡◌ {A = Option ℕ} (Some a) (Some b)
same_value a b is = cc

-- a register that has the value without lines
pub Works-direct_operand : (from : Reg) (value free : ℕ) (ack : Ack) (regs : Regs) → ((more : Variables) → register_value from (with_temps regs more) ack ≡ Some value) → Works (Ok value) [] from free free ack regs
Works-direct_operand from value free ack regs has = record {
  temps = regs.temps;
  same = λ i below. refl;
  ran = refl;
  reads = λ other is more same. has more ∙ same_value value other is;
}

pub Works-name : (known : KnownNames) (env : Env) (locals : Locals) (v : Var) (free : ℕ) (ack : Ack) (regs : Regs) → Reads known env locals ack regs → is_known known v ≡ true → Works (Ok (read_of v env locals ack)) [] (variable_reg v) free free ack regs
Works-name known env locals v free ack regs reads is =
    Works-direct_operand (variable_reg v) (read_of v env locals ack) free ack regs (λ more. Reads-with_temps known env locals ack regs more reads v is)

kept-below : (temps : Variables) (free value i : ℕ) → i < free → with_value_at temps free value i ≡ temps i
kept-below temps free value i below = ap (λ b. cond b (Some value) (temps i)) (ne_eqb i free (λ is. omega (arith, is)))

written-there : (temps : Variables) (free value : ℕ) → with_value_at temps free value free ≡ Some value
written-there temps free value = ap (λ b. cond b (Some value) (temps free)) (eq-eqb free free refl)

-- the lines write it into the first free temporary
pub Works-value_lines : (result : Result ℕ Cause) (lines : List Line) (free : ℕ) (ack : Ack) (regs : Regs)
    → Comes lines free ack regs (λ temps. halting result (λ value. Ok (with_written (reg.Temp free) value ack (with_temps regs temps))))
    → Works result lines (reg.Temp free) free (free + 1) ack regs
Works-value_lines (Ok value) lines free ack regs comes = record {
  temps = with_value_at comes.temps free value;
  same = λ i below. kept-below comes.temps free value i below ∙ comes.same i below;
  ran = comes.ran;
  reads = λ other is more same. same free (omega arith) ∙ written-there comes.temps free value ∙ same_value value other is;
}
Works-value_lines (Err cause) lines free ack regs comes = record {
  temps = regs.temps;
  same = λ i below. refl;
  ran = comes.ran;
  reads = λ other is more same. cc;
}

-- a known value needs no lines
pub Works-pair : (known : Option ℕ) (result : Result ℕ Cause) (lines : List Line) (free : ℕ) (ack : Ack) (regs : Regs)
    → ((value : ℕ) → known ≡ Some value → result ≡ Ok value)
    → Comes lines free ack regs (λ temps. halting result (λ value. Ok (with_written (reg.Temp free) value ack (with_temps regs temps))))
    → Works result (unless_direct (option_map reg.Imm known) lines) (unwrap_or (option_map reg.Imm known) (reg.Temp free)) free (next_free (option_map reg.Imm known) free) ack regs
Works-pair (Some value) (Ok other) lines free ack regs is comes =
    Works-direct_operand (reg.Imm value) other free ack regs (λ more. sym (same_value other value (is value refl)))
Works-pair (Some value) (Err cause) lines free ack regs is comes = record {
  temps = regs.temps;
  same = λ i below. refl;
  ran = cc (is value refl);
  reads = λ other none more same. cc;
}
Works-pair None result lines free ack regs is comes = Works-value_lines result lines free ack regs comes

line-reads : (left right : Option ℕ) (a b : ℕ) (o : Op) (to : Reg) (ack : Ack) (regs : Regs) → left ≡ Some a → right ≡ Some b → with_operand left (λ a. with_operand right (λ b. effect o to a b ack regs)) ≡ effect o to a b ack regs
line-reads left right a b o to ack regs first second = rw (first, second) refl

-- what comes of two operands, and of the operation on them
abbrev pub operated : Op → Reg → Place → Result ℕ Cause → Result ℕ Cause → Ack → Regs → Variables → Result Regs Halt
operated o to place left right ack regs temps = halting left (λ a. halting right (λ b. placed place (effect o to a b ack (with_temps regs temps))))

pub Comes-operation_lines : (o : Op) (to : Reg) (place : Place) (left right : Result ℕ Cause) (left_lines right_lines : List Line) (from also : Reg) (free later last : ℕ) (ack : Ack) (regs : Regs)
    → free ≤ later → Works left left_lines from free later ack regs
    → ((temps : Variables) → Works right right_lines also later last ack (with_temps regs temps))
    → Comes (left_lines ++ (right_lines ++ (code_line o to from also place ∷ []))) free ack regs (operated o to place left right ack regs)
Comes-operation_lines o to place (Err cause) right left_lines right_lines from also free later last ack regs grows first second =
    let line = code_line o to from also place in record {
      temps = regs.temps;
      same = λ i below. refl;
      ran = run_lines-append left_lines (right_lines ++ (line ∷ [])) ack regs ∙ ap (λ result. then_do result (run_lines (right_lines ++ (line ∷ [])) ack)) first.ran;
    }
Comes-operation_lines o to place (Ok a) (Err cause) left_lines right_lines from also free later last ack regs grows first second =
    let line = code_line o to from also place in
    let next = second first.temps in record {
      temps = first.temps;
      same = first.same;
      ran =
          run_lines-append left_lines (right_lines ++ (line ∷ [])) ack regs
          ∙ ap (λ result. then_do result (run_lines (right_lines ++ (line ∷ [])) ack)) first.ran
          ∙ run_lines-append right_lines (line ∷ []) ack (with_temps regs first.temps)
          ∙ ap (λ result. then_do result (run_lines (line ∷ []) ack)) next.ran;
    }
Comes-operation_lines o to place (Ok a) (Ok b) left_lines right_lines from also free later last ack regs grows first second =
    let line = code_line o to from also place in
    let next = second first.temps in
    let regs_then = with_temps regs next.temps in record {
      temps = next.temps;
      same = λ i below. next.same i (omega (arith, below, grows)) ∙ first.same i below;
      ran =
          run_lines-append left_lines (right_lines ++ (line ∷ [])) ack regs
          ∙ ap (λ result. then_do result (run_lines (right_lines ++ (line ∷ [])) ack)) first.ran
          ∙ run_lines-append right_lines (line ∷ []) ack (with_temps regs first.temps)
          ∙ ap (λ result. then_do result (run_lines (line ∷ []) ack)) next.ran
          ∙ then_do-Ok (placed place (with_operand (register_value from regs_then ack) (λ a. with_operand (register_value also regs_then ack) (λ b. effect o to a b ack regs_then))))
          ∙ ap (placed place) (line-reads (register_value from regs_then ack) (register_value also regs_then ack) a b o to ack regs_then
          (first.reads a refl next.temps next.same) (next.reads b refl next.temps (λ i below. refl)));
    }
