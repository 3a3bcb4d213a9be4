-- Work on the instructions of lines, with an index into the places, has the result of the lines.
use Rattle.std.proofs.Common.{◌≡◌, refl, sym, ap, ◌∙◌, ℕ, zero, suc, ◌+◌, arith, Some, Result, Ok, Err, List, [], ◌∷◌, ◌++◌, length, drop, map, add-one, subst}
use Rattle.std.specs.List.{slice_get}
use Rattle.std.specs.Prelude.{IfOk}
use Rattle.ccp_base.specs.declared.ack.Ack.{Ack}
use Rattle.ccp_base.specs.declared.place.Place.{Place}
use Rattle.ccp_base.specs.Chaining.{then_do as then_value}
use Rattle.portus_core.specs.Value.{Cause}
use Rattle.portus_core.specs.Command.{Going}
use Rattle.ccp_base.specs.Chaining.{then_do}
use Rattle.reg_code.specs.CodeStep.{Regs, Undone, fault, unset, instr_step, Work, done, failed, stuck, then_run, after_step, run}
use Rattle.reg_compiler.specs.declared.line.Line.{Line}
use Rattle.reg_compiler.specs.CompiledCode.{instr_of, line_place}
use Rattle.reg_compiler.specs.Simulation.{kept_of}
use Rattle.reg_compiler.proofs.LineRuns.{Halt, halted, lacking, placed, run_lines, halting}
use Rattle.ccp_base.specs.Acknowledgement.{bool_number}

-- the work on some instructions has the same result as their lines, a fault with its place
abbrev pub RunsAs : List Place → Work → Result Regs Halt → Type 0
RunsAs places (done ran regs) (Ok other) = regs ≡ other
RunsAs places (done ran regs) (Err halt) = ⊥
RunsAs places (failed kind index ran) (Ok other) = ⊥
RunsAs places (failed kind index ran) (Err (halted cause)) = (kind ≡ cause.0) × (slice_get places index ≡ Some cause.1)
RunsAs places (failed kind index ran) (Err lacking) = ⊥
RunsAs places (stuck ran) (Ok other) = ⊥
RunsAs places (stuck ran) (Err (halted cause)) = ⊥
RunsAs places (stuck ran) (Err lacking) = Unit {0}

-- what stays from one block to the next
abbrev pub Between : Regs → Going → Type 0
Between regs going = (regs.kept ≡ kept_of going.env) × (regs.send ≡ bool_number going.asked)

-- the work on some events has the same result as the blocks, a fault with its place
abbrev pub WorksAs : List Place → Work → Result Going Cause → Type 0
WorksAs places (done ran regs) (Ok going) = Between regs going
WorksAs places (done ran regs) (Err cause) = ⊥
WorksAs places (failed kind index ran) (Ok going) = ⊥
WorksAs places (failed kind index ran) (Err cause) = (kind ≡ cause.0) × (slice_get places index ≡ Some cause.1)
WorksAs places (stuck ran) result = ⊥

drop-here : (places rest : List Place) (index : ℕ) (place : Place) → drop index places ≡ place ∷ rest → slice_get places index ≡ Some place
drop-here [] rest zero place is = cc
drop-here [] rest (suc index) place is = cc
drop-here (other ∷ places) rest zero place is = cc
drop-here (other ∷ places) rest (suc index) place is = drop-here places rest index place is

drop-next : (places rest : List Place) (index : ℕ) (place : Place) → drop index places ≡ place ∷ rest → drop (suc index) places ≡ rest
drop-next [] rest zero place is = cc
drop-next [] rest (suc index) place is = cc
drop-next (other ∷ places) rest zero place is = cc
drop-next (other ∷ places) rest (suc index) place is = drop-next places rest index place is

-- the places after some lines
pub drop-lines : (places rest : List Place) (index : ℕ) (lines : List Line) → drop index places ≡ map line_place lines ++ rest → drop (index + length lines) places ≡ rest
drop-lines places rest index [] is = ap (λ n. drop n places) (omega arith) ∙ is
drop-lines places rest index (line ∷ lines) is =
    ap (λ n. drop n places) (omega arith) ∙ drop-lines places rest (suc index) lines (drop-next places (map line_place lines ++ rest) index line.place is)

RunsAs-step : (result : Result Regs Undone) (place : Place) (places : List Place) (index ran : ℕ) (rest : ℕ → Regs → Work) (lines : Regs → Result Regs Halt)
    → slice_get places index ≡ Some place → ((ran : ℕ) (regs : Regs) → RunsAs places (rest ran regs) (lines regs))
    → RunsAs places (after_step result index rest ran) (then_do (placed place result) lines)
RunsAs-step (Ok regs) place places index ran rest lines here next = next (ran + 1) regs
RunsAs-step (Err (fault kind)) place places index ran rest lines here next = (refl, here)
RunsAs-step (Err unset) place places index ran rest lines here next = tt

pub RunsAs-run : (lines : List Line) (places rest : List Place) (index : ℕ) (ack : Ack) (ran : ℕ) (regs : Regs) → drop index places ≡ map line_place lines ++ rest → RunsAs places (run (map instr_of lines) index ack ran regs) (run_lines lines ack regs)
RunsAs-run [] places rest index ack ran regs is = refl
RunsAs-run (line ∷ lines) places rest index ack ran regs is =
    RunsAs-step (instr_step line.instr ack regs) line.place places index ran (run (map instr_of lines) (index + 1) ack) (run_lines lines ack)
    (drop-here places (map line_place lines ++ rest) index line.place is)
    (λ more after. RunsAs-run lines places rest (index + 1) ack more after (ap (λ n. drop n places) (add-one index) ∙ drop-next places (map line_place lines ++ rest) index line.place is))

work-as : {A : Type 0} (work : Work) (result : Result A Cause) (P : A → Type 0) (registers : A → Regs) (next : ℕ → Regs → Work) (then : A → Result Going Cause) (places : List Place)
    → RunsAs places work (halting result (λ a. Ok (registers a))) → IfOk result P
    → ((ran : ℕ) (a : A) → P a → WorksAs places (next ran (registers a)) (then a))
    → WorksAs places (then_run work next) (then_value result then)
work-as (done ran regs) (Ok a) P registers next then places runs holds follows =
    subst (λ (r : Regs). WorksAs places (next ran r) (then a)) (sym runs) (follows ran a holds)
work-as (done ran regs) (Err cause) P registers next then places runs holds follows = absurd runs
work-as (failed kind index ran) (Ok a) P registers next then places runs holds follows = absurd runs
work-as (failed kind index ran) (Err cause) P registers next then places runs holds follows = runs
work-as (stuck ran) (Ok a) P registers next then places runs holds follows = absurd runs
work-as (stuck ran) (Err cause) P registers next then places runs holds follows = absurd runs

-- instructions whose lines have the result of the source's part, and then the rest of both
pub WorksAs-then : {A : Type 0} (lines : List Line) (rest : List Place) (result : Result A Cause) (P : A → Type 0) (registers : A → Regs) (next : ℕ → Regs → Work) (then : A → Result Going Cause) (places : List Place) (index : ℕ) (ack : Ack) (ran : ℕ) (regs : Regs)
    → drop index places ≡ map line_place lines ++ rest
    → run_lines lines ack regs ≡ halting result (λ a. Ok (registers a)) → IfOk result P
    → ((ran : ℕ) (a : A) → P a → WorksAs places (next ran (registers a)) (then a))
    → WorksAs places (then_run (run (map instr_of lines) index ack ran regs) next) (then_value result then)
WorksAs-then lines rest result P registers next then places index ack ran regs here comes holds follows =
    work-as (run (map instr_of lines) index ack ran regs) result P registers next then places
    (subst (λ (r : Result Regs Halt). RunsAs places (run (map instr_of lines) index ack ran regs) r) comes (RunsAs-run lines places rest index ack ran regs here))
    holds follows
