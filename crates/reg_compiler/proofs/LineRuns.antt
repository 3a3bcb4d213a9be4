-- Lines run in turn, each with the place of its fault.
use Rattle.std.proofs.Common.{◌≡◌, refl, ℕ, ◌<◌, Result, Ok, Err, List, [], ◌∷◌, ◌++◌}
use Rattle.ccp_base.specs.declared.ack.Ack.{Ack}
use Rattle.ccp_base.specs.declared.place.Place.{Place}
use Rattle.portus_core.specs.Value.{Cause}
use Rattle.ccp_base.specs.Chaining.{then_do}
use Rattle.reg_code.specs.CodeStep.{Variables, Regs, Undone, fault, unset, instr_step}
use Rattle.reg_compiler.specs.declared.line.Line.{Line}

-- why lines leave no registers: a fault with its place, or a register without a value
pub data Halt : Type 0 where
  halted : Cause → Halt
  lacking : Halt

abbrev pub placed : Place → Result Regs Undone → Result Regs Halt
placed place (Ok regs) = Ok regs
placed place (Err (fault kind)) = Err (halted (kind, place))
placed place (Err unset) = Err lacking

abbrev pub run_lines : List Line → Ack → Regs → Result Regs Halt
run_lines [] ack regs = Ok regs
run_lines (line ∷ rest) ack regs = then_do (placed line.place (instr_step line.instr ack regs)) (run_lines rest ack)

-- what comes after a result of the source, unless it is a fault
abbrev pub halting : {A : Type 0} → Result A Cause → (A → Result Regs Halt) → Result Regs Halt
halting (Ok a) next = next a
halting (Err cause) next = Err (halted cause)

abbrev pub with_temps : Regs → Variables → Regs
with_temps regs temps = record regs { temps = temps }

-- temporaries as they were, below a number
abbrev pub SameBelow : ℕ → Variables → Variables → Type 0
SameBelow free old new = (i : ℕ) → i < free → new i ≡ old i

-- the result of lines, if they leave the temporaries below a number as they were
pub record Comes (lines : List Line) (free : ℕ) (ack : Ack) (regs : Regs) (outcome : Variables → Result Regs Halt) : Type 0 where
  pub temps : Variables
  pub same : SameBelow free regs.temps temps
  pub ran : run_lines lines ack regs ≡ outcome temps

then_do-in-turn : {A B C F : Type 0} (first : Result A F) (whole : A → Result C F) (front : A → Result B F) (back : B → Result C F) → ((a : A) → whole a ≡ then_do (front a) back) → then_do first whole ≡ then_do (then_do first front) back
then_do-in-turn (Ok a) whole front back same = same a
then_do-in-turn (Err stop) whole front back same = refl

pub then_do-Ok : {A F : Type 0} (first : Result A F) → then_do first (λ (a : A). Ok a) ≡ first
then_do-Ok (Ok a) = refl
then_do-Ok (Err stop) = refl

pub run_lines-append : (front back : List Line) (ack : Ack) (regs : Regs) → run_lines (front ++ back) ack regs ≡ then_do (run_lines front ack regs) (run_lines back ack)
run_lines-append [] back ack regs = refl
run_lines-append (line ∷ front) back ack regs =
    then_do-in-turn (placed line.place (instr_step line.instr ack regs)) (run_lines (front ++ back) ack) (run_lines front ack) (run_lines back ack) (run_lines-append front back ack)
