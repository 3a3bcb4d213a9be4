-- The code that is made of a valid program simulates it.
use Rattle.std.proofs.Common.{◌≡◌, refl, sym, ◌∙◌, subst, ◌≤◌, None, List, length, IsTrue, arith}
use Rattle.std.proofs.lemmas.List.{length-map}
use Rattle.ccp_base.specs.declared.place.Place.{Place}
use Rattle.portus_core.specs.Programs.{Form}
use Rattle.portus_core.specs.ValidPrograms.{is_valid}
use Rattle.reg_code.specs.declared.code.Code.{Code}
use Rattle.reg_compiler.specs.Counts.{form_count, lean}
use Rattle.reg_compiler.specs.Needs.{deep_form}
use Rattle.reg_compiler.specs.Simulation.{Simulates}
use Rattle.reg_compiler.specs.CompiledCode.{lines_of, instr_of, line_place, code_of, places_of}
use Rattle.reg_compiler.proofs.Accepted.{IsAccepted-compiled}
use Rattle.reg_compiler.proofs.Means.{MeansAlike-compiled}
use Rattle.reg_compiler.proofs.Sizes.{length-lines, lean-count}

pub Simulates-compiled : (form : Form) → IsTrue (is_valid form) → deep_form form ≡ None → form_count form ≤ 256 → Simulates form (code_of form) (places_of form)
Simulates-compiled form valid none few = (
  IsAccepted-compiled form valid none few,
  length-map (lines_of form.blocks) line_place ∙ sym (length-map (lines_of form.blocks) instr_of),
  (refl, refl),
  MeansAlike-compiled form valid,
)

-- the code has an instruction for each line
pub length-instrs : (form : Form) → length (code_of form).instrs ≡ length (lines_of form.blocks)
length-instrs form = length-map (lines_of form.blocks) instr_of

pub length-lean : (form : Form) → length (code_of form).instrs ≤ lean form
length-lean form = omega (arith, length-instrs form, length-lines form)

pub length-count : (form : Form) → length (code_of form).instrs ≤ form_count form
length-count form = omega (arith, length-lean form, lean-count form)

pub Simulates-emitted : (form : Form) (code : Code) (places : List Place) → IsTrue (is_valid form) → deep_form form ≡ None → form_count form ≤ 256 → code ≡ code_of form → places ≡ places_of form → Simulates form code places
Simulates-emitted form code places valid none few code_is places_are =
    subst (λ (c : Code). Simulates form c places) (sym code_is)
    (subst (λ (p : List Place). Simulates form (code_of form) p) (sym places_are) (Simulates-compiled form valid none few))
