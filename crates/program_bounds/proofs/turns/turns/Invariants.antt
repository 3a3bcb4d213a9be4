use Rattle.portus_core.specs.ProgramForm.{form_of}
use Rattle.range_cases.specs.declared.case.Kept.{Kept}
use Rattle.program_bounds.specs.declared.found.Found.{Found}
use Rattle.program_bounds.specs.Turns.{HasUpdates, KeepsFound, IsGoodFrom}
use Rattle.program_bounds.proofs.turns.turns.Given as goal

abbrev pub invariant-loop-number : goal.invariant-loop-number
invariant-loop-number l = record {
  leads : (found : Found) (now : Kept) → KeepsFound l.found found → IsGoodFrom (form_of l.program) l.given found now l.number l.state
      → IsGoodFrom (form_of l.program) l.given found now 0 l.initial.state;
  updates : HasUpdates l.given.updates l.state;
}
