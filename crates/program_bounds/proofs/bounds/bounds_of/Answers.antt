use Rattle.portus_core.specs.ProgramForm.{form_of}
use Rattle.program_bounds.specs.declared.found.Bounds.{Bounds}
use Rattle.program_bounds.proofs.BoundedLemmas.{bounded_from}
use Rattle.program_bounds.proofs.UpdateLemmas.{within_widens}
use Rattle.program_bounds.proofs.bounds.bounds_of.Goals as goal

pub returns : goal.returns
returns c =
    let bounds : Bounds = record { found = c.turns.new.found; now = c.in_ok-ended.ended.now; steady = c.in_ok-ended.ended.steady } in
    bounded_from (form_of c.args.program.now) c.args.given.now bounds c.update.new.state c.in_ok-ended.ensures
    (λ start starts. within_widens c.start_ranges-first.result c.update.new.state c.update.ensures.widens start (c.start_ranges-first.ensures start starts))
