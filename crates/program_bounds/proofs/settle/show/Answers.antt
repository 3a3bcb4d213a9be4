use Rattle.std.proofs.Common.{Option, subst}
use Rattle.range_cases.specs.declared.case.Kept.{Kept}
use Rattle.program_bounds.specs.Bounded.{ShowsIn}
use Rattle.program_bounds.proofs.SettleLemmas.{shown_widens}
use Rattle.program_bounds.proofs.settle.show.Goals as goal

pub returns-in-Some-clause-keeps : goal.returns-in-Some-clause-keeps
returns-in-Some-clause-keeps c fields cwnd rate shown =
    shown_widens c.in-Some.shown c.widen.new.self fields cwnd rate c.widen.ensures.own (subst (λ (o : Option Kept). ShowsIn o fields cwnd rate) c.in-Some.is shown)
