use Rattle.std.proofs.Common.{rules}
use Rattle.shared_run.proofs.CourseLemmas.{rested}
use Rattle.shared_run.proofs.run_flow.RunFlow.into_flow.Goals as goal

pub returns : goal.returns
returns g c =
    let known = c.args.known.now in
    let same = rested g.C.CaseCourse.link g.C.CaseCourse.cases known.number known.since known.round known.before known.rests in
    search rules
