use Rattle.scenario_json.proofs.DrawLemmas.{generated}
use Rattle.scenario_json.proofs.calls.soak.Goals as goal

pub returns-clause-found : goal.returns-clause-found
returns-clause-found c =
    let put = c.put_together.ensures in
    generated c.put_together.result _ _ c.args.number put.programs put.plans c.in_ok-programs.ensures.forms c.in_ok-plans.ensures.drawn
