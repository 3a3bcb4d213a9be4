use Rattle.std.proofs.Common.{rules, IsOk}
use Rattle.shared_run.proofs.KeptLemmas.{kept-asks}
use Rattle.shared_run.proofs.run_flow.RunFlow.known.Goals as goal

pub new-requires : goal.new-requires
new-requires g c =
    let run = c.args.self.now in
    let well : IsOk run.heard = search rules in
    kept-asks g.F.GivenFlow.at g.C.CaseCourse.link g.C.CaseCourse.cases run.round run.number run.flow.flow run.flow.tally c.ask_of.result (run.stands well) c.ask_of.ensures
