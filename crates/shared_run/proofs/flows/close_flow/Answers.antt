use Rattle.shared_run.proofs.KeptLemmas.{kept-history, kept-closed}
use Rattle.shared_run.proofs.flows.close_flow.Goals as goal

pub close-requires : goal.close-requires
close-requires g c =
    let flow = c.into_flow-flow.result in
    let known = c.args.known.now in
    kept-history g.F.GivenFlow.at g.C.CaseCourse.link g.C.CaseCourse.cases known.round known.number flow.flow flow.tally c.into_flow-flow.ensures

pub returns : goal.returns
returns g c =
    let flow = c.into_flow-flow.result in
    let known = c.args.known.now in
    let new = c.close.new.flow in
    kept-closed g.F.GivenFlow.at g.C.CaseCourse.link g.C.CaseCourse.cases known.round known.number flow.flow flow.tally new.flow new.tally
    c.into_flow-flow.ensures c.in_ok-close.ensures
