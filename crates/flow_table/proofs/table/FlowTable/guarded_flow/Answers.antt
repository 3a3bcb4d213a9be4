use Rattle.flow_table.proofs.NumberLemmas.{number_there}
use Rattle.flow_table.proofs.table.FlowTable.guarded_flow.Goals as goal

pub returns-clause-number : goal.returns-clause-number
returns-clause-number g c =
    number_there g.F.LockedFlow.number_of (λ locked. locked.case) c.args.self.now c.self.inside.flows.items c.args.flow
    c.index.result.now c.self.view_is c.self.invariant.1 c.requires c.index.ensures
