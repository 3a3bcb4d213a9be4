use Rattle.flow_table.proofs.TurnLemmas.{nearer-C, made-C}
use Rattle.flow_table.proofs.turn.settle.Goals as goal

pub returns-clause-nearer : goal.returns-clause-nearer
returns-clause-nearer c =
    nearer-C c.args.cell.now c.settle.new.self c.in-Ok.ensures.ok c.in-Ok.ensures.world c.args.ticket c.requires

pub returns-clause-order : goal.returns-clause-order
returns-clause-order c = made-C c.args.cell.now c.settle.new.self c.in-Ok.ensures.ok c.args.ticket c.requires
