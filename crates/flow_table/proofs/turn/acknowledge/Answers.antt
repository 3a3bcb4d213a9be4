use Rattle.flow_table.proofs.TurnLemmas.{nearer-A, made-A}
use Rattle.flow_table.proofs.turn.acknowledge.Goals as goal

pub returns-clause-nearer : goal.returns-clause-nearer
returns-clause-nearer c = nearer-A c.args.cell.now c.hear.new.self c.in-Ok.ensures.ok c.in-Ok.ensures.world c.requires.acks

pub returns-clause-order : goal.returns-clause-order
returns-clause-order c = made-A c.args.cell.now c.hear.new.self c.in-Ok.ensures.ok c.requires.still
