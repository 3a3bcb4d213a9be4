use Rattle.std.proofs.Common.{ap}
use Rattle.open_flow.specs.OpenWorld.{next_entry}
use Rattle.open_flow.specs.OpenCells.{OpenState, world_at}
use Rattle.open_flow.proofs.TurnLemmas.{some-next, has-G, fewer-left}
use Rattle.open_flow.proofs.turn.change.Goals as goal

pub returns-in-Ok-clause-made : goal.returns-in-Ok-clause-made
returns-in-Ok-clause-made c = λ made.
    has-G c.args.cell.now c.change.new.self (ap (λ (cell : OpenState). cell.case) c.in-Ok.ensures.ok) (ap (λ (cell : OpenState). cell.word) c.in-Ok.ensures.ok)
    c.in-Ok.ensures.within
    (some-next (next_entry (world_at c.args.cell.now)) c.in-Ok.field-0 c.in-Ok.ensures.step)

pub returns-in-Ok-clause-fewer : goal.returns-in-Ok-clause-fewer
returns-in-Ok-clause-fewer c = λ made. fewer-left c.args.cell.now c.change.new.self (returns-in-Ok-clause-made c made)
