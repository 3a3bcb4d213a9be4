use Rattle.std.proofs.Common.{◌<◌, ◌≤◌, ap, arith, length, refl}
use Rattle.open_flow.specs.OpenCells.{OpenState, world_at}
use Rattle.open_flow.proofs.TurnLemmas.{has-A, fewer-left}
use Rattle.open_flow.proofs.turn.acknowledge.Goals as goal

pub unreachable-requires : goal.unreachable-requires
unreachable-requires c =
    let cell = c.args.cell.now in
    let all : cell.case.acks ≤ length (world_at cell).acks = c.in_default.ensures.ended.0 refl in
    let more : length (world_at cell).acks < cell.case.acks = c.requires.more in
    absurd (omega (arith, all, more))

pub returns-clause-next : goal.returns-clause-next
returns-clause-next c =
    has-A c.args.cell.now c.hear.new.self (ap (λ (cell : OpenState). cell.case) c.in-Ok.ensures.ok) (ap (λ (cell : OpenState). cell.word) c.in-Ok.ensures.ok)
    c.in-Ok.ensures.within c.requires.none

pub returns-clause-fewer : goal.returns-clause-fewer
returns-clause-fewer c = fewer-left c.args.cell.now c.hear.new.self (returns-clause-next c)
