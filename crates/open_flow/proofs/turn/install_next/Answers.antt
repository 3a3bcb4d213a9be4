use Rattle.std.proofs.Common.{◌≡◌, ◌<◌, ap, arith, length}
use Rattle.std.proofs.lemmas.Bool.{lt-ltb}
use Rattle.open_flow.specs.OpenCells.{OpenState, world_at}
use Rattle.open_flow.proofs.TurnLemmas.{has-I, fewer-left}
use Rattle.open_flow.proofs.turn.install_next.Goals as goal

pub returns-clause-next : goal.returns-clause-next
returns-clause-next c =
    let cell = c.args.cell.now in
    let more : c.args.step < length cell.case.steps = c.requires.more in
    has-I cell c.put.new.self (ap (λ (state : OpenState). state.case) c.put.ensures.ok) (ap (λ (state : OpenState). state.word) c.put.ensures.ok)
    c.put.ensures.within c.requires.none
    (let count : length (world_at cell).entries ≡ c.args.step = c.requires.world in
    lt-ltb (length (world_at cell).entries) (length cell.case.steps) (omega (arith, count, more)))

pub returns-clause-fewer : goal.returns-clause-fewer
returns-clause-fewer c = fewer-left c.args.cell.now c.put.new.self (returns-clause-next c)
