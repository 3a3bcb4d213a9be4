use Rattle.std.proofs.Common.{ap, ◌∙◌}
use Rattle.open_flow.specs.declared.letter.OpenLetter.TheVariants.{I}
use Rattle.open_flow.specs.OpenWorld.{with_next_entry}
use Rattle.open_flow.specs.OpenCells.{OpenState, world_at}
use Rattle.open_flow.proofs.LetterLemmas.{grown}
use Rattle.open_flow.proofs.cell.OpenCell.put.Goals as goal

pub returns-clause-world : goal.returns-clause-world
returns-clause-world c =
    let s = c.self.inside.state in
    let new = c.put.new.self in
    grown s.case new.case s.word.items new.word.items I c.put.ensures.case c.put.ensures.word
    ∙ ap (λ (cell : OpenState). with_next_entry cell.case (world_at cell)) c.self.view_is
