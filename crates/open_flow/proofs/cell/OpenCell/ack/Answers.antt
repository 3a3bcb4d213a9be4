use Rattle.std.proofs.Common.{ap, ◌∙◌}
use Rattle.open_flow.specs.declared.letter.OpenLetter.TheVariants.{A}
use Rattle.open_flow.specs.OpenWorld.{after_ack}
use Rattle.open_flow.specs.OpenCells.{OpenState, world_at, ack_at}
use Rattle.open_flow.proofs.LetterLemmas.{grown}
use Rattle.open_flow.proofs.cell.OpenCell.ack.Goals as goal

pub returns-clause-world : goal.returns-clause-world
returns-clause-world g c =
    let s = c.self.inside.state in
    let new = c.advance.new.self in
    grown s.case new.case s.word.items new.word.items A c.advance.ensures.case c.advance.ensures.word
    ∙ ap (λ (cell : OpenState). after_ack cell.case (ack_at cell) (world_at cell)) c.self.view_is
