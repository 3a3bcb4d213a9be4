use Rattle.std.proofs.Common.{ap, ◌∙◌}
use Rattle.open_flow.specs.declared.letter.OpenLetter.TheVariants.{G}
use Rattle.open_flow.specs.OpenWorld.{after_change}
use Rattle.open_flow.specs.OpenCells.{OpenState, world_at}
use Rattle.open_flow.proofs.LetterLemmas.{grown}
use Rattle.open_flow.proofs.cell.OpenCell.change.Goals as goal

pub returns-clause-world : goal.returns-clause-world
returns-clause-world c =
    let s = c.self.inside.state in
    let new = c.start.new.self in
    grown s.case new.case s.word.items new.word.items G c.start.ensures.case c.start.ensures.word
    ∙ ap (λ (cell : OpenState). after_change cell.case (world_at cell)) c.self.view_is
