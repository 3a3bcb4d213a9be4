use Rattle.driven_flow.proofs.FrontLineLemmas.{divided-goes-on}
use Rattle.driven_flow.proofs.FrontLaws.{divided-at-separator, divided-at-first}
use Rattle.driven_flow.proofs.front.front_law.Goals as goal

pub returns : goal.returns
returns c = record { at_separator = divided-at-separator; at_first = divided-at-first; goes_on = divided-goes-on }
