use Rattle.fold_machine.specs.RestLaws.{same_rest}
use Rattle.fold_machine.proofs.laws.rest_determines_machine.Goals as goal

pub returns : goal.returns
returns c = same_rest
