use Rattle.fold_machine.specs.RestLaws.{same_rest}
use Rattle.flow_core.proofs.machine_calls.pop_content.Goals as goal

pub returns-clause-machine : goal.returns-clause-machine
returns-clause-machine c = same_rest c.pop_into.new.slots c.args.machine.now c.pop_into.ensures.rest
