use Rattle.feed_core.proofs.RefusalLemmas.{flow_above, flow_exists, no_flow, program_above, program_exists}
use Rattle.feed_core.proofs.RefusalLemmas.{no_program, not_accepted, no_register, too_wide, changes_nothing}
use Rattle.feed_core.proofs.laws.refusals_law.Goals as goal

pub returns-clause-flow_above : goal.returns-clause-flow_above
returns-clause-flow_above c = flow_above

pub returns-clause-flow_exists : goal.returns-clause-flow_exists
returns-clause-flow_exists c = flow_exists

pub returns-clause-no_flow : goal.returns-clause-no_flow
returns-clause-no_flow c = no_flow

pub returns-clause-program_above : goal.returns-clause-program_above
returns-clause-program_above c = program_above

pub returns-clause-program_exists : goal.returns-clause-program_exists
returns-clause-program_exists c = program_exists

pub returns-clause-no_program : goal.returns-clause-no_program
returns-clause-no_program c = no_program

pub returns-clause-not_accepted : goal.returns-clause-not_accepted
returns-clause-not_accepted c = not_accepted

pub returns-clause-no_register : goal.returns-clause-no_register
returns-clause-no_register c = no_register

pub returns-clause-too_wide : goal.returns-clause-too_wide
returns-clause-too_wide c = too_wide

pub returns-clause-changes_nothing : goal.returns-clause-changes_nothing
returns-clause-changes_nothing c = changes_nothing
