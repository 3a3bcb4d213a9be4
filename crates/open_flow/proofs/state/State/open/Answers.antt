use Rattle.open_flow.proofs.OpeningLemmas.{open-opened}
use Rattle.open_flow.proofs.state.State.open.Goals as goal

pub returns-clause-open_state : goal.returns-clause-open_state
returns-clause-open_state c = open-opened c.args.case c.in_ok-opening.opening c.in_ok-opening.ensures
