use Rattle.driven_flow.proofs.SessionLawLemmas.{all-read-alike}
use Rattle.driven_flow.proofs.session_laws.session_lift_law.Goals as goal

pub returns : goal.returns
returns c = all-read-alike c.args.session.now
