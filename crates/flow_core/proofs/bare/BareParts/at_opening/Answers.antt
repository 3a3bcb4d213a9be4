use Rattle.flow_core.proofs.BareLemmas.{summary-open, is-open}
use Rattle.flow_core.proofs.bare.BareParts.at_opening.Goals as goal

pub returns-clause-parts : goal.returns-clause-parts
returns-clause-parts c = is-open c.args.case c.args.running c.requires

pub returns-clause-summary : goal.returns-clause-summary
returns-clause-summary c = summary-open c.args.case c.args.running c.requires
