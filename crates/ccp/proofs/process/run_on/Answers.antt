use Rattle.ccp.proofs.process.run_on.Goals as goal

pub returns : goal.returns
returns g c = record { outcome = c.run-outcome.result; is = c.from.ensures; run = c.run-outcome.ensures }
