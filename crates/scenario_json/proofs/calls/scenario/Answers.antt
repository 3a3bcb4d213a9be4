use Rattle.portus_build.proofs.WalkLemmas.{walks_exact}
use Rattle.scenario_json.proofs.calls.scenario.Goals as goal

pub returns-in_err-whole-clause-readable : goal.returns-in_err-whole-clause-readable
returns-in_err-whole-clause-readable c = walks_exact

pub returns-in_err-programs-clause-readable : goal.returns-in_err-programs-clause-readable
returns-in_err-programs-clause-readable c = walks_exact

pub returns-in_err-put_together-clause-readable : goal.returns-in_err-put_together-clause-readable
returns-in_err-put_together-clause-readable c = walks_exact

pub returns-clause-readable : goal.returns-clause-readable
returns-clause-readable c = walks_exact
