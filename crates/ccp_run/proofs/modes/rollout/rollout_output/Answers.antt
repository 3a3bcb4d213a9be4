use Rattle.ccp_run.proofs.modes.rollout.rollout_output.Goals as goal

pub returns : goal.returns
returns g c = record {
  cases = c.in_ok-cases.cases;
  scenario = c.in_ok-cases.ensures.found;
  tells = c.in_ok-run_rollout.ensures;
}
