use Rattle.driven_flow.proofs.FrontLineLemmas.{may-separate, may-not, may-few}
use Rattle.driven_flow.proofs.front.may_separate.Goals as goal

pub returns-clause-yes : goal.returns-clause-yes
returns-clause-yes c = may-separate c.args.bytes.now c.as_slice.result.now c.starts_with.result c.as_slice.ensures c.starts_with.ensures.value

pub returns-clause-no : goal.returns-clause-no
returns-clause-no c = may-not c.args.bytes.now c.as_slice.result.now c.starts_with.result c.as_slice.ensures c.starts_with.ensures.value

pub returns-clause-few : goal.returns-clause-few
returns-clause-few c = may-few c.args.bytes.now c.starts_with.result (returns-clause-yes c)
