use Rattle.ccp_base.proofs.PartLemmas.{without_last-same, without_last-other}
use Rattle.ccp_base.proofs.parts.without_return.Goals as goal

pub returns-then-last-eq13-clause-line : goal.returns-then-last-eq13-clause-line
returns-then-last-eq13-clause-line c =
    without_last-same 13 c.args.line.now c.in-Some.front.now c.in-Some.last.now c.in-Some.ensures.cases.0 c.if-last-eq13.true

pub returns-else-last-eq13-clause-line : goal.returns-else-last-eq13-clause-line
returns-else-last-eq13-clause-line c =
    without_last-other 13 c.args.line.now c.in-Some.front.now c.in-Some.last.now c.in-Some.ensures.cases.0 c.if-last-eq13.false
