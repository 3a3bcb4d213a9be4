use Rattle.range_cases.proofs.RangeLemmas.{AreIn_past}
use Rattle.range_cases.proofs.reading.range_at.Goals as goal

pub returns-else-i-ranges : goal.returns-else-i-ranges
returns-else-i-ranges c value are = AreIn_past c.args.ranges.now value c.args.i c.only.result c.if-i-ranges.false c.only.ensures.lo are
