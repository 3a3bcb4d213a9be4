use Rattle.std.proofs.Common.{arith}
use Rattle.ccp_base.proofs.PartLemmas.{parts_at_separator, IsSplit_at_separator, parts_past_byte, parts_at_end}
use Rattle.ccp_base.proofs.parts.first_part.Goals as goal

pub returns-then-is-clause-parts : goal.returns-then-is-clause-parts
returns-then-is-clause-parts c = parts_at_separator c.args.separator c.args.text.now c.loop-i.i (omega arith) (cc) c.loop-i.invariant

pub returns-then-is-clause-split : goal.returns-then-is-clause-split
returns-then-is-clause-split c = λ some. IsSplit_at_separator c.args.separator c.args.text.now c.loop-i.i (omega arith) (cc)

pub loop-i-preserved : goal.loop-i-preserved
loop-i-preserved c = parts_past_byte c.args.separator c.args.text.now c.loop-i.i (omega arith) (cc) c.loop-i.invariant

pub returns-clause-parts : goal.returns-clause-parts
returns-clause-parts c = parts_at_end c.args.separator c.args.text.now c.loop-i.i c.requires (omega arith) c.loop-i.invariant
