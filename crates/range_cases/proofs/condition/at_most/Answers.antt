use Rattle.std.proofs.Common.{arith}
use Rattle.value_ranges.specs.Ranges.{IsIn}
use Rattle.portus_core.specs.Programs.{term_of}
use Rattle.portus_core.specs.Command.{value_in}
use Rattle.range_cases.proofs.ConditionLemmas.{gives_some}
use Rattle.range_cases.proofs.condition.at_most.Goals as goal

pub returns-in-Some-Some : goal.returns-in-Some-Some
returns-in-Some-Some c ack going a b is left right order =
    let low : IsIn c.in-Some-Some.a a = gives_some c.range_of.result c.in-Some-Some.a (value_in (term_of c.args.left.now) ack going) a c.in-Some-Some.is-0 (c.range_of.ensures ack going is) left in
    let high : IsIn c.in-Some-Some.b b = gives_some c.range_of-2.result c.in-Some-Some.b (value_in (term_of c.args.right.now) ack going) b c.in-Some-Some.is-1 (c.range_of-2.ensures ack going is) right in
    c.between.ensures ack going a b is left right (omega arith) (omega arith)
