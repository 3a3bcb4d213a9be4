use Rattle.range_cases.proofs.condition.between.Goals as goal

pub returns-in-Some : goal.returns-in-Some
returns-in-Some c ack going a b is low high small large =
    c.raised.ensures ack going b (c.in-Some.ensures ack going a is low small) high large
