use Rattle.std.proofs.Common.{ap, ◌∙◌}
use Rattle.portus_core.specs.declared.program.Expr.{Expr}
use Rattle.portus_core.specs.Programs.{term_of}
use Rattle.portus_core.specs.Command.{value_in}
use Rattle.range_cases.proofs.ConditionLemmas.{IsPairOk, pair_term}
use Rattle.range_cases.proofs.condition.+refined.Goals as goal

pub returns-in-None : goal.returns-in-None
returns-in-None t c ack going value is same truth =
    let parts : IsPairOk c.in-Pair.op (value_in (term_of c.in-Pair.left.value) ack going) (value_in (term_of c.in-Pair.right.value) ack going) value =
    pair_term c.args.condition.now c.in-Pair.op c.in-Pair.field-1 c.in-Pair.left c.in-Pair.right ack going value c.in-Pair.is same in
    let both = c.in-Both.ensures parts.a parts.b value parts.applied truth in
    c.in-None.ensures ack going parts.a is (ap (λ (e : Expr). value_in (term_of e) ack going) c.deref.ensures ∙ parts.left_ok) both.0

pub returns-in-Some : goal.returns-in-Some
returns-in-Some t c ack going value is same truth =
    let parts : IsPairOk c.in-Pair.op (value_in (term_of c.in-Pair.left.value) ack going) (value_in (term_of c.in-Pair.right.value) ack going) value =
    pair_term c.args.condition.now c.in-Pair.op c.in-Pair.field-1 c.in-Pair.left c.in-Pair.right ack going value c.in-Pair.is same in
    let both = c.in-Both.ensures parts.a parts.b value parts.applied truth in
    c.refined-in-Some.ensures ack going parts.b
    (c.in-Some.ensures ack going parts.a is (ap (λ (e : Expr). value_in (term_of e) ack going) c.deref.ensures ∙ parts.left_ok) both.0)
    (ap (λ (e : Expr). value_in (term_of e) ack going) c.deref-in-Some.ensures ∙ parts.right_ok) both.1

pub returns-in-Other : goal.returns-in-Other
returns-in-Other t c ack going value is same truth =
    let parts : IsPairOk c.in-Pair.op (value_in (term_of c.in-Pair.left.value) ack going) (value_in (term_of c.in-Pair.right.value) ack going) value =
    pair_term c.args.condition.now c.in-Pair.op c.in-Pair.field-1 c.in-Pair.left c.in-Pair.right ack going value c.in-Pair.is same in
    c.compared.ensures ack going parts.a parts.b value is
    (ap (λ (e : Expr). value_in (term_of e) ack going) c.deref-in-Other.ensures ∙ parts.left_ok)
    (ap (λ (e : Expr). value_in (term_of e) ack going) c.deref-in-Other-2.ensures ∙ parts.right_ok)
    parts.applied truth
