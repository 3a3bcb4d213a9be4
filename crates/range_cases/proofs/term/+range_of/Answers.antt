use Rattle.std.proofs.Common.{Some, subst}
use Rattle.portus_core.specs.declared.program.Expr.{Expr}
use Rattle.portus_core.specs.Programs.{term_of, term_of-Pair}
use Rattle.portus_core.specs.Command.{value_in}
use Rattle.range_cases.specs.Cases.{Gives}
use Rattle.range_cases.proofs.TermLemmas.{gives_pair}
use Rattle.range_cases.proofs.term.+range_of.Goals as goal

pub returns-in-Some-range_of : goal.returns-in-Some-range_of
returns-in-Some-range_of t c ack going is =
    rw (c.in-Pair.is, term_of-Pair) (gives_pair c.in-Pair.op c.in-Pair.field-1 c.applied.result c.in-Some.a c.in-Some-range_of.b
    (value_in (term_of c.in-Pair.left.value) ack going) (value_in (term_of c.in-Pair.right.value) ack going)
    c.applied.ensures
    (subst (λ (e : Expr). Gives (Some c.in-Some.a) (value_in (term_of e) ack going)) c.deref.ensures (c.in-Some.ensures ack going is))
    (subst (λ (e : Expr). Gives (Some c.in-Some-range_of.b) (value_in (term_of e) ack going)) c.deref-in-Some.ensures (c.in-Some-range_of.ensures ack going is)))
