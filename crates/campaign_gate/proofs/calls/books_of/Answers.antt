use Rattle.std.proofs.Common.{sym, ◌∙◌}
use Rattle.campaign_gate.proofs.BookLemmas.{made-begins, made-next, made-goes-on, made-ends}
use Rattle.campaign_gate.proofs.calls.books_of.Goals as goal

pub loop-flow-init : goal.loop-flow-init
loop-flow-init c =
    made-begins c.args.flows c.from_vec-flows.result c.new-books.result (c.from_vec-flows.ensures ∙ c.into_vec.ensures) c.new-books.ensures c.requires

pub book_of-requires : goal.book_of-requires
book_of-requires c =
    let l = c.loop-flow in
    made-next c.args.flows l.flows l.books c.in-Some.flow l.invariant (sym c.in-Some.is ∙ c.take.ensures.item)

pub loop-flow-preserved : goal.loop-flow-preserved
loop-flow-preserved c =
    let l = c.loop-flow in
    made-goes-on c.args.flows l.flows c.take.new.self l.books c.push.new.self c.in-Some.flow c.book_of.result l.invariant
    (sym c.in-Some.is ∙ c.take.ensures.item) c.take.ensures.rest c.book_of.ensures.case c.book_of.ensures.book c.in_ok-push.ensures.ok

pub returns-clause-cases : goal.returns-clause-cases
returns-clause-cases c =
    let l = c.loop-flow in
    made-ends c.args.flows l.flows l.books l.invariant (sym c.in_default.is ∙ c.take.ensures.item)
