use Rattle.std.proofs.Common.{ap, ◌∙◌, List, map}
use Rattle.flow_core.specs.declared.case.Case.{Case}
use Rattle.campaign_gate.specs.CaseRuns.{book_flow_of_case}
use Rattle.campaign_gate.proofs.BookLemmas.{are-planned, campaign-books}
use Rattle.campaign_gate.proofs.LiftedRowLemmas.{source-plan}
use Rattle.campaign_gate.proofs.calls.books.Goals as goal

pub books_of-requires : goal.books_of-requires
books_of-requires g c =
    are-planned c.in_ok-flows.flows c.args.cases (c.in_ok-flows.ensures ∙ ap (λ (cases : List Case). map book_flow_of_case cases) c.as_slice.ensures)

pub returns-clause-books : goal.returns-clause-books
returns-clause-books g c =
    campaign-books c.in_ok-flows.flows c.args.cases c.books_of.result
    (c.in_ok-flows.ensures ∙ ap (λ (cases : List Case). map book_flow_of_case cases) c.as_slice.ensures) c.books_of.ensures.cases c.books_of.ensures.books

pub returns-clause-source : goal.returns-clause-source
returns-clause-source g c case = source-plan case

pub returns-in_err-flows-clause-source : goal.returns-in_err-flows-clause-source
returns-in_err-flows-clause-source g c case = source-plan case
