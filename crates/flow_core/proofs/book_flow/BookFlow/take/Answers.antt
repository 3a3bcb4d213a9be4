use Rattle.std.proofs.Common.{ap, ◌∙◌}
use Rattle.flow_core.specs.declared.letter.Letter.TheVariants.{T}
use Rattle.flow_core.specs.Readings.{over_codes}
use Rattle.flow_core.specs.Summaries.{may_make}
use Rattle.flow_core.specs.BookFlows.{BookFlowState, book_taken}
use Rattle.flow_core.proofs.BookFlowLemmas.{room-T, whole-refused, put-T, whole-T}
use Rattle.flow_core.proofs.book_flow.BookFlow.take.Goals as goal

pub invariant_of-self : goal.invariant_of-self
invariant_of-self c =
    let inside = c.self.inside in
    let may = ap (λ (f : BookFlowState). may_make (over_codes f.bare.case) f.bare.summary T) c.self.view_is ∙ c.requires in
    whole-refused inside.bare inside.journal may c.reserve_lines.new.self c.in_err-reserve_lines.ensures.frame
    c.in_err-reserve_lines.ensures.tickets c.in_err-reserve_lines.ensures.epochs inside.reads_rates c.self.invariant

pub put_take-requires : goal.put_take-requires
put_take-requires c =
    let inside = c.self.inside in
    let may = ap (λ (f : BookFlowState). may_make (over_codes f.bare.case) f.bare.summary T) c.self.view_is ∙ c.requires in
    let lines = c.in_ok-reserve_lines.ensures in
    room-T inside.bare inside.journal may c.reserve_lines.new.self lines.frame lines.tickets lines.epochs inside.reads_rates c.self.invariant c.range.ensures

pub invariant_of-self-2 : goal.invariant_of-self-2
invariant_of-self-2 c =
    let inside = c.self.inside in
    let may = ap (λ (f : BookFlowState). may_make (over_codes f.bare.case) f.bare.summary T) c.self.view_is ∙ c.requires in
    let lines = c.in_ok-reserve_lines.ensures in
    whole-T inside.bare inside.journal may c.reserve_lines.new.self lines.frame lines.tickets lines.epochs
    c.take-ticket.new.self c.put_take.new.self c.take-ticket.ensures.step c.put_take.ensures inside.reads_rates c.self.invariant lines.room

pub returns-clause-ok : goal.returns-clause-ok
returns-clause-ok c =
    let inside = c.self.inside in
    let may = ap (λ (f : BookFlowState). may_make (over_codes f.bare.case) f.bare.summary T) c.self.view_is ∙ c.requires in
    let lines = c.in_ok-reserve_lines.ensures in
    put-T inside.bare inside.journal may c.reserve_lines.new.self lines.frame lines.tickets lines.epochs
    c.take-ticket.new.self c.put_take.new.self c.take-ticket.ensures.step c.put_take.ensures
    ∙ ap book_taken c.self.view_is
