use Rattle.std.proofs.Common.{[], ◌∷◌, ap, ◌∙◌}
use Rattle.flow_core.specs.declared.book.EpochLine.{EpochLine}
use Rattle.flow_core.specs.Bares.{BareState}
use Rattle.flow_core.specs.BookFlows.{begun_line}
use Rattle.flow_core.proofs.book_flow.BookFlow.new.Goals as goal

pub returns-in-Ok : goal.returns-in-Ok
returns-in-Ok c =
    let opened = c.in-Ok.ensures in
    let bare = c.in_ok-bare.ensures in
    let epochs = opened.epochs ∙ ap (λ (line : EpochLine). line ∷ []) (c.begun_line.ensures ∙ ap (λ (b : BareState). begun_line b.summary) bare) in
    λ i. record { bare = bare i; word = opened.word i; tickets = opened.tickets i; epochs = epochs i; faults = opened.faults i }
