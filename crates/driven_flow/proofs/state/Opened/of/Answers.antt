use Rattle.std.proofs.Common.{ap, ◌∙◌, subst}
use Rattle.flow_core.specs.Books.{line_of}
use Rattle.flow_core.specs.declared.book.EpochLine.{EpochLine}
use Rattle.driven_flow.specs.DrivenJournals.{Begins}
use Rattle.driven_flow.proofs.state.Opened.of.Goals as goal

pub returns : goal.returns
returns c = record {
  whole = c.in_ok-running.ensures.driven;
  stands = c.in_ok-running.ensures.summary;
  link_case = c.in_ok-link.ensures.case;
  link_stands = c.in_ok-link.ensures.stands;
  calls = c.in_ok-link.ensures.calls;
  journal =
      subst (λ (line : EpochLine). Begins line c.in_ok-journal.journal)
      (c.of-line.ensures ∙ ap (line_of c.in_ok-running.running.epoch 0) c.cwnd.ensures)
      c.in_ok-journal.ensures;
}
