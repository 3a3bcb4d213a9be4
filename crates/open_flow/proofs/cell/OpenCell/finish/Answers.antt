use Rattle.std.proofs.Common.{◌≡◌, true, List, map, sym, ap, ◌∙◌, subst}
use Rattle.portus_core.specs.Epoch.{Track}
use Rattle.open_flow.specs.declared.book.OpenBook.{OpenBook}
use Rattle.open_flow.specs.declared.entry.Entry.{Entry}
use Rattle.open_flow.specs.Entries.{installed_of, AreStepsFrom}
use Rattle.open_flow.specs.OpenWords.{legal}
use Rattle.open_flow.specs.OpenBooks.{IsOpenBookOf, seen_of}
use Rattle.open_flow.specs.OpenCells.{OpenState, world_at}
use Rattle.open_flow.proofs.cell.OpenCell.finish.Goals as goal

pub returns-clause-legal : goal.returns-clause-legal
returns-clause-legal c =
    subst (λ (cell : OpenState). legal cell.case cell.word ≡ true) c.self.view_is c.self.invariant.legal

pub returns-clause-book : goal.returns-clause-book
returns-clause-book c =
    let s = c.self.inside.state in
    let keeps = c.self.invariant.keeps in
    let book : OpenBook = record {
      case = s.case;
      word = c.into_sequence.result;
      entries = c.into_sequence-2.result;
      installed = c.into_sequence-3.result;
      epochs = c.into_sequence-4.result;
      reports = c.into_sequence-5.result;
      faults = c.into_sequence-6.result;
      acks = s.acks;
      first = c.first_in.result;
      machine = s.machine;
    } in
    subst (λ (cell : OpenState). IsOpenBookOf (world_at cell) book) c.self.view_is
    (record {
      steps = subst (λ (entries : List Entry). AreStepsFrom 0 entries) (sym c.into_sequence-2.ensures) c.self.invariant.fit.steps;
      entries = ap (map installed_of) c.into_sequence-2.ensures ∙ keeps.entries;
      installed = c.into_sequence-3.ensures ∙ keeps.installed;
      epochs = c.into_sequence-4.ensures ∙ keeps.epochs;
      reports = c.into_sequence-5.ensures ∙ keeps.reports;
      acks = keeps.acks;
      faults = (λ i. map (seen_of (c.into_sequence-2.ensures i)) (c.into_sequence-6.ensures i)) ∙ keeps.faults;
      first = c.first_in.ensures ∙ ap (λ (t : Track). t.first) keeps.track;
      registers = ap (λ (t : Track). t.env) keeps.track;
      stopped = ap (λ (t : Track). t.is_stopped) keeps.track;
    })
