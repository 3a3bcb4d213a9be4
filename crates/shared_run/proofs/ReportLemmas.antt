-- At a run's end the answered tickets of each flow have all reports that it made.
use Rattle.std.specs.Prelude.{◌≡◌, ℕ, zero, suc, ◌+◌, Bool, true, false, if◌then◌else◌, Option, Some, None, List, [], ◌∷◌, ◌++◌, length, map, slice_get, refl}
use Rattle.std.proofs.Common.{ap, sym, ◌∙◌, subst, append-nil, length-append}
use Rattle.std.proofs.lemmas.Option.{same_Some, none-some}
use Rattle.ccp_base.specs.declared.ack.Ack.{Ack}
use Rattle.ccp_base.specs.declared.exchange.Report.{Report}
use Rattle.flow_core.specs.declared.case.Case.{Case}
use Rattle.flow_core.specs.declared.letter.Letter.{Letter}
use Rattle.flow_core.specs.declared.letter.Letter.TheVariants.{A, T, C}
use Rattle.flow_core.specs.World.{World}
use Rattle.flow_core.specs.Words.{from_list, is_legal}
use Rattle.flow_core.specs.WordLaws.{acks_in-A, world_over-append}
use Rattle.flow_core.specs.Cores.{CoreState, with_ack}
use Rattle.flow_core.proofs.WordLemmas.{world_over-A}
use Rattle.campaign_core.specs.ReportsMade.{reports_made, reports_answered}
use Rattle.campaign_core.proofs.PlanLemmas.{MadeBy}
use Rattle.campaign_core.proofs.ReportsMadeLemmas.{KeepsMade, ack-made, letter-made, none-left, count-length}
use Rattle.shared_link.specs.declared.shared_case.SharedCase.{SharedCase}
use Rattle.shared_link.specs.SharedRounds.{acks_after}
use Rattle.campaign_core.specs.FlowRow.{CaseReading, world_of_core, opened, with_letter}
use Rattle.shared_run.specs.RoundLetters.{answers_next, settling_letter, with_next, settled_in, with_settled_ack, round_part, closed_flow}
use Rattle.shared_run.specs.SharedHistory.{Progress, asks_of, parts, after_round, have_all, rounds_from, round_limit}
use Rattle.shared_run.specs.SharedReports.{CountsReports, RowsCountReports}
use Rattle.shared_run.proofs.TurnLemmas.{HasAll, no-ack, answered-out, next-made, all-by, closed-still}

module _ {X : Type 0} (read : CaseReading X) where
  -- the word has all acknowledgements; and the answered tickets, the one that is out and the reports that wait are those
  -- that the epochs made
  record KeepsReports (core : CoreState) : Type 0 where
    all : HasAll core
    made : KeepsMade (read core.case) (world_of_core read core)

  abbrev AllKeep : List CoreState → Type 0
  AllKeep [] = Unit {0}
  AllKeep (core ∷ rest) = KeepsReports core × AllKeep rest

  -- ---- a letter

  letter-legal : (at_end : Bool) (core : CoreState) (letter : Letter)
      → MadeBy (answers_next at_end read core) (is_legal (read core.case) (world_of_core read core) T) false letter
      → is_legal (read core.case) (world_of_core read core) letter ≡ true
  letter-legal at_end core A is = absurd (no-ack is.2)
  letter-legal at_end core T is = is.1
  letter-legal at_end core C is = answered-out read at_end core is

  with-letter : (at_end : Bool) (core : CoreState) (letter : Letter) → settling_letter at_end read core ≡ Some letter
      → KeepsReports core → KeepsReports (with_letter letter core)
  with-letter at_end core letter is keeps =
      let flow = read core.case in
      let by = next-made read at_end core (Some letter) is in
      record {
        all = all-by read at_end core letter by keeps.all;
        made =
            subst (λ (w : World X). KeepsMade flow w) (sym (world_over-append flow core.acks core.word letter))
            (letter-made flow (from_list core.acks) letter (world_of_core read core) (letter-legal at_end core letter by) keeps.made);
      }

  next-keeps : (at_end : Bool) (m : ℕ) (core : CoreState) (next : Option Letter) → settling_letter at_end read core ≡ next → KeepsReports core
      → ((after : CoreState) → KeepsReports after → KeepsReports (settled_in at_end read m after))
      → KeepsReports (with_next next (settled_in at_end read m) core)
  next-keeps at_end m core None is keeps rest = keeps
  next-keeps at_end m core (Some letter) is keeps rest = rest (with_letter letter core) (with-letter at_end core letter is keeps)

  settled-in-keeps : (at_end : Bool) (m : ℕ) (core : CoreState) → KeepsReports core → KeepsReports (settled_in at_end read m core)
  settled-in-keeps at_end zero core keeps = keeps
  settled-in-keeps at_end (suc m) core keeps =
      next-keeps at_end m core (settling_letter at_end read core) refl keeps (λ after kept. settled-in-keeps at_end m after kept)

  with-ack : (ack : Ack) (core : CoreState) → KeepsReports core → KeepsReports (with_ack core ack)
  with-ack ack core keeps =
      let flow = read core.case in
      record {
        all = acks_in-A core.word ∙ ap (λ (n : ℕ). n + 1) keeps.all ∙ sym (length-append core.acks (ack ∷ []));
        made =
            subst (λ (w : World X). KeepsMade flow w) (sym (world_over-A flow core.acks ack core.word keeps.all))
            (ack-made flow ack (world_of_core read core) keeps.made);
      }

  -- ---- a part, a round and a run

  part-keeps : (acks : List Ack) (core : CoreState) → KeepsReports core → KeepsReports (round_part read acks core)
  part-keeps [] core keeps = keeps
  part-keeps (ack ∷ rest) core keeps =
      part-keeps rest (with_settled_ack read ack core) (settled-in-keeps false _ (with_ack core ack) (with-ack ack core keeps))

  parts-keep : (lists : List (List Ack)) (flows : List CoreState) → AllKeep flows → AllKeep (parts read lists flows)
  parts-keep [] flows keep = keep
  parts-keep (acks ∷ others) [] keep = tt
  parts-keep (acks ∷ others) (core ∷ rest) keep = (part-keeps acks core keep.0, parts-keep others rest keep.1)

  opened-keep : (cases : List Case) → AllKeep (map opened cases)
  opened-keep [] = tt
  opened-keep (case ∷ rest) = (record { all = refl; made = refl }, opened-keep rest)

  ends-keep : (link : SharedCase) (more : ℕ) (run : Progress) (b : Bool) → AllKeep run.flows → AllKeep (rounds_from link read more run).flows
      → AllKeep (if b then run else rounds_from link read more run).flows
  ends-keep link more run true now later = now
  ends-keep link more run false now later = later

  rounds-keep : (link : SharedCase) (more : ℕ) (run : Progress) → AllKeep run.flows → AllKeep (rounds_from link read more run).flows
  rounds-keep link zero run keep = keep
  rounds-keep link (suc more) run keep =
      let next = after_round link read run in
      let kept = parts-keep (acks_after link run.history (asks_of read run.flows)) run.flows keep in
      ends-keep link more next (have_all next.flows) kept (rounds-keep link more next kept)

  -- ---- the end

  closed-counts : (core : CoreState) → KeepsReports core → CountsReports read (closed_flow read core)
  closed-counts core keeps =
      let end = closed_flow read core in
      let flow = read end.case in
      let w = world_of_core read end in
      let kept = settled-in-keeps true _ core keeps in
      let none = none-left flow false w.out w.waiting w.untold (closed-still read core) in
      let answered : reports_answered w.answered ≡ reports_made flow w =
      sym (append-nil (reports_answered w.answered))
      ∙ ap (λ (xs : List Report). reports_answered w.answered ++ xs) (sym none)
      ∙ kept.made in
      record {
        answered = answered;
        counted = count-length flow w.answered ∙ ap (λ (xs : List Report). length xs) answered;
      }

  closed-at : (flows : List CoreState) (number : ℕ) (core : CoreState) → AllKeep flows → slice_get (map (closed_flow read) flows) number ≡ Some core
      → CountsReports read core
  closed-at [] number core keep at = absurd (none-some core at)
  closed-at (first ∷ rest) zero core keep at =
      subst (λ (one : CoreState). CountsReports read one) (same_Some (closed_flow read first) core at) (closed-counts first keep.0)
  closed-at (first ∷ rest) (suc number) core keep at = closed-at rest number core keep.1 at

  pub rows-count-reports : RowsCountReports read
  rows-count-reports link cases rounds number core at =
      closed-at (rounds_from link read (round_limit cases rounds) (record { history = []; flows = map opened cases })).flows number core
      (rounds-keep link (round_limit cases rounds) (record { history = []; flows = map opened cases }) (opened-keep cases)) at
