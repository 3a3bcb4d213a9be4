-- A core with the acknowledgements of its link is the state over that link.
use Rattle.std.specs.Prelude.{Some, Result, Ok, Err, OnOk, OnErr, IfOk, ◌≡◌, ℕ, ◌+◌, ◌<◌, [], ◌∷◌, ◌++◌, length}
use Rattle.std.proofs.Common.{ap, sym, ◌∙◌, subst, arith, length-append}
use Rattle.ccp_base.specs.declared.ack.Ack.{Ack}
use Rattle.link_model.specs.Link.{ack_after, acks_for_windows}
use Rattle.link_model.specs.LinkLaws.{acks_of-push}
use Rattle.link_model.specs.Standing.{LinkState, Stands}
use Rattle.agent_core.specs.declared.ticket.Ticket.{Ticket}
use Rattle.flow_core.specs.declared.letter.Letter.{Letter}
use Rattle.flow_core.specs.declared.letter.Letter.TheVariants.{A, T, C}
use Rattle.flow_core.specs.World.{World, track_of, after_ack, after_take, after_answer}
use Rattle.flow_core.specs.Words.{from_link, after_letter, legal, legal_over}
use Rattle.flow_core.specs.WordLaws.{acks_in, world-append, acks_in-A, acks_in-T, acks_in-C}
use Rattle.flow_core.specs.Books.{out_ticket}
use Rattle.flow_core.specs.Cores.{CoreState, flow_in, world_in, out_in}
use Rattle.flow_core.specs.Cells.{CellState, world_at, ack_at, out_at, IsCell, StateHoldsForSources}
use Rattle.flow_core.proofs.WordLemmas.{take-keeps, answer-keeps, acks-of-world_over}
use Rattle.flow_core.proofs.LinkWordLemmas.{over-link, legal_over-link}
use Rattle.flow_core.proofs.LiftLemmas.{link-lift}

abbrev pub cell_of : CoreState → CellState
cell_of core = record { case = core.case; word = core.word }

-- the state over a link is lifted to the sources
pub lifted : (cell : CellState) → StateHoldsForSources cell
lifted cell ss ca ss_places ca_places ss_same ca_same = link-lift cell.case ss ca ss_places ca_places ss_same ca_same cell.case.link cell.word

module _ (core : CoreState) (link : LinkState) (cell : IsCell core link) where
  pub same : world_in core ≡ world_at (cell_of core)
  same = over-link (flow_in core) core.case.link core.acks core.word cell.all cell.acks

  pub legal-same : legal_over (flow_in core) core.acks core.word ≡ legal (flow_in core) core.case.link core.word
  legal-same = legal_over-link (flow_in core) core.case.link core.acks core.word cell.all cell.acks

  pub acks-same : core.acks ≡ (world_at (cell_of core)).acks
  acks-same = sym (acks-of-world_over (flow_in core) core.acks core.word cell.all) ∙ ap (λ (w : World ℕ). w.acks) same

  pub cell-A : (ack : Ack) (new : CoreState) (next : LinkState) → length core.acks < core.case.acks
      → new ≡ record core { acks = core.acks ++ ack ∷ []; word = core.word ++ A ∷ [] }
      → world_in new ≡ after_ack (flow_in core) ack (world_in core)
      → ack ≡ ack_after core.case.link (world_in core).windows (track_of (flow_in core) (world_in core)).env.cwnd
      → next.case ≡ link.case
      → Stands next ((world_in core).windows ++ (track_of (flow_in core) (world_in core)).env.cwnd ∷ [])
      → next.standing.calls ≡ link.standing.calls + 1
      → IsCell new next
  cell-A ack new next left grown world is_ack case stands calls =
      let w = world_in core in
      let window = (track_of (flow_in core) w).env.cwnd in
      let literal : CoreState = record core { acks = core.acks ++ ack ∷ []; word = core.word ++ A ∷ [] } in
      let windows : (world_in literal).windows ≡ w.windows ++ window ∷ [] = ap (λ (v : World ℕ). v.windows) (ap world_in (sym grown) ∙ world) in
      let more = length-append core.acks (ack ∷ []) in
      let old_calls = cell.calls in
      let whole : IsCell literal next = record {
        case = case ∙ cell.case;
        all = acks_in-A core.word ∙ ap (λ (n : ℕ). n + 1) cell.all ∙ sym more;
        acks =
            (λ i. cell.acks i ++ is_ack i ∷ [])
            ∙ sym (acks_of-push core.case.link w.windows window)
            ∙ ap (acks_for_windows core.case.link) (sym windows);
        stands = subst (Stands next) (sym windows) stands;
        calls = omega (arith, calls, old_calls, more);
        within = omega (arith, left, more);
      } in
      subst (λ (c : CoreState). IsCell c next) (sym grown) whole

  -- a letter that takes no acknowledgement, or a refusal
  pub cell-grown : {R E : Type 0} (letter : Letter) (next : World ℕ) → acks_in (core.word ++ letter ∷ []) ≡ acks_in core.word
      → next.windows ≡ (world_in core).windows → (result : Result R E) (new : CoreState)
      → OnOk result (new ≡ record core { word = core.word ++ letter ∷ [] }) → OnOk result (world_in new ≡ next) → OnErr result (new ≡ core)
      → IsCell new link
  cell-grown letter next none same_windows (Ok r) new grown world unchanged =
      let literal : CoreState = record core { word = core.word ++ letter ∷ [] } in
      let windows : (world_in literal).windows ≡ (world_in core).windows = ap (λ (v : World ℕ). v.windows) (ap world_in (sym grown) ∙ world) ∙ same_windows in
      let whole : IsCell literal link = record {
        case = cell.case;
        all = none ∙ cell.all;
        acks = cell.acks ∙ ap (acks_for_windows core.case.link) (sym windows);
        stands = subst (Stands link) (sym windows) cell.stands;
        calls = cell.calls;
        within = cell.within;
      } in
      subst (λ (c : CoreState). IsCell c link) (sym grown) whole
  cell-grown letter next none same_windows (Err e) new grown world unchanged = subst (λ (c : CoreState). IsCell c link) (sym unchanged) cell

  pub cell-taken : {R E : Type 0} (result : Result R E) (new : CoreState)
      → OnOk result (new ≡ record core { word = core.word ++ T ∷ [] }) → OnOk result (world_in new ≡ after_take (world_in core)) → OnErr result (new ≡ core)
      → IsCell new link
  cell-taken result new =
      cell-grown T (after_take (world_in core)) (acks_in-T core.word) (take-keeps (flow_in core) (world_in core)).windows result new

  pub cell-settled : {R E : Type 0} (result : Result R E) (new : CoreState)
      → OnOk result (new ≡ record core { word = core.word ++ C ∷ [] }) → OnOk result (world_in new ≡ after_answer (flow_in core) (world_in core)) → OnErr result (new ≡ core)
      → IsCell new link
  cell-settled result new =
      cell-grown C (after_answer (flow_in core) (world_in core)) (acks_in-C core.word) (answer-keeps (flow_in core) (world_in core)).windows result new

module _ (core new : CoreState) where
  pub world-A-at : (ack : Ack) → new ≡ record core { acks = core.acks ++ ack ∷ []; word = core.word ++ A ∷ [] }
      → world_at (cell_of new) ≡ after_ack (flow_in core) (ack_at (cell_of core)) (world_at (cell_of core))
  world-A-at ack grown = ap (λ (c : CoreState). world_at (cell_of c)) grown ∙ world-append (flow_in core) core.case.link core.word A

  pub world-grown : {R E : Type 0} (letter : Letter) (result : Result R E) → OnOk result (new ≡ record core { word = core.word ++ letter ∷ [] })
      → OnOk result (world_at (cell_of new) ≡ after_letter (flow_in core) (from_link (flow_in core) core.case.link) (world_at (cell_of core)) letter)
  world-grown letter (Ok r) grown =
      ap (λ (c : CoreState). world_at (cell_of c)) grown ∙ world-append (flow_in core) core.case.link core.word letter
  world-grown letter (Err e) grown = tt

pub ticket-at : {E : Type 0} (new : CoreState) (link : LinkState) → IsCell new link → (result : Result Ticket E)
    → IfOk result (λ ticket. out_in new ≡ Some ticket) → IfOk result (λ ticket. out_at (cell_of new) ≡ Some ticket)
ticket-at new link cell (Ok ticket) out = sym (ap (out_ticket (flow_in new)) (same new link cell)) ∙ out
ticket-at new link cell (Err e) out = tt
