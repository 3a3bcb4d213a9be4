-- A word over a link is the word over the list of the acknowledgements that the link gave on it.
use Rattle.std.specs.Prelude.{◌≡◌, List, [], ◌∷◌, ◌++◌, refl}
use Rattle.std.proofs.Common.{ap, sym, ◌∙◌, append_assoc, append-nil}
use Rattle.ccp_base.specs.declared.ack.Ack.{Ack}
use Rattle.link_model.specs.declared.link_case.LinkCase.{LinkCase}
use Rattle.link_model.specs.Link.{ack_after}
use Rattle.flow_core.specs.declared.letter.Letter.{Letter}
use Rattle.flow_core.specs.declared.letter.Letter.TheVariants.{A, T, C}
use Rattle.flow_core.specs.Readings.{Flow}
use Rattle.flow_core.specs.World.{World, opening, track_of, after_ack, after_take, after_answer}
use Rattle.flow_core.specs.Words.{from_list, from_link, world_from, world_over, world}
use Rattle.flow_core.proofs.WordLemmas.{Agree, take-keeps, answer-keeps, next-given, world_from-agreed}
use Rattle.campaign_core.specs.CampaignRow.{peak_from, peak_of}
use Rattle.campaign_core.proofs.PeakLemmas.{peak_from-agreed}

module _ {X : Type 0} (flow : Flow X) (link : LinkCase) where
  -- a word adds acknowledgements and takes none away
  acks-on : (word : List Letter) (w : World X) → (rest : List Ack) × ((world_from flow (from_link flow link) w word).acks ≡ w.acks ++ rest)
  acks-on [] w = ([], sym (append-nil w.acks))
  acks-on (A ∷ word) w =
      let ack = ack_after link w.windows (track_of flow w).env.cwnd in
      let on = acks-on word (after_ack flow ack w) in
      (ack ∷ on.0, on.1 ∙ append_assoc w.acks (ack ∷ []) on.0)
  acks-on (T ∷ word) w =
      let on = acks-on word (after_take w) in
      (on.0, on.1 ∙ ap (λ (xs : List Ack). xs ++ on.0) (take-keeps flow w).acks)
  acks-on (C ∷ word) w =
      let on = acks-on word (after_answer flow w) in
      (on.0, on.1 ∙ ap (λ (xs : List Ack). xs ++ on.0) (answer-keeps flow w).acks)

  given-agree : (acks : List Ack) (word : List Letter) (w : World X) → acks ≡ (world_from flow (from_link flow link) w word).acks
      → Agree flow (from_link flow link) (from_list acks) w word
  given-agree acks [] w is = tt
  given-agree acks (A ∷ word) w is =
      let ack = ack_after link w.windows (track_of flow w).env.cwnd in
      let on = acks-on word (after_ack flow ack w) in (
        sym (next-given flow acks w ack on.0 (is ∙ on.1 ∙ append_assoc w.acks (ack ∷ []) on.0)),
        given-agree acks word (after_ack flow ack w) is,
      )
  given-agree acks (T ∷ word) w is = (tt, given-agree acks word (after_take w) is)
  given-agree acks (C ∷ word) w is = (tt, given-agree acks word (after_answer flow w) is)

  pub over-given : (word : List Letter) → world flow link word ≡ world_over flow (world flow link word).acks word
  over-given word =
      let acks = (world flow link word).acks in
      world_from-agreed flow (from_link flow link) (from_list acks) word (opening flow) (given-agree acks word (opening flow) refl)

  pub peak-given : (word : List Letter) → peak_of flow link word ≡ peak_from flow (from_list (world flow link word).acks) (opening flow) word
  peak-given word =
      let acks = (world flow link word).acks in
      peak_from-agreed flow (from_link flow link) (from_list acks) word (opening flow) (given-agree acks word (opening flow) refl)
