-- A word over a list that has the link's acknowledgements is the word over the link.
use Rattle.std.specs.Prelude.{◌≡◌, ℕ, ◌+◌, ◌&&◌, Option, Some, None, unwrap_or, List, [], ◌∷◌, ◌++◌, length, slice_get, refl}
use Rattle.std.proofs.Common.{ap, sym, ◌∙◌, subst, arith, append_assoc, append-nil, length-append}
use Rattle.ccp_base.specs.declared.ack.Ack.{Ack}
use Rattle.link_model.specs.declared.link_case.LinkCase.{LinkCase}
use Rattle.link_model.specs.Link.{ack_after, acks_for_windows}
use Rattle.link_model.specs.LinkLaws.{acks_of-push}
use Rattle.flow_core.specs.declared.letter.Letter.{Letter}
use Rattle.flow_core.specs.declared.letter.Letter.TheVariants.{A, T, C}
use Rattle.flow_core.specs.Readings.{Flow}
use Rattle.flow_core.specs.World.{World, opening, track_of, after_ack, after_take, after_answer}
use Rattle.flow_core.specs.Words.{Giving, from_list, from_link, with_given, after_letter, world_from, world_over, world, legal_over, legal}
use Rattle.flow_core.specs.WordLaws.{acks_in}
use Rattle.flow_core.proofs.WordLemmas.{all-given, next-given, take-keeps, answer-keeps, Agree, world_from-agreed, legal_from-agreed}

-- ---- a list that goes on

-- the second list begins with the first
abbrev GoesOn : {Y : Type 0} → List Y → List Y → Type 0
GoesOn {Y} before now = (more : List Y) × (now ≡ before ++ more)

GoesOn-same : {Y : Type 0} → (before now : List Y) → now ≡ before → GoesOn before now
GoesOn-same before now same = ([], same ∙ sym (append-nil before))

GoesOn-one : {Y : Type 0} → (before : List Y) (one : Y) (now : List Y) → GoesOn (before ++ one ∷ []) now → GoesOn before now
GoesOn-one before one now on = (one ∷ on.0, on.1 ∙ append_assoc before (one ∷ []) on.0)

-- more windows give more acknowledgements
acks_of-on : (link : LinkCase) (windows more : List ℕ) → GoesOn (acks_for_windows link windows) (acks_for_windows link (windows ++ more))
acks_of-on link windows [] = GoesOn-same (acks_for_windows link windows) (acks_for_windows link (windows ++ [])) (ap (acks_for_windows link) (append-nil windows))
acks_of-on link windows (window ∷ more) =
    let longer = windows ++ window ∷ [] in
    let on = acks_of-on link longer more in
    let all : acks_for_windows link (windows ++ window ∷ more) ≡ acks_for_windows link longer ++ on.0 =
    ap (acks_for_windows link) (sym (append_assoc windows (window ∷ []) more)) ∙ on.1 in
    GoesOn-one (acks_for_windows link windows) (ack_after link windows window) (acks_for_windows link (windows ++ window ∷ more))
    (on.0, all ∙ ap (λ (xs : List Ack). xs ++ on.0) (acks_of-push link windows window))

module _ {X : Type 0} (flow : Flow X) where
  windows-given : (given : Option Ack) (w : World X) → GoesOn w.windows (with_given flow given w).windows
  windows-given None w = GoesOn-same w.windows w.windows refl
  windows-given (Some ack) w = ((track_of flow w).env.cwnd ∷ [], refl)

  windows-after : (giving : Giving X) (letter : Letter) (w : World X) → GoesOn w.windows (after_letter flow giving w letter).windows
  windows-after giving A w = windows-given (giving w) w
  windows-after giving T w = GoesOn-same w.windows (after_take w).windows (take-keeps flow w).windows
  windows-after giving C w = GoesOn-same w.windows (after_answer flow w).windows (answer-keeps flow w).windows

  -- a word adds windows and takes none away
  windows-on : (giving : Giving X) (word : List Letter) (w : World X) → GoesOn w.windows (world_from flow giving w word).windows
  windows-on giving [] w = GoesOn-same w.windows w.windows refl
  windows-on giving (letter ∷ rest) w =
      let one = windows-after giving letter w in
      let on = windows-on giving rest (after_letter flow giving w letter) in (
        one.0 ++ on.0,
        on.1 ∙ ap (λ (xs : List ℕ). xs ++ on.0) one.1 ∙ append_assoc w.windows one.0 on.0,
      )

  -- ---- from a list to the link

  -- the acknowledgements so far are the link's for the windows so far
  abbrev Linked : LinkCase → World X → Type 0
  Linked link w = w.acks ≡ acks_for_windows link w.windows

  Linked-ack : (link : LinkCase) (ack : Ack) (w : World X) → Linked link w → ack ≡ ack_after link w.windows (track_of flow w).env.cwnd
      → Linked link (after_ack flow ack w)
  Linked-ack link ack w linked same =
      let window = (track_of flow w).env.cwnd in
      (λ i. linked i ++ same i ∷ []) ∙ sym (acks_of-push link w.windows window)

  -- the next one of a list is the link's, if the windows go on with the present `Cwnd`
  next-linked : (link : LinkCase) (acks : List Ack) (w : World X) (windows : List ℕ) → Linked link w
      → GoesOn (w.windows ++ (track_of flow w).env.cwnd ∷ []) windows → acks ≡ acks_for_windows link windows
      → slice_get acks (length w.acks) ≡ Some (ack_after link w.windows (track_of flow w).env.cwnd)
  next-linked link acks w windows linked on same =
      let window = (track_of flow w).env.cwnd in
      let ack = ack_after link w.windows window in
      let longer = w.windows ++ window ∷ [] in
      let more = acks_of-on link longer on.0 in
      let split : acks ≡ w.acks ++ ack ∷ more.0 =
      same ∙ ap (acks_for_windows link) on.1 ∙ more.1
      ∙ ap (λ (xs : List Ack). xs ++ more.0) (acks_of-push link w.windows window)
      ∙ append_assoc (acks_for_windows link w.windows) (ack ∷ []) more.0
      ∙ ap (λ (xs : List Ack). xs ++ ack ∷ more.0) (sym linked) in
      next-given flow acks w ack more.0 split

  Linked-take : (link : LinkCase) (w : World X) → Linked link w → Linked link (after_take w)
  Linked-take link w linked = (take-keeps flow w).acks ∙ linked ∙ ap (acks_for_windows link) (sym (take-keeps flow w).windows)

  Linked-answer : (link : LinkCase) (w : World X) → Linked link w → Linked link (after_answer flow w)
  Linked-answer link w linked = (answer-keeps flow w).acks ∙ linked ∙ ap (acks_for_windows link) (sym (answer-keeps flow w).windows)

  link-agree : (link : LinkCase) (acks : List Ack) (word : List Letter) (w : World X) (rest : List Ack)
      → acks ≡ w.acks ++ rest → acks_in word ≡ length rest → Linked link w
      → acks ≡ acks_for_windows link (world_from flow (from_list acks) w word).windows
      → Agree flow (from_list acks) (from_link flow link) w word
  link-agree link acks [] w rest split all linked same = tt
  link-agree link acks (A ∷ word) w [] split all linked same = absurd (omega arith)
  link-agree link acks (A ∷ word) w (ack ∷ rest) split all linked same =
      let given = next-given flow acks w ack rest split in
      let next = after_ack flow ack w in
      let last : acks ≡ acks_for_windows link (world_from flow (from_list acks) next word).windows =
      subst (λ (g : Option Ack). acks ≡ acks_for_windows link (world_from flow (from_list acks) (with_given flow g w) word).windows) given same in
      let by_link = next-linked link acks w (world_from flow (from_list acks) next word).windows linked
      (windows-on (from_list acks) word next) last in
      let one : ack ≡ ack_after link w.windows (track_of flow w).env.cwnd =
      ap (λ (g : Option Ack). unwrap_or g ack) (sym given ∙ by_link) in
      let after = link-agree link acks word next rest (split ∙ sym (append_assoc w.acks (ack ∷ []) rest)) (omega arith)
      (Linked-ack link ack w linked one) last in (
        by_link,
        subst (λ (g : Option Ack). Agree flow (from_list acks) (from_link flow link) (with_given flow g w) word) (sym given) after,
      )
  link-agree link acks (T ∷ word) w rest split all linked same = (
    tt,
    link-agree link acks word (after_take w) rest (split ∙ ap (λ (xs : List Ack). xs ++ rest) (sym (take-keeps flow w).acks))
        all (Linked-take link w linked) same,
  )
  link-agree link acks (C ∷ word) w rest split all linked same = (
    tt,
    link-agree link acks word (after_answer flow w) rest (split ∙ ap (λ (xs : List Ack). xs ++ rest) (sym (answer-keeps flow w).acks))
        all (Linked-answer link w linked) same,
  )

  -- a list whose acknowledgements are all taken and are the link's for the windows leads to the link's state
  pub over-link : (link : LinkCase) (acks : List Ack) (word : List Letter) → acks_in word ≡ length acks
      → acks ≡ acks_for_windows link (world_over flow acks word).windows → world_over flow acks word ≡ world flow link word
  over-link link acks word all same =
      world_from-agreed flow (from_list acks) (from_link flow link) word (opening flow)
      (link-agree link acks word (opening flow) acks refl all refl same)

  pub legal_over-link : (link : LinkCase) (acks : List Ack) (word : List Letter) → acks_in word ≡ length acks
      → acks ≡ acks_for_windows link (world_over flow acks word).windows → legal_over flow acks word ≡ legal flow link word
  legal_over-link link acks word all same =
      let given = all-given acks word (omega (arith, all)) in
      let legals =
      legal_from-agreed flow (from_list acks) (from_link flow link) word (opening flow)
      (link-agree link acks word (opening flow) acks refl all refl same) in
      λ i. given i && legals i

  -- ---- from the link to its list

  Linked-after : (link : LinkCase) (word : List Letter) (w : World X) → Linked link w → Linked link (world_from flow (from_link flow link) w word)
  Linked-after link [] w linked = linked
  Linked-after link (A ∷ word) w linked =
      let ack = ack_after link w.windows (track_of flow w).env.cwnd in
      Linked-after link word (after_ack flow ack w) (Linked-ack link ack w linked refl)
  Linked-after link (T ∷ word) w linked = Linked-after link word (after_take w) (Linked-take link w linked)
  Linked-after link (C ∷ word) w linked = Linked-after link word (after_answer flow w) (Linked-answer link w linked)

  -- the acknowledgements of a word over the link are the link's for its windows
  pub acks-of-world : (link : LinkCase) (word : List Letter) → (world flow link word).acks ≡ acks_for_windows link (world flow link word).windows
  acks-of-world link word = Linked-after link word (opening flow) refl

  count-acks : (link : LinkCase) (word : List Letter) (w : World X)
      → length (world_from flow (from_link flow link) w word).acks ≡ length w.acks + acks_in word
  count-acks link [] w = omega arith
  count-acks link (A ∷ word) w =
      let ack = ack_after link w.windows (track_of flow w).env.cwnd in
      omega (arith, count-acks link word (after_ack flow ack w), length-append w.acks (ack ∷ []))
  count-acks link (T ∷ word) w =
      count-acks link word (after_take w) ∙ ap (λ (xs : List Ack). length xs + acks_in word) (take-keeps flow w).acks
  count-acks link (C ∷ word) w =
      count-acks link word (after_answer flow w) ∙ ap (λ (xs : List Ack). length xs + acks_in word) (answer-keeps flow w).acks

  -- and there is one for each letter that is an acknowledgement
  pub length-world : (link : LinkCase) (word : List Letter) → length (world flow link word).acks ≡ acks_in word
  length-world link word = count-acks link word (opening flow) ∙ omega arith

  count-windows : (link : LinkCase) (word : List Letter) (w : World X)
      → length (world_from flow (from_link flow link) w word).windows ≡ length w.windows + acks_in word
  count-windows link [] w = omega arith
  count-windows link (A ∷ word) w =
      let window = (track_of flow w).env.cwnd in
      let ack = ack_after link w.windows window in
      omega (arith, count-windows link word (after_ack flow ack w), length-append w.windows (window ∷ []))
  count-windows link (T ∷ word) w =
      count-windows link word (after_take w) ∙ ap (λ (xs : List ℕ). length xs + acks_in word) (take-keeps flow w).windows
  count-windows link (C ∷ word) w =
      count-windows link word (after_answer flow w) ∙ ap (λ (xs : List ℕ). length xs + acks_in word) (answer-keeps flow w).windows

  pub length-windows : (link : LinkCase) (word : List Letter) → length (world flow link word).windows ≡ acks_in word
  length-windows link word = count-windows link word (opening flow) ∙ omega arith
