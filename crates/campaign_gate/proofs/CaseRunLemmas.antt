-- One more letter of the campaign word keeps a flow and its link on their way.
use Rattle.std.specs.Prelude.{◌≡◌, ℕ, ◌+◌, ◌-◌, ◌*◌, ◌<◌, ◌≤◌, Bool, true, false, is_some, if◌then◌else◌, Option, Some, None, option_map, Result, Ok, Err, OnOk, List, [], ◌∷◌, ◌++◌, length, refl}
use Rattle.std.proofs.Common.{arith, ap, sym, ◌∙◌, subst, append_assoc, append-nil, length-append}
use Rattle.std.proofs.lemmas.Bool.{ltb-true}
use Rattle.ccp_base.specs.declared.ack.Ack.{Ack}
use Rattle.ccp_base.specs.Limits.{most_acks}
use Rattle.link_model.specs.Link.{run_of, ack_after}
use Rattle.link_model.specs.Standing.{LinkState, Stands, StandsOn, standing_of}
use Rattle.link_model.specs.Rated.{rated, IsRatedAnswer}
use Rattle.flow_core.specs.declared.case.Case.{Case}
use Rattle.flow_core.specs.declared.letter.Letter.{Letter}
use Rattle.flow_core.specs.declared.letter.Letter.TheVariants.{A, T, C}
use Rattle.flow_core.specs.Readings.{Flow, over_codes}
use Rattle.flow_core.specs.World.{Taken, World, notice_of}
use Rattle.flow_core.specs.Words.{from_link, after_letter, is_legal, most_letters}
use Rattle.flow_core.specs.WordLaws.{world-append}
use Rattle.flow_core.specs.LettersLeft.{letters_left, left_at}
use Rattle.flow_core.specs.States.{issued_as}
use Rattle.flow_core.specs.Bares.{BareState}
use Rattle.flow_core.specs.Cells.{CellState, flow_at, world_at, bare_at, ack_at}
use Rattle.flow_core.specs.Cells as cells
use Rattle.flow_core.specs.Cores.{CoreState, world_in, with_ack}
use Rattle.flow_core.specs.Summaries.{summary}
use Rattle.flow_core.proofs.LeftLemmas.{left-letter}
use Rattle.flow_core.proofs.LinkWordLemmas.{length-world, length-windows}
use Rattle.flow_core.proofs.MappedLemmas.{count-mapped}
use Rattle.flow_core.proofs.SummaryLemmas.{summary-legal}
use Rattle.flow_core.proofs.WordLemmas.{Keeps, take-keeps, answer-keeps}
use Rattle.campaign_core.specs.declared.tally.Tally.{Tally}
use Rattle.campaign_core.specs.BareLetters.{left_in, due_to}
use Rattle.campaign_core.specs.CampaignWord.{is_late, first_letter, plan_from, plan}
use Rattle.campaign_core.specs.CampaignRow.{sums_of, sums_with, AreRoomy, row_over, case_row}
use Rattle.campaign_core.specs.FlowRow.{opened, with_letter, flow_peak, flow_row}
use Rattle.campaign_core.specs.GivenFlows.{bare_after, MayMake, IsAfterHistory, Goes}
use Rattle.campaign_core.proofs.GivenFlowLemmas.{is-bare, sums-heard}
use Rattle.campaign_core.proofs.PlanLemmas.{next-legal, plan-next, plan-none}
use Rattle.campaign_core.proofs.SumLemmas.{sums-append, roomy, calls-run}
use Rattle.campaign_gate.specs.CampaignBooks.{planned}
use Rattle.campaign_gate.specs.CaseRuns.{next_in, next_planned, plan_at, given_at, link_at, core_of_case, IsOnWay, IsNextLetter, Onward}
use Rattle.campaign_gate.proofs.GivenLemmas.{over-given, peak-given}

-- ---- what later letters depend on

-- as many letters are left as by the flow's history
left-bare : (cell : CellState) → left_in (bare_at cell) ≡ left_at cell
left-bare cell =
    let flow = flow_at cell in
    let w = world_at cell in
    λ i. most_letters (cell.case.acks - length w.acks)
    + (2 * (length w.waiting + count-mapped (notice_of flow) w.untold i) + count-mapped (issued_as flow) w.out i)

due-out : (flow : Flow ℕ) (lag acks : ℕ) (more : Bool) (out : Option (Taken ℕ))
    → (if more then is_late lag acks out else is_some out) ≡ due_to more lag acks (option_map (λ issued. issued.taken) (option_map (issued_as flow) out))
due-out flow lag acks true None = refl
due-out flow lag acks false None = refl
due-out flow lag acks true (Some ticket) = refl
due-out flow lag acks false (Some ticket) = refl

-- the next letter is that of the flow's history
next-bare : (cell : CellState) → next_planned cell ≡ next_in (bare_at cell)
next-bare cell =
    let flow = flow_at cell in
    let w = world_at cell in
    let due = due-out flow cell.case.lag (length w.acks) (is_legal flow w A) w.out in
    λ i. first_letter (due i) (summary-legal flow T w i) (is_legal flow w A)

-- ---- a letter

module _ (cell : CellState) where
  abbrev flow : Flow ℕ
  flow = flow_at cell

  abbrev before : World ℕ
  before = world_at cell

  abbrev made : Letter → World ℕ
  made letter = after_letter flow (from_link flow cell.case.link) before letter

  pub world-longer : (letter : Letter) → world_at (cells.with_letter letter cell) ≡ made letter
  world-longer letter = world-append flow cell.case.link cell.word letter

  module _ (letter : Letter) (next : next_planned cell ≡ Some letter) where
    may : is_legal flow before letter ≡ true
    may = next-legal flow cell.case.lag before letter next

    pub fewer-longer : left_at (cells.with_letter letter cell) < left_at cell
    fewer-longer =
        subst (λ (w : World ℕ). letters_left flow w < letters_left flow before) (sym (world-longer letter))
        (left-letter flow cell.case.link letter before may)

    plan-longer : length cell.word + left_at cell ≤ most_letters cell.case.acks → cell.word ++ plan_at cell ≡ plan cell.case
        → (cell.word ++ letter ∷ []) ++ plan_at (cells.with_letter letter cell) ≡ plan cell.case
    plan-longer left planned =
        let case = cell.case in
        let word = cell.word in
        let most = most_letters case.acks - length word in
        let fewer = fewer-longer in
        let some : 0 < most = omega (arith, fewer, left) in
        let one : most_letters case.acks - length (word ++ letter ∷ []) ≡ most - 1 = omega (arith, length-append word (letter ∷ [])) in
        append_assoc word (letter ∷ []) (plan_at (cells.with_letter letter cell))
        ∙ (λ i. word ++ letter ∷ plan_from flow case.link case.lag (one i) (world-longer letter i))
        ∙ ap (λ (rest : List Letter). word ++ rest) (sym (plan-next flow case.lag case.link most before letter next some))
        ∙ planned

-- ---- the flow alone and the link alone

module _ (cell : CellState) where
  -- the state with the acknowledgements of the link is that with the same acknowledgements in a list
  pub world-given : world_in (given_at cell) ≡ world_at cell
  world-given = sym (over-given (flow_at cell) cell.case.link cell.word)

  pub bare-given : bare_after (given_at cell) ≡ bare_at cell
  bare-given = λ i. record { case = cell.case; summary = summary (flow_at cell) (world-given i) }

  given-A : with_ack (given_at cell) (ack_at cell) ≡ given_at (cells.with_letter A cell)
  given-A = λ i. record {
    case = cell.case;
    acks = ap (λ (w : World ℕ). w.acks) (sym (world-longer cell A)) i;
    word = cell.word ++ A ∷ [];
  }

  -- a letter that leaves acknowledgements and windows
  module _ (letter : Letter) (keeps : Keeps (world_at cell) (made cell letter)) where
    given-kept : with_letter letter (given_at cell) ≡ given_at (cells.with_letter letter cell)
    given-kept = λ i. record {
      case = cell.case;
      acks = (sym keeps.acks ∙ ap (λ (w : World ℕ). w.acks) (sym (world-longer cell letter))) i;
      word = cell.word ++ letter ∷ [];
    }

    link-kept : link_at cell ≡ link_at (cells.with_letter letter cell)
    link-kept =
        let windows = sym keeps.windows ∙ ap (λ (w : World ℕ). w.windows) (sym (world-longer cell letter)) in
        λ i. record { case = cell.case.link; standing = standing_of cell.case.link (run_of cell.case.link (windows i)) }

module _ {F : Type 0} (at : CoreState → F) (bare_of : F → BareState) (law : (core : CoreState) → bare_of (at core) ≡ bare_after core)
    (flow : F) (tally : Tally) (link : LinkState) where
  -- what later letters depend on
  bare-on : (cell : CellState) → IsAfterHistory at (given_at cell) flow tally → bare_of flow ≡ bare_at cell
  bare-on cell after = is-bare at bare_of law flow (given_at cell) after.flow_is ∙ bare-given cell

  -- what comes next by what later letters depend on
  pub next-is : (on : IsOnWay at flow tally link) (next : Option Letter) → next ≡ next_in (bare_of flow) → next_planned on.cell ≡ next
  next-is on next is = next-bare on.cell ∙ sym (ap next_in (bare-on on.cell on.after)) ∙ sym is

  -- a flow without a letter
  pub on-opened : (case : Case) → IsAfterHistory at (opened case) flow tally → link.case ≡ (bare_of flow).case.link → Stands link [] → IsOnWay at flow tally link
  on-opened case after its stands =
      let cell : CellState = record { case = case; word = [] } in
      let is : link.case ≡ case.link = its ∙ ap (λ (b : BareState). b.case.link) (bare-on cell after) in
      let most : most_letters case.acks ≡ most_letters case.acks - 0 = omega arith in
      record {
        cell = cell;
        after = after;
        link_is = λ i. record { case = is i; standing = (stands ∙ (λ j. standing_of (is j) (run_of (is j) []))) i };
        plan = ap (λ (n : ℕ). plan_from (flow_at cell) case.link case.lag n (world_at cell)) (sym most);
        left = omega arith;
      }

  -- if nothing comes next, the word is the campaign word
  pub on-ended : (on : IsOnWay at flow tally link) → next_in (bare_of flow) ≡ None → (case : Case) → (bare_of flow).case ≡ case
      → IsAfterHistory at (core_of_case case) flow tally
  on-ended on none case same =
      let cell = on.cell in
      let none_planned = next-is on None (sym none) in
      let whole : cell.word ≡ plan cell.case =
      sym (append-nil cell.word)
      ∙ ap (λ (rest : List Letter). cell.word ++ rest)
      (sym (plan-none (flow_at cell) cell.case.lag cell.case.link (most_letters cell.case.acks - length cell.word) (world_at cell) none_planned))
      ∙ on.plan in
      let is : cell ≡ planned cell.case = λ i. record { case = cell.case; word = whole i } in
      let its : cell.case ≡ case = sym (ap (λ (b : BareState). b.case) (bare-on cell on.after)) ∙ same in
      subst (λ (c : Case). IsAfterHistory at (core_of_case c) flow tally) its
      (subst (λ (c : CellState). IsAfterHistory at (given_at c) flow tally) is on.after)

  -- the flow is after a word at whose end its next letter is legal
  pub may-next : (letter : Letter) → IsNextLetter at flow tally link letter → MayMake at letter flow
  may-next letter n =
      let cell = n.on.cell in
      record {
        core = given_at cell;
        whole = n.on.after.whole;
        after = n.on.after.flow_is;
        legal = ap (λ (w : World ℕ). is_legal (flow_at cell) w letter) (world-given cell) ∙ may cell letter n.next;
      }

  module _ (new : F) (now : Tally) (next : LinkState) where
    -- the flow is on its way after its next letter, and fewer letters are left
    onward : (letter : Letter) (n : IsNextLetter at flow tally link letter) → IsAfterHistory at (given_at (cells.with_letter letter n.on.cell)) new now
        → next ≡ link_at (cells.with_letter letter n.on.cell) → Onward at bare_of flow new now next
    onward letter n after stands =
        let on = n.on in
        let cell = on.cell in
        let longer = cells.with_letter letter cell in
        let fewer = fewer-longer cell letter n.next in
        let left = on.left in
        let old_bare = bare-on cell on.after in
        let new_bare = is-bare at bare_of law new (given_at longer) after.flow_is ∙ bare-given longer in
        record {
          on = record {
            cell = longer;
            after = after;
            link_is = stands;
            plan = plan-longer cell letter n.next left on.plan;
            left = omega (arith, fewer, left, length-append cell.word (letter ∷ []));
          };
          case = ap (λ (b : BareState). b.case) new_bare ∙ sym (ap (λ (b : BareState). b.case) old_bare);
          fewer =
              subst (λ (m : ℕ). m < left_in (bare_of flow)) (sym (ap left_in new_bare ∙ left-bare longer))
              (subst (λ (m : ℕ). left_at longer < m) (sym (ap left_in old_bare ∙ left-bare cell)) fewer);
        }

    onward-kept : (letter : Letter) (n : IsNextLetter at flow tally link letter) → Keeps (world_at n.on.cell) (made n.on.cell letter) → next ≡ link
        → Goes at (with_letter letter) flow tally new now → Onward at bare_of flow new now next
    onward-kept letter n keeps same goes =
        let cell = n.on.cell in
        onward letter n (subst (λ (c : CoreState). IsAfterHistory at c new now) (given-kept cell letter keeps) (goes (given_at cell) n.on.after))
        (same ∙ n.on.link_is ∙ link-kept cell letter keeps)

    pub onward-T : IsNextLetter at flow tally link T → next ≡ link → Goes at (with_letter T) flow tally new now → Onward at bare_of flow new now next
    onward-T n = onward-kept T n (take-keeps (flow_at n.on.cell) (world_at n.on.cell))

    pub onward-C : IsNextLetter at flow tally link C → next ≡ link → Goes at (with_letter C) flow tally new now → Onward at bare_of flow new now next
    onward-C n = onward-kept C n (answer-keeps (flow_at n.on.cell) (world_at n.on.cell))

  -- ---- an acknowledgement

  module _ (n : IsNextLetter at flow tally link A) where
    abbrev here : CellState
    here = n.on.cell

    stands-here : Stands link (world_at here).windows
    stands-here = subst (λ (l : LinkState). Stands l (world_at here).windows) (sym n.on.link_is) refl

    -- the link was given fewer windows than a link can be given
    pub few-calls : link.standing.calls < most_acks
    few-calls =
        let w = world_at here in
        let more : length w.acks < here.case.acks = ltb-true (length w.acks) here.case.acks (may here A n.next) in
        let most : here.case.acks ≤ 65536 = here.case.acks_within in
        let calls : link.standing.calls ≡ length w.windows =
        ap (λ (l : LinkState). l.standing.calls) n.on.link_is ∙ calls-run here.case.link w.windows in
        omega (arith, calls, length-world (flow_at here) here.case.link here.word, length-windows (flow_at here) here.case.link here.word, more, most)

    module _ (window : ℕ) (rates : Bool) (ack : Ack) (is_window : window ≡ (bare_of flow).summary.track.env.cwnd) (answer : IsRatedAnswer rates link window ack) where
      window-is : window ≡ (bare_at here).summary.track.env.cwnd
      window-is = is_window ∙ ap (λ (b : BareState). b.summary.track.env.cwnd) (bare-on here n.on.after)

      -- it is the link's next one
      pub ack-is : ack ≡ rated rates (ack_at here)
      ack-is =
          answer (world_at here).windows stands-here
          ∙ (λ i. rated rates (ack_after (n.on.link_is i).case (world_at here).windows (window-is i)))

      -- the sums with it are numbers of 64 bits
      pub roomy-next : AreRoomy (sums_with ack tally.sums)
      roomy-next =
          let before = world_at here in
          let longer : (world_at (cells.with_letter A here)).acks ≡ before.acks ++ ack_at here ∷ [] = ap (λ (w : World ℕ). w.acks) (world-longer here A) in
          let more : length before.acks < here.case.acks = ltb-true (length before.acks) here.case.acks (may here A n.next) in
          let most : here.case.acks ≤ 65536 = here.case.acks_within in
          let few : length (world_at (cells.with_letter A here)).acks ≤ 65536 =
          omega (arith, ap length longer, length-append before.acks (ack_at here ∷ []), more, most) in
          subst AreRoomy
          (ap sums_of longer ∙ sums-append before.acks (ack_at here)
          ∙ sym (ap (λ (t : Tally). sums_with (ack_at here) t.sums) n.on.after.tally_is)
          ∙ sym (sums-heard rates ack (ack_at here) tally.sums ack-is))
          (roomy (flow_at here) here.case.link (here.word ++ A ∷ []) few)

      pub onward-A : (new : F) (now : Tally) (next : LinkState)
          → ((whole : Ack) → ack ≡ rated rates whole → Goes at (λ (core : CoreState). with_ack core whole) flow tally new now)
          → StandsOn link window next → next.case ≡ link.case → Onward at bare_of flow new now next
      onward-A new now next goes stands same =
          let longer = cells.with_letter A here in
          let case : next.case ≡ here.case.link = same ∙ ap (λ (l : LinkState). l.case) n.on.link_is in
          let windows : (world_at here).windows ++ window ∷ [] ≡ (world_at longer).windows =
          ap (λ (m : ℕ). (world_at here).windows ++ m ∷ []) window-is ∙ ap (λ (w : World ℕ). w.windows) (sym (world-longer here A)) in
          let standing : next.standing ≡ standing_of here.case.link (run_of here.case.link (world_at longer).windows) =
          stands (world_at here).windows stands-here ∙ (λ i. standing_of (case i) (run_of (case i) (windows i))) in
          onward new now next A n
          (subst (λ (c : CoreState). IsAfterHistory at c new now) (given-A here) (goes (ack_at here) ack-is (given_at here) n.on.after))
          (λ i. record { case = case i; standing = standing i })

-- ---- the row

-- the row of a flow that was given its link's acknowledgements is that over the link
pub row-of-case : (case : Case) → flow_row over_codes (core_of_case case) ≡ case_row case
row-of-case case =
    let cell = planned case in
    (λ i. row_over (flow_at cell) (world-given cell i) (flow_peak over_codes (given_at cell)))
    ∙ ap (row_over (flow_at cell) (world_at cell)) (sym (peak-given (flow_at cell) case.link (plan case)))
