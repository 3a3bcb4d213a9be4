-- A flow of a run on the way of its part of a round and of its end, whatever it keeps of its history.
use Rattle.std.specs.Prelude.{◌≡◌, ◌<◌, ◌≤◌, ◌-◌, Bool, true, false, List, [], ◌∷◌, ◌++◌, length}
use Rattle.std.proofs.Common.{arith, ap, sym, ◌∙◌, subst, length-append, append_assoc}
use Rattle.std.proofs.lemmas.Bool.{lt-ltb}
use Rattle.ccp_base.specs.declared.ack.Ack.{Ack}
use Rattle.flow_core.specs.declared.case.Case.{Case}
use Rattle.flow_core.specs.declared.letter.Letter.TheVariants.{A, T, C}
use Rattle.flow_core.specs.Readings.{over_codes}
use Rattle.flow_core.specs.Words.{is_legal}
use Rattle.flow_core.specs.Cores.{CoreState, with_ack}
use Rattle.flow_core.specs.Bares.{BareState}
use Rattle.campaign_core.specs.declared.tally.Tally.{Tally}
use Rattle.campaign_core.specs.declared.sums.Sums.{Sums}
use Rattle.campaign_core.specs.CampaignRow.{timeouts_in, sums_of, sums_with, window_of}
use Rattle.campaign_core.specs.CampaignRow as campaign
use Rattle.campaign_core.specs.BareLetters.{left_in}
use Rattle.campaign_core.specs.FlowRow.{world_of_core, with_letter}
use Rattle.campaign_core.specs.GivenFlows.{bare_after, MayMake, IsAfterHistory, Goes}
use Rattle.campaign_core.proofs.GivenFlowLemmas.{left-bare, acks-world, is-bare, bare-at}
use Rattle.campaign_core.proofs.SumLemmas.{sums-append, timeout-one}
use Rattle.shared_link.specs.declared.round.Ask.{Ask}
use Rattle.shared_run.specs.RoundLetters.{answers_next, after_settling, with_settled_ack, round_part}
use Rattle.shared_run.specs.SharedHistory.{ask_of}
use Rattle.shared_run.specs.RoundFlows.{AreRoomy, HasHistory, MayHear, Took, MakesNext}
use Rattle.shared_run.proofs.TurnLemmas.{next-C, next-T, next-none, answer-legal, fewer, settled-turn, settled-none, settled-acks, settled-case}

-- ---- sums

timeouts-most : (acks : List Ack) → timeouts_in acks ≤ length acks
timeouts-most [] = omega arith
timeouts-most (ack ∷ rest) = omega (arith, timeouts-most rest, timeout-one ack.was_timeout)

lost-front : (front more : List Ack) → campaign.lost_in front ≤ campaign.lost_in (front ++ more)
lost-front [] more = omega arith
lost-front (one ∷ later) more = omega (arith, lost-front later more)

acked-front : (front more : List Ack) → campaign.acked_in front ≤ campaign.acked_in (front ++ more)
acked-front [] more = omega arith
acked-front (one ∷ later) more = omega (arith, acked-front later more)

roomy-front : (front more : List Ack) → AreRoomy (front ++ more) → AreRoomy front
roomy-front front more roomy =
    let lost = roomy.0 in
    let acked = roomy.1 in
    (omega (arith, lost, lost-front front more), omega (arith, acked, acked-front front more))

module _ {F : Type 0} (at : CoreState → F) where
  -- the sums with the next acknowledgement are numbers of 64 bits
  pub roomy-sums : (flow : F) (tally : Tally) (ack : Ack) → MayHear at (ack ∷ []) flow tally → campaign.AreRoomy (sums_with ack tally.sums)
  roomy-sums flow tally ack may =
      let core = may.core in
      let most : core.case.acks ≤ 65536 = core.case.acks_within in
      let fits = may.fits in
      let few = timeouts-most (core.acks ++ ack ∷ []) in
      let roomy : campaign.AreRoomy (sums_of (core.acks ++ ack ∷ [])) = record {
        lost = may.roomy.0;
        timeouts = omega (arith, most, fits, few, length-append core.acks (ack ∷ []));
        acked = may.roomy.1;
      } in
      subst (λ (s : Sums). campaign.AreRoomy s)
      (sums-append core.acks ack ∙ ap (λ (t : Tally). sums_with ack t.sums) (sym may.after.tally_is)) roomy

  -- an acknowledgement of the case is left
  pub may-A : (flow : F) (tally : Tally) (ack : Ack) → MayHear at (ack ∷ []) flow tally → MayMake at A flow
  may-A flow tally ack may =
      let core = may.core in
      let w = world_of_core over_codes core in
      let fits = may.fits in
      let same = ap (λ (acks : List Ack). length acks) (acks-world core may.after.whole) in
      record {
        core = core;
        whole = may.after.whole;
        after = may.after.flow_is;
        legal = lt-ltb (length w.acks) core.case.acks (omega (arith, fits, same));
      }

  -- ---- a part of a round

  -- the first of the acknowledgements may be next
  pub hears-first : (acks rest : List Ack) (ack : Ack) (flow : F) (tally : Tally) → acks ≡ ack ∷ rest → MayHear at acks flow tally
      → MayHear at (ack ∷ []) flow tally
  hears-first acks rest ack flow tally split may =
      let core = may.core in
      let fits = may.fits in
      let long = ap (λ (xs : List Ack). length xs) split in
      record {
        core = core;
        after = may.after;
        fits = omega (arith, fits, long);
        roomy =
            roomy-front (core.acks ++ ack ∷ []) rest
            (subst (λ (xs : List Ack). AreRoomy xs)
            (ap (λ (xs : List Ack). core.acks ++ xs) split ∙ sym (append_assoc core.acks (ack ∷ []) rest)) may.roomy);
      }

  -- and then the others, after what is taken and answered
  pub hears-rest : (acks rest : List Ack) (ack : Ack) (flow : F) (tally : Tally) (new : F) (now : Tally) → acks ≡ ack ∷ rest
      → MayHear at acks flow tally → ((core : CoreState) → IsAfterHistory at core flow tally → IsAfterHistory at (with_settled_ack over_codes ack core) new now)
      → MayHear at rest new now
  hears-rest acks rest ack flow tally new now split may goes =
      let core = may.core in
      let after = with_settled_ack over_codes ack core in
      let fits = may.fits in
      let long = ap (λ (xs : List Ack). length xs) split in
      let more : after.acks ≡ core.acks ++ ack ∷ [] = settled-acks over_codes false (with_ack core ack) in
      let count = ap (λ (xs : List Ack). length xs) more in
      let case = ap (λ (c : Case). c.acks) (settled-case over_codes false (with_ack core ack)) in
      record {
        core = after;
        after = goes core may.after;
        fits = omega (arith, fits, long, count, case, length-append core.acks (ack ∷ []));
        roomy =
            subst (λ (xs : List Ack). AreRoomy xs)
            (ap (λ (xs : List Ack). core.acks ++ xs) split ∙ sym (append_assoc core.acks (ack ∷ []) rest)
            ∙ ap (λ (xs : List Ack). xs ++ rest) (sym more)) may.roomy;
      }

  -- ---- on the way of a loop

  -- the flow is after some history from which the same comes as from every history that the old flow was after
  abbrev pub GoesOn : (CoreState → CoreState) → (CoreState → CoreState) → F → Tally → F → Tally → Type 0
  GoesOn all rest old was new now =
      (core : CoreState) → IsAfterHistory at core old was → (here : CoreState) × IsAfterHistory at here new now × (rest here ≡ all core)

module _ {F : Type 0} (at : CoreState → F) (bare_of : F → BareState) (law : (core : CoreState) → bare_of (at core) ≡ bare_after core) where
  module _ (old : F) (was : Tally) where
    -- what it asks for
    pub asks : (bare : BareState) → bare ≡ bare_of old → (ask : Ask) → ask ≡ record { window = bare.summary.track.env.cwnd; left = bare.case.acks - bare.summary.acks }
        → (core : CoreState) → IsAfterHistory at core old was → ask ≡ ask_of over_codes core
    asks bare is ask asked core after =
        let here = bare-at at bare_of law old was bare is core after in
        asked
        ∙ (λ i. record { window = (here i).summary.track.env.cwnd; left = (here i).case.acks - (here i).summary.acks })
        ∙ (λ i. record {
          window = window_of (over_codes core.case) (world_of_core over_codes core);
          left = core.case.acks - length (acks-world core after.whole i);
        })

    -- fewer letters are left after one that takes no acknowledgement
    pub fewer-left : (at_end : Bool) (new : F) (now : Tally) → HasHistory at old was → MakesNext at at_end true old was new now
        → left_in (bare_of new) < left_in (bare_of old)
    fewer-left at_end new now has made =
        let core = has.core in
        let one = made core has.after in
        let next = with_letter one.0 core in
        let less = fewer over_codes at_end core one.0 one.1 in
        let before = ap left_in (is-bare at bare_of law old core has.after.flow_is) ∙ left-bare core in
        let later = ap left_in (is-bare at bare_of law new next one.2.flow_is) ∙ left-bare next in
        omega (arith, less, before, later)

module _ {F : Type 0} (at : CoreState → F) where
  -- if an answer comes next it is legal
  pub may-C : (at_end : Bool) (flow : F) (tally : Tally) → HasHistory at flow tally
      → ((core : CoreState) → IsAfterHistory at core flow tally → answers_next at_end over_codes core ≡ true) → MayMake at C flow
  may-C at_end flow tally has due =
      let core = has.core in
      record { core = core; whole = has.after.whole; after = has.after.flow_is; legal = answer-legal over_codes at_end core (due core has.after) }

  pub may-T : (flow : F) (tally : Tally) → HasHistory at flow tally
      → ((core : CoreState) → IsAfterHistory at core flow tally → is_legal (over_codes core.case) (world_of_core over_codes core) T ≡ true) → MayMake at T flow
  may-T flow tally has may =
      let core = has.core in
      record { core = core; whole = has.after.whole; after = has.after.flow_is; legal = may core has.after }

  module _ (at_end : Bool) (old : F) (was : Tally) (new : F) (now : Tally) where
    -- the answer that comes next was made
    pub next-answer : ((core : CoreState) → IsAfterHistory at core old was → answers_next at_end over_codes core ≡ true)
        → Goes at (with_letter C) old was new now → MakesNext at at_end true old was new now
    next-answer due goes core after = (C, next-C over_codes at_end core (due core after), goes core after)

    -- no answer comes next, and a ticket was taken if that is legal
    pub next-taking : (took : Bool) → ((core : CoreState) → IsAfterHistory at core old was → answers_next at_end over_codes core ≡ false)
        → Took at took old was new now → MakesNext at at_end took old was new now
    next-taking true due taken =
        (λ core after.
        let made = taken core after in
        (T, next-T over_codes at_end core (due core after) made.0, made.1))
    next-taking false due taken =
        (λ core after.
        let made = taken core after in
        (next-none over_codes at_end core (due core after) made.0, made.1))

    -- a turn that made a letter leaves a history, from which the same comes
    pub turned-history : HasHistory at old was → MakesNext at at_end true old was new now → HasHistory at new now
    turned-history has made =
        let one = made has.core has.after in
        record { core = with_letter one.0 has.core; after = one.2 }

    pub turned-on : (first : F) (begun : Tally) → GoesOn at (after_settling at_end over_codes) (after_settling at_end over_codes) first begun old was
        → MakesNext at at_end true old was new now → GoesOn at (after_settling at_end over_codes) (after_settling at_end over_codes) first begun new now
    turned-on first begun on made core after =
        let here = on core after in
        let one = made here.0 here.1 in
        (with_letter one.0 here.0, one.2, settled-turn over_codes at_end here.0 one.0 one.1 ∙ here.2)

    -- and after a turn that made none all is settled
    pub turned-last : (first : F) (begun : Tally) → GoesOn at (after_settling at_end over_codes) (after_settling at_end over_codes) first begun old was
        → MakesNext at at_end false old was new now → Goes at (after_settling at_end over_codes) first begun new now
    turned-last first begun on made core after =
        let here = on core after in
        let none = made here.0 here.1 in
        subst (λ (c : CoreState). IsAfterHistory at c new now) (sym (settled-none over_codes at_end here.0 none.0) ∙ here.2) none.1

  -- the part's loop after one more acknowledgement
  pub part-on : (acks left rest : List Ack) (ack : Ack) (first : F) (begun : Tally) (old : F) (was : Tally) (new : F) (now : Tally) → left ≡ ack ∷ rest
      → GoesOn at (round_part over_codes acks) (round_part over_codes left) first begun old was
      → ((core : CoreState) → IsAfterHistory at core old was → IsAfterHistory at (with_settled_ack over_codes ack core) new now)
      → GoesOn at (round_part over_codes acks) (round_part over_codes rest) first begun new now
  part-on acks left rest ack first begun old was new now split on goes core after =
      let here = on core after in (
        with_settled_ack over_codes ack here.0,
        goes here.0 here.1,
        ap (λ (xs : List Ack). round_part over_codes xs here.0) (sym split) ∙ here.2,
      )

  pub part-done : (acks left : List Ack) (first : F) (begun : Tally) (new : F) (now : Tally) → left ≡ []
      → GoesOn at (round_part over_codes acks) (round_part over_codes left) first begun new now
      → Goes at (round_part over_codes acks) first begun new now
  part-done acks left first begun new now none on core after =
      let here = on core after in
      subst (λ (c : CoreState). IsAfterHistory at c new now) (ap (λ (xs : List Ack). round_part over_codes xs here.0) (sym none) ∙ here.2) here.1
