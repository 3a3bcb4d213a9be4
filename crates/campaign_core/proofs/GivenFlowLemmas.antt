-- A flow that is given its acknowledgements after one more letter, whatever it keeps of its history.
use Rattle.std.specs.Prelude.{◌≡◌, ◌<◌, ℕ, ◌+◌, ◌-◌, ◌*◌, max, Bool, true, false, List, [], ◌∷◌, ◌++◌, length, refl}
use Rattle.std.proofs.Common.{arith, ap, sym, ◌∙◌, subst, length-append}
use Rattle.std.proofs.lemmas.Bool.{ltb-true}
use Rattle.ccp_base.specs.declared.ack.Ack.{Ack}
use Rattle.link_model.specs.Rated.{rated}
use Rattle.flow_core.specs.declared.letter.Letter.{Letter}
use Rattle.flow_core.specs.declared.letter.Letter.TheVariants.{A, T, C}
use Rattle.flow_core.specs.Readings.{Flow, over_codes}
use Rattle.flow_core.specs.World.{World, opening, notice_of}
use Rattle.flow_core.specs.Words.{from_list, is_legal, most_letters}
use Rattle.flow_core.specs.WordLaws.{acks_in, acks_in-A, world_over-append}
use Rattle.flow_core.specs.LettersLeft.{letters_left}
use Rattle.flow_core.specs.States.{issued_as}
use Rattle.flow_core.specs.Cores.{CoreState, with_ack}
use Rattle.flow_core.specs.Summaries.{summary, step_ack, step_take, step_answer, may_make}
use Rattle.flow_core.specs.Bares.{BareState}
use Rattle.flow_core.specs.BookFlows.{BookFlowState, book_flow_of, book_heard, book_taken, book_answered}
use Rattle.flow_core.specs.ReadsRates.{case_reads_rates}
use Rattle.flow_core.proofs.BookFlowLemmas.{book-A, book-T, book-C}
use Rattle.flow_core.proofs.MappedLemmas.{count-mapped}
use Rattle.flow_core.proofs.SummaryLemmas.{summary-ack, summary-take, summary-answer, summary-legal}
use Rattle.flow_core.proofs.WordLemmas.{acks-of-world_over, world_over-A}
use Rattle.campaign_core.specs.declared.given_flow.BareFlow.{BareFlow}
use Rattle.campaign_core.specs.declared.tally.Tally.{Tally}
use Rattle.campaign_core.specs.declared.row.Row.{Row}
use Rattle.campaign_core.specs.declared.sums.Sums.{Sums}
use Rattle.campaign_core.specs.CampaignRow.{sums_of, sums_with, row_in, window_of}
use Rattle.campaign_core.specs.BareLetters.{left_in}
use Rattle.campaign_core.specs.FlowRow.{world_of_core, with_letter, flow_peak, flow_row}
use Rattle.campaign_core.specs.GivenFlows.{HasAllAcks, bare_after, bare_flow_at, MayMake, Makes, tally_of, IsAfterHistory, Goes}
use Rattle.campaign_core.proofs.PeakLemmas.{peak-append, peak-more}
use Rattle.campaign_core.proofs.SumLemmas.{sums-append}

-- ---- a history

module _ (core : CoreState) where
  abbrev reading : Flow ℕ
  reading = over_codes core.case

  abbrev world : World ℕ
  world = world_of_core over_codes core

  -- as many letters are left as by what later letters depend on
  pub left-bare : left_in (bare_after core) ≡ letters_left reading world
  left-bare =
      λ i. most_letters (core.case.acks - length world.acks)
      + (2 * (length world.waiting + count-mapped (notice_of reading) world.untold i) + count-mapped (issued_as reading) world.out i)

  pub bare-T : bare_after (with_letter T core) ≡ record (bare_after core) { summary = step_take (bare_after core).summary }
  bare-T = λ i. record {
    case = core.case;
    summary = (ap (summary reading) (world_over-append reading core.acks core.word T) ∙ summary-take reading world) i;
  }

  pub bare-C : bare_after (with_letter C core) ≡ record (bare_after core) { summary = step_answer reading (bare_after core).summary }
  bare-C = λ i. record {
    case = core.case;
    summary = (ap (summary reading) (world_over-append reading core.acks core.word C) ∙ summary-answer reading world) i;
  }

  module _ (whole : HasAllAcks core) where
    pub acks-world : world.acks ≡ core.acks
    acks-world = acks-of-world_over reading core.acks core.word whole.all

    pub bare-A : (ack : Ack) → bare_after (with_ack core ack) ≡ record (bare_after core) { summary = step_ack reading ack (bare_after core).summary }
    bare-A ack = λ i. record {
      case = core.case;
      summary = (ap (summary reading) (world_over-A reading core.acks ack core.word whole.all) ∙ summary-ack reading ack world) i;
    }

    pub whole-ack : (ack : Ack) → length core.acks < core.case.acks → HasAllAcks (with_ack core ack)
    whole-ack ack more = record {
      all = acks_in-A core.word ∙ ap (λ (n : ℕ). n + 1) whole.all ∙ sym (length-append core.acks (ack ∷ []));
      within = omega (arith, more, length-append core.acks (ack ∷ []));
    }

    pub whole-letter : (letter : Letter) → acks_in (core.word ++ letter ∷ []) ≡ acks_in core.word → HasAllAcks (with_letter letter core)
    whole-letter letter none = record { all = none ∙ whole.all; within = whole.within }

    -- the tally with one more acknowledgement
    pub tally-ack : (ack : Ack) (was now : Tally) → was ≡ tally_of core → now.sums ≡ sums_with ack was.sums
        → now.peak ≡ max was.peak (window_of reading (world_of_core over_codes (with_ack core ack)))
        → now ≡ tally_of (with_ack core ack)
    tally-ack ack was now is summed raised =
        let heard = with_ack core ack in
        let peak : now.peak ≡ flow_peak over_codes heard =
        raised
        ∙ ap (λ (tally : Tally). max tally.peak (window_of reading (world_of_core over_codes heard))) is
        ∙ ap (λ (n : ℕ). max n (window_of reading (world_of_core over_codes heard)))
        (sym (peak-more reading core.acks (ack ∷ []) core.word (omega (arith, whole.all))))
        ∙ sym (peak-append reading (from_list heard.acks) core.word A (opening reading)) in
        let sums = summed ∙ ap (λ (tally : Tally). sums_with ack tally.sums) is ∙ sym (sums-append core.acks ack) in
        λ i. record { sums = sums i; peak = peak i }

    -- the tally with one more letter that takes no acknowledgement
    pub tally-letter : (letter : Letter) (was now : Tally) → was ≡ tally_of core → now.sums ≡ was.sums
        → now.peak ≡ max was.peak (window_of reading (world_of_core over_codes (with_letter letter core)))
        → now ≡ tally_of (with_letter letter core)
    tally-letter letter was now is same raised =
        let peak : now.peak ≡ flow_peak over_codes (with_letter letter core) =
        raised
        ∙ ap (λ (tally : Tally). max tally.peak (window_of reading (world_of_core over_codes (with_letter letter core)))) is
        ∙ sym (peak-append reading (from_list core.acks) core.word letter (opening reading)) in
        let sums = same ∙ ap (λ (tally : Tally). tally.sums) is in
        λ i. record { sums = sums i; peak = peak i }

-- ---- sums

-- they add up no rate
sums-rated : (rates : Bool) (ack : Ack) (sums : Sums) → sums_with (rated rates ack) sums ≡ sums_with ack sums
sums-rated true ack sums = refl
sums-rated false ack sums = refl

pub sums-heard : (rates : Bool) (ack whole : Ack) (sums : Sums) → ack ≡ rated rates whole → sums_with ack sums ≡ sums_with whole sums
sums-heard rates ack whole sums is = ap (λ (a : Ack). sums_with a sums) is ∙ sums-rated rates whole sums

-- ---- any flow

module _ {F : Type 0} (at : CoreState → F) (bare_of : F → BareState) (law : (core : CoreState) → bare_of (at core) ≡ bare_after core) where
  pub is-bare : (flow : F) (core : CoreState) → flow ≡ at core → bare_of flow ≡ bare_after core
  is-bare flow core is = ap bare_of is ∙ law core

  module _ (old : F) (was : Tally) where
    pub goes-A : (new : F) (now : Tally) (ack : Ack) → MayMake at A old → Makes at (λ (core : CoreState). with_ack core ack) old new
        → now.sums ≡ sums_with ack was.sums → now.peak ≡ max was.peak (bare_of new).summary.track.env.cwnd
        → Goes at (λ (core : CoreState). with_ack core ack) old was new now
    goes-A new now ack may makes summed raised core after =
        let made = makes core after.whole after.flow_is in
        let same : bare_after may.core ≡ bare_after core = sym (is-bare old may.core may.after) ∙ is-bare old core after.flow_is in
        let more : length core.acks < core.case.acks =
        subst (λ (acks : List Ack). length acks < core.case.acks) (acks-world core after.whole)
        (subst (λ (b : BareState). b.summary.acks < b.case.acks) same (ltb-true (length (world_of_core over_codes may.core).acks) may.core.case.acks may.legal)) in
        record {
          whole = whole-ack core after.whole ack more;
          flow_is = made;
          tally_is =
              tally-ack core after.whole ack was now after.tally_is summed
              (raised ∙ ap (λ (b : BareState). max was.peak b.summary.track.env.cwnd) (is-bare new (with_ack core ack) made));
        }

    pub goes-letter : (letter : Letter) → ((word : List Letter) → acks_in (word ++ letter ∷ []) ≡ acks_in word) → (new : F) (now : Tally)
        → Makes at (with_letter letter) old new → now.sums ≡ was.sums → now.peak ≡ max was.peak (bare_of new).summary.track.env.cwnd
        → Goes at (with_letter letter) old was new now
    goes-letter letter none new now makes same raised core after =
        let made = makes core after.whole after.flow_is in
        record {
          whole = whole-letter core after.whole letter (none core.word);
          flow_is = made;
          tally_is =
              tally-letter core after.whole letter was now after.tally_is same
              (raised ∙ ap (λ (b : BareState). max was.peak b.summary.track.env.cwnd) (is-bare new (with_letter letter core) made));
        }

    module _ (bare : BareState) (is : bare ≡ bare_of old) where
      pub bare-at : (core : CoreState) → IsAfterHistory at core old was → bare ≡ bare_after core
      bare-at core after = is ∙ is-bare old core after.flow_is

      -- whether a letter is legal
      pub legal-is : (letter : Letter) (core : CoreState) → IsAfterHistory at core old was
          → may_make (over_codes bare.case) bare.summary letter ≡ is_legal (over_codes core.case) (world_of_core over_codes core) letter
      legal-is letter core after =
          ap (λ (b : BareState). may_make (over_codes b.case) b.summary letter) (bare-at core after)
          ∙ sym (summary-legal (over_codes core.case) letter (world_of_core over_codes core))

      -- its row
      pub row-is : (row : Row) → row ≡ row_in bare.summary was.sums was.peak → (core : CoreState) → IsAfterHistory at core old was → row ≡ flow_row over_codes core
      row-is row read core after =
          read
          ∙ (λ i. row_in (bare-at core after i).summary (after.tally_is i).sums (after.tally_is i).peak)
          ∙ (λ i. row_in (bare_after core).summary (sums_of (sym (acks-world core after.whole) i)) (flow_peak over_codes core))

-- ---- a flow without its history

pub bare-may : (letter : Letter) (flow : BareFlow) → MayMake bare_flow_at letter flow → may_make (over_codes flow.bare.case) flow.bare.summary letter ≡ true
bare-may letter flow may =
    ap (λ (f : BareFlow). may_make (over_codes f.bare.case) f.bare.summary letter) may.after
    ∙ sym (summary-legal (over_codes may.core.case) letter (world_of_core over_codes may.core)) ∙ may.legal

module _ (old : BareFlow) (new : BareState) where
  abbrev pub with_bare : BareFlow
  with_bare = record old { bare = new }

  pub bare-makes-A : (ack : Ack) → new ≡ record old.bare { summary = step_ack (over_codes old.bare.case) ack old.bare.summary }
      → Makes bare_flow_at (λ (core : CoreState). with_ack core ack) old with_bare
  bare-makes-A ack stepped core whole is =
      (λ i. record old { bare = stepped i })
      ∙ ap (λ (f : BareFlow). record f { bare = record f.bare { summary = step_ack (over_codes f.bare.case) ack f.bare.summary } }) is
      ∙ (λ i. record { bare = sym (bare-A core whole ack) i; reads_rates = case_reads_rates core.case })

  -- the same with an acknowledgement whose rates weren't computed, since no program reads one
  pub bare-makes-unread : (ack other : Ack)
      → ((one : Ack) → ack ≡ rated (case_reads_rates old.bare.case) one → new ≡ record old.bare { summary = step_ack (over_codes old.bare.case) one old.bare.summary })
      → ack ≡ rated old.reads_rates other → Makes bare_flow_at (λ (core : CoreState). with_ack core other) old with_bare
  bare-makes-unread ack other unread got core whole is =
      let reads : old.reads_rates ≡ case_reads_rates old.bare.case =
      ap (λ (f : BareFlow). f.reads_rates) is ∙ sym (ap (λ (f : BareFlow). case_reads_rates f.bare.case) is) in
      bare-makes-A other (unread other (got ∙ ap (λ (rates : Bool). rated rates other) reads)) core whole is

  pub bare-makes-T : new ≡ record old.bare { summary = step_take old.bare.summary } → Makes bare_flow_at (with_letter T) old with_bare
  bare-makes-T stepped core whole is =
      (λ i. record old { bare = stepped i })
      ∙ ap (λ (f : BareFlow). record f { bare = record f.bare { summary = step_take f.bare.summary } }) is
      ∙ (λ i. record { bare = sym (bare-T core) i; reads_rates = case_reads_rates core.case })

  pub bare-makes-C : new ≡ record old.bare { summary = step_answer (over_codes old.bare.case) old.bare.summary }
      → Makes bare_flow_at (with_letter C) old with_bare
  bare-makes-C stepped core whole is =
      (λ i. record old { bare = stepped i })
      ∙ ap (λ (f : BareFlow). record f { bare = record f.bare { summary = step_answer (over_codes f.bare.case) f.bare.summary } }) is
      ∙ (λ i. record { bare = sym (bare-C core) i; reads_rates = case_reads_rates core.case })

-- ---- a flow with what its book has

pub book-may : (letter : Letter) (flow : BookFlowState) → MayMake book_flow_of letter flow → may_make (over_codes flow.bare.case) flow.bare.summary letter ≡ true
book-may letter flow may =
    ap (λ (f : BookFlowState). may_make (over_codes f.bare.case) f.bare.summary letter) may.after
    ∙ sym (summary-legal (over_codes may.core.case) letter (world_of_core over_codes may.core)) ∙ may.legal

module _ (old new : BookFlowState) where
  pub book-makes-A : (ack : Ack) → new ≡ book_heard ack old → Makes book_flow_of (λ (core : CoreState). with_ack core ack) old new
  book-makes-A ack heard core whole is = heard ∙ ap (book_heard ack) is ∙ book-A core whole.all ack

  pub book-makes-T : new ≡ book_taken old → Makes book_flow_of (with_letter T) old new
  book-makes-T taken core whole is = taken ∙ ap book_taken is ∙ book-T core

  pub book-makes-C : new ≡ book_answered old → Makes book_flow_of (with_letter C) old new
  book-makes-C answered core whole is = answered ∙ ap book_answered is ∙ book-C core

-- ---- a flow with its history

-- an acknowledgement of the case is left
pub core-more : (core : CoreState) → MayMake (λ (one : CoreState). one) A core → length core.acks < core.case.acks
core-more core may =
    subst (λ (one : CoreState). length one.acks < one.case.acks) (sym may.after)
    (subst (λ (acks : List Ack). length acks < may.core.case.acks) (acks-world may.core may.whole)
    (ltb-true (length (world_of_core over_codes may.core).acks) may.core.case.acks may.legal))
