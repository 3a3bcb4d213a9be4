-- What a run keeps of its flows, round by round.
use Rattle.std.specs.Prelude.{◌≡◌, ◌+◌, ℕ, Option, Some, None, option_map, List, ◌∷◌, drop, map, slice_get, refl}
use Rattle.std.proofs.Common.{ap, sym, ◌∙◌, subst}
use Rattle.std.proofs.lemmas.Option.{slice_get-map, same_Some, none-some}
use Rattle.ccp_base.specs.declared.ack.Ack.{Ack}
use Rattle.flow_core.specs.declared.case.Case.{Case}
use Rattle.flow_core.specs.Readings.{over_codes}
use Rattle.flow_core.specs.Cores.{CoreState}
use Rattle.campaign_core.specs.declared.tally.Tally.{Tally}
use Rattle.shared_link.specs.declared.round.Ask.{Ask}
use Rattle.shared_link.specs.declared.shared_case.SharedCase.{SharedCase}
use Rattle.campaign_core.specs.FlowRow.{opened}
use Rattle.shared_run.specs.RoundLetters.{round_part, closed_flow}
use Rattle.shared_run.specs.SharedHistory.{ask_of}
use Rattle.shared_run.specs.RoundFlows.{AreRoomy, kept_at, run_flow_in, HasHistory, MayHear}
use Rattle.shared_run.specs.Courses.{flows_after, asks_in, acks_in}
use Rattle.campaign_core.specs.GivenFlows.{IsAfterHistory, Goes}
use Rattle.shared_run.proofs.BookLemmas.{after-kept, kept-after}
use Rattle.shared_run.proofs.CourseLemmas.{flow_fits, flow_next, flow_asks, opened_at}
use Rattle.shared_run.proofs.RoomyLemmas.{flow-whole}
use Rattle.shared_run.proofs.TurnLemmas.{part-acks}

-- what is mapped to something is there
mapped : {A B : Type 0} (f : A → B) (option : Option A) (b : B) → option_map f option ≡ Some b → (a : A) × (option ≡ Some a) × (f a ≡ b)
mapped f None b is = absurd (none-some b is)
mapped f (Some a) b is = (a, refl, same_Some (f a) b is)

module _ {F : Type 0} (at : CoreState → F) (link : SharedCase) (cases : List Case) where
  -- a kept flow is after its history in the run
  pub kept-flow : (rounds number : ℕ) (flow : F) (tally : Tally) → run_flow_in at link cases rounds number ≡ Some (flow, tally)
      → (core : CoreState) × (slice_get (flows_after link cases rounds) number ≡ Some core) × IsAfterHistory at core flow tally
  kept-flow rounds number flow tally kept =
      let one = mapped (kept_at at) (slice_get (flows_after link cases rounds) number) (flow, tally) kept in
      (one.0, one.1, after-kept at one.0 flow tally (flow-whole link cases rounds number one.0 one.1) one.2)

  pub kept-history : (rounds number : ℕ) (flow : F) (tally : Tally) → run_flow_in at link cases rounds number ≡ Some (flow, tally) → HasHistory at flow tally
  kept-history rounds number flow tally kept =
      let one = kept-flow rounds number flow tally kept in
      record { core = one.0; after = one.2 }

  -- before the first round
  pub kept-opened : (number : ℕ) (case : Case) (rest : List Case) (flow : F) (tally : Tally) → case ∷ rest ≡ drop number cases
      → IsAfterHistory at (opened case) flow tally → run_flow_in at link cases 0 number ≡ Some (flow, tally)
  kept-opened number case rest flow tally is after =
      ap (option_map (kept_at at)) (opened_at link cases number case rest is) ∙ ap (λ (kept : F × Tally). Some kept) (kept-after at (opened case) flow tally after)

  -- what it asks for
  pub kept-asks : (rounds number : ℕ) (flow : F) (tally : Tally) (ask : Ask) → run_flow_in at link cases rounds number ≡ Some (flow, tally)
      → ((core : CoreState) → IsAfterHistory at core flow tally → ask ≡ ask_of over_codes core) → slice_get (asks_in link cases rounds) number ≡ Some ask
  kept-asks rounds number flow tally ask kept asks =
      let one = kept-flow rounds number flow tally kept in
      flow_asks link cases rounds number one.0 ask one.1 (asks one.0 one.2)

  -- ---- a part of a round, of a flow that has rested

  module _ (since round number : ℕ) (acks : List Ack) (flow : F) (tally : Tally)
      (are : slice_get (acks_in link cases round) number ≡ Some acks)
      (rests : slice_get (flows_after link cases since) number ≡ slice_get (flows_after link cases round) number) where
    pub may-hear : ((core : CoreState) → slice_get (flows_after link cases (round + 1)) number ≡ Some core → AreRoomy core.acks)
        → run_flow_in at link cases since number ≡ Some (flow, tally) → MayHear at acks flow tally
    may-hear roomy kept =
        let one = kept-flow since number flow tally kept in
        let core = one.0 in
        let there : slice_get (flows_after link cases round) number ≡ Some core = sym rests ∙ one.1 in
        record {
          core = core;
          after = one.2;
          fits = flow_fits link cases round number acks core are there;
          roomy =
              subst (λ (xs : List Ack). AreRoomy xs) (part-acks over_codes acks core)
              (roomy (round_part over_codes acks core) (flow_next link cases round number acks core (round_part over_codes acks core) are there refl));
        }

    pub kept-next : run_flow_in at link cases since number ≡ Some (flow, tally) → (given : List Ack) (new : F) (now : Tally) → given ≡ acks
        → Goes at (round_part over_codes given) flow tally new now → run_flow_in at link cases (round + 1) number ≡ Some (new, now)
    kept-next kept given new now is goes =
        let one = kept-flow since number flow tally kept in
        let core = one.0 in
        let there : slice_get (flows_after link cases round) number ≡ Some core = sym rests ∙ one.1 in
        let next = round_part over_codes given core in
        ap (option_map (kept_at at)) (flow_next link cases round number acks core next are there (ap (λ (xs : List Ack). round_part over_codes xs core) is))
        ∙ ap (λ (kept : F × Tally). Some kept) (kept-after at next new now (goes core one.2))

  -- ---- the end

  -- what is kept of a flow at the end of a run of this many rounds
  abbrev pub closed_in : ℕ → List (F × Tally)
  closed_in rounds = map (kept_at at) (map (closed_flow over_codes) (flows_after link cases rounds))

  pub kept-closed : (rounds number : ℕ) (flow : F) (tally : Tally) (new : F) (now : Tally) → run_flow_in at link cases rounds number ≡ Some (flow, tally)
      → Goes at (closed_flow over_codes) flow tally new now → slice_get (closed_in rounds) number ≡ Some (new, now)
  kept-closed rounds number flow tally new now kept goes =
      let one = kept-flow rounds number flow tally kept in
      let flows = flows_after link cases rounds in
      slice_get-map (kept_at at) (map (closed_flow over_codes) flows) number
      ∙ ap (option_map (kept_at at)) (slice_get-map (closed_flow over_codes) flows number ∙ ap (option_map (closed_flow over_codes)) one.1)
      ∙ ap (λ (kept : F × Tally). Some kept) (kept-after at (closed_flow over_codes one.0) new now (goes one.0 one.2))
