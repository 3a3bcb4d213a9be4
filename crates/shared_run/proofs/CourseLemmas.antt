-- The run of cases round by round: what its flows are, ask for and are given, and after which round the whole run ends.
use Rattle.std.specs.Prelude.{◌≡◌, ◌<◌, ◌≤◌, ℕ, zero, suc, ◌+◌, ◌-◌, ◌==◌, Bool, true, false, ◌&&◌, nat_le, if◌then◌else◌, Option, Some, None, option_map, List, [], ◌∷◌, length, drop, slice_get, refl}
use Rattle.std.proofs.Common.{arith, ap, sym, ◌∙◌, subst, add-one, ◌⊎◌, inl, inr}
use Rattle.std.proofs.lemmas.Bool.{leb-true, leb-false, ne_eqb, both_ways, cases_order}
use Rattle.std.proofs.lemmas.Bool.Decides.{leb_tells}
use Rattle.std.proofs.lemmas.Option.{slice_get-map, same_Some, none-some}
use Rattle.ccp_base.specs.declared.ack.Ack.{Ack}
use Rattle.flow_core.specs.declared.case.Case.{Case}
use Rattle.flow_core.specs.Readings.{over_codes}
use Rattle.flow_core.specs.Cores.{CoreState}
use Rattle.shared_link.specs.declared.round.Ask.{Ask}
use Rattle.shared_link.specs.declared.shared_case.SharedCase.{SharedCase}
use Rattle.campaign_core.specs.FlowRow.{opened}
use Rattle.shared_rounds.specs.Rounds.{acks_in_round, Rests, none_left, GoesOn}
use Rattle.shared_rounds.proofs.RoundsLemmas.{drop_get}
use Rattle.shared_run.specs.RoundLetters.{round_part}
use Rattle.shared_run.specs.SharedHistory.{ask_of, asks_of, parts, have_all, rounds_from, round_limit}
use Rattle.shared_run.specs.Courses.{run_after, flows_after, asks_in, acks_in, EndsInTime}
use Rattle.shared_run.specs.CourseLaws.{rest-parts, acks-same}
use Rattle.shared_run.proofs.CountLemmas.{Within, within-after}
use Rattle.shared_run.proofs.RoomyLemmas.{flows-keep}

-- ---- lists

pub no-cons : {A : Type 0} (x : A) (rest : List A) → x ∷ rest ≡ [] → ⊥
no-cons x rest e = cc

pub same-first : {A : Type 0} (x y : A) (xs ys : List A) → x ∷ xs ≡ y ∷ ys → x ≡ y
same-first x y xs ys e = cc

pub same-rest : {A : Type 0} (x y : A) (xs ys : List A) → x ∷ xs ≡ y ∷ ys → xs ≡ ys
same-rest x y xs ys e = cc

parts-at : (lists : List (List Ack)) (flows : List CoreState) (i : ℕ) (acks : List Ack) (core : CoreState) → slice_get lists i ≡ Some acks → slice_get flows i ≡ Some core
    → slice_get (parts over_codes lists flows) i ≡ Some (round_part over_codes acks core)
parts-at [] flows i acks core at there = absurd (none-some acks at)
parts-at (list ∷ lists) [] i acks core at there = absurd (none-some core there)
parts-at (list ∷ lists) (flow ∷ flows) zero acks core at there = λ j. Some (round_part over_codes (same_Some list acks at j) (same_Some flow core there j))
parts-at (list ∷ lists) (flow ∷ flows) (suc i) acks core at there = parts-at lists flows i acks core at there

within-at : (lists : List (List Ack)) (flows : List CoreState) (i : ℕ) (acks : List Ack) (core : CoreState) → Within lists flows → slice_get lists i ≡ Some acks → slice_get flows i ≡ Some core
    → length core.acks + length acks ≤ core.case.acks
within-at [] flows i acks core within at there = absurd (none-some acks at)
within-at (list ∷ lists) [] i acks core within at there = absurd (none-some core there)
within-at (list ∷ lists) (flow ∷ flows) zero acks core within at there =
    let list_is = ap (λ (xs : List Ack). length xs) (same_Some list acks at) in
    let acks_are = ap (λ (c : CoreState). length c.acks) (same_Some flow core there) in
    let case_is = ap (λ (c : CoreState). c.case.acks) (same_Some flow core there) in
    let here = within.0 in
    omega (arith, list_is, acks_are, case_is, here)
within-at (list ∷ lists) (flow ∷ flows) (suc i) acks core within at there = within-at lists flows i acks core within.1 at there

-- a flow that has no list in a round stays as it is
lacking-parts : (lists : List (List Ack)) (flows : List CoreState) (i : ℕ) → slice_get lists i ≡ None
    → slice_get (parts over_codes lists flows) i ≡ slice_get flows i
lacking-parts [] flows i lacks = refl
lacking-parts (list ∷ lists) [] i lacks = refl
lacking-parts (list ∷ lists) (flow ∷ flows) zero lacks = absurd (none-some list (sym lacks))
lacking-parts (list ∷ lists) (flow ∷ flows) (suc i) lacks = lacking-parts lists flows i lacks

-- ---- what is left

sub-left : (a b : ℕ) → ((a - b) == 0) ≡ nat_le a b
sub-left a b = left-where (leb_tells a b) where
  left-where : ((nat_le a b ≡ true) × (a ≤ b)) ⊎ ((nat_le a b ≡ false) × (b < a)) → ((a - b) == 0) ≡ nat_le a b
  left-where (inl (has, most)) =
      let none : a - b ≡ 0 = omega (arith, most) in
      ap (λ (n : ℕ). n == 0) none ∙ sym has
  left-where (inr (lacks, more)) = ne_eqb (a - b) 0 (λ none. omega (arith, more, none)) ∙ sym lacks

-- no flow asks for more if and only if all have all acknowledgements
pub none_asked : (flows : List CoreState) → none_left (asks_of over_codes flows) ≡ have_all flows
none_asked [] = refl
none_asked (core ∷ rest) = λ i. sub-left core.case.acks (length core.acks) i && none_asked rest i

-- ---- the last round

not-earlier : (all : ℕ → Bool) (most a b : ℕ) → a < b → b ≤ most → ((n : ℕ) → 0 < n → n < b → all n ≡ false)
    → (a < most → (0 < a) × (all a ≡ true)) → ⊥
not-earlier all most a b less few first last =
    let there = last (omega (arith, less, few)) in
    both_ways (all a) (first a there.0 less) there.1

-- only one number is the first one from 1 on at which a test holds, or else the most
one-last : (all : ℕ → Bool) (most a b : ℕ) → a ≤ most → b ≤ most
    → ((n : ℕ) → 0 < n → n < a → all n ≡ false) → ((n : ℕ) → 0 < n → n < b → all n ≡ false)
    → (a < most → (0 < a) × (all a ≡ true)) → (b < most → (0 < b) × (all b ≡ true)) → a ≡ b
one-last all most a b few_a few_b first_a first_b last_a last_b = last-where (cases_order a b) where
  last-where : (a ≡ b) ⊎ ((a < b) ⊎ (b < a)) → a ≡ b
  last-where (inl same) = same
  last-where (inr (inl less)) = absurd (not-earlier all most a b less few_b first_b last_a)
  last-where (inr (inr less)) = absurd (not-earlier all most b a less few_a first_a last_b)

module _ (link : SharedCase) (cases : List Case) where
  -- ---- in a round

  -- a flow before the first round
  pub opened_at : (number : ℕ) (case : Case) (rest : List Case) → case ∷ rest ≡ drop number cases
      → slice_get (flows_after link cases 0) number ≡ Some (opened case)
  opened_at number case rest is = slice_get-map opened cases number ∙ ap (option_map opened) (drop_get cases number case rest is)

  -- a flow has as many acknowledgements left as it is given
  pub flow_fits : (rounds number : ℕ) (acks : List Ack) (core : CoreState) → slice_get (acks_in link cases rounds) number ≡ Some acks
      → slice_get (flows_after link cases rounds) number ≡ Some core → length core.acks + length acks ≤ core.case.acks
  flow_fits rounds number acks core at there =
      within-at (acks_in link cases rounds) (flows_after link cases rounds) number acks core
      (within-after link (run_after link over_codes cases rounds).history (flows_after link cases rounds) (flows-keep link cases rounds)) at there

  -- a flow after one more round
  pub flow_next : (rounds number : ℕ) (acks : List Ack) (core next : CoreState) → slice_get (acks_in link cases rounds) number ≡ Some acks
      → slice_get (flows_after link cases rounds) number ≡ Some core → next ≡ round_part over_codes acks core
      → slice_get (flows_after link cases (rounds + 1)) number ≡ Some next
  flow_next rounds number acks core next at there is =
      ap (λ (n : ℕ). slice_get (flows_after link cases n) number) (add-one rounds)
      ∙ parts-at (acks_in link cases rounds) (flows_after link cases rounds) number acks core at there
      ∙ ap (λ (c : CoreState). Some c) (sym is)

  -- what a flow asks for
  pub flow_asks : (rounds number : ℕ) (core : CoreState) (ask : Ask) → slice_get (flows_after link cases rounds) number ≡ Some core
      → ask ≡ ask_of over_codes core → slice_get (asks_in link cases rounds) number ≡ Some ask
  flow_asks rounds number core ask there is =
      slice_get-map (ask_of over_codes) (flows_after link cases rounds) number
      ∙ ap (option_map (ask_of over_codes)) there ∙ ap (λ (a : Ask). Some a) (sym is)

  -- a flow that had no acknowledgements since then stands as it did
  rest-where : (rounds number : ℕ) (list : Option (List Ack)) → slice_get (acks_in link cases rounds) number ≡ list
      → ((acks : List Ack) → slice_get (acks_in_round link (asks_in link cases) rounds) number ≡ Some acks → length acks ≡ 0)
      → slice_get (flows_after link cases rounds) number ≡ slice_get (flows_after link cases (suc rounds)) number
  rest-where rounds number None lacks none = sym (lacking-parts (acks_in link cases rounds) (flows_after link cases rounds) number lacks)
  rest-where rounds number (Some acks) has none =
      let there = ap (λ (lists : List (List Ack)). slice_get lists number) (acks-same link cases rounds) ∙ has in
      sym (rest-parts (acks_in link cases rounds) (flows_after link cases rounds) number acks has (none acks there))

  rest-more : (number since more : ℕ) → Rests link (asks_in link cases) number since (since + more)
      → slice_get (flows_after link cases since) number ≡ slice_get (flows_after link cases (since + more)) number
  rest-more number since zero rests =
      let same : since ≡ since + 0 = omega arith in
      ap (λ (n : ℕ). slice_get (flows_after link cases n) number) same
  rest-more number since (suc more) rests =
      let round = since + more in
      let next : suc round ≡ since + suc more = omega arith in
      rest-more number since more (λ r acks from before at. rests r acks from (omega (arith, before)) at)
      ∙ rest-where round number (slice_get (acks_in link cases round) number) refl (λ acks at. rests round acks (omega arith) (omega arith) at)
      ∙ ap (λ (n : ℕ). slice_get (flows_after link cases n) number) next

  pub rested : (number since round : ℕ) → since ≤ round → Rests link (asks_in link cases) number since round
      → slice_get (flows_after link cases since) number ≡ slice_get (flows_after link cases round) number
  rested number since round before rests =
      let all : since + (round - since) ≡ round = omega (arith, before) in
      rest-more number since (round - since) (subst (λ (n : ℕ). Rests link (asks_in link cases) number since n) (sym all) rests)
      ∙ ap (λ (n : ℕ). slice_get (flows_after link cases n) number) all

  -- ---- the end

  -- from some round on it is that after this many
  record EndsFrom (left done rounds : ℕ) : Type 0 where
    run : rounds_from link over_codes left (run_after link over_codes cases done) ≡ run_after link over_codes cases rounds
    from : done ≤ rounds
    few : rounds ≤ done + left
    first : (earlier : ℕ) → done < earlier → earlier < rounds → have_all (flows_after link cases earlier) ≡ false
    last : rounds < done + left → (done < rounds) × (have_all (flows_after link cases rounds) ≡ true)

  ends-where : (b : Bool) (more done : ℕ) → have_all (flows_after link cases (suc done)) ≡ b
      → ((rounds : ℕ) × EndsFrom more (suc done) rounds) → (rounds : ℕ) × EndsFrom (suc more) done rounds
  ends-where true more done has later =
      let next = run_after link over_codes cases (suc done) in (
        suc done,
        record {
          run = ap (λ (b : Bool). if b then next else rounds_from link over_codes more next) has;
          from = omega arith;
          few = omega arith;
          first = λ earlier after before. absurd (omega (arith, after, before));
          last = λ less. (omega arith, has);
        },
      )
  ends-where false more done lacks later =
      let next = run_after link over_codes cases (suc done) in
      let rounds = later.0 in
      let ends = later.1 in
      let from = ends.from in
      let few = ends.few in (
        rounds,
        record {
          run = ap (λ (b : Bool). if b then next else rounds_from link over_codes more next) lacks ∙ ends.run;
          from = omega (arith, from);
          few = omega (arith, few);
          first = λ earlier after before. first-where earlier (nat_le earlier (suc done)) refl after before;
          last =
              (λ less.
              let there = ends.last (omega (arith, less)) in
              let after = there.0 in
              (omega (arith, after), there.1));
        },
      ) where
        first-where : (earlier : ℕ) (b : Bool) → nat_le earlier (suc done) ≡ b → done < earlier → earlier < later.0 → have_all (flows_after link cases earlier) ≡ false
        first-where earlier true is after before =
            let most = leb-true earlier (suc done) is in
            let same : earlier ≡ suc done = omega (arith, most, after) in
            ap (λ (n : ℕ). have_all (flows_after link cases n)) same ∙ lacks
        first-where earlier false is after before =
            let more_ = leb-false earlier (suc done) is in
            later.1.first earlier (omega (arith, more_)) before

  ends-from : (left done : ℕ) → (rounds : ℕ) × EndsFrom left done rounds
  ends-from zero done = (
    done,
    record {
      run = refl;
      from = omega arith;
      few = omega arith;
      first = λ earlier after before. absurd (omega (arith, after, before));
      last = λ less. absurd (omega (arith, less));
    },
  )
  ends-from (suc more) done = ends-where (have_all (flows_after link cases (suc done))) more done refl (ends-from more (suc done))

  -- the run whose rounds ended so is the whole run
  pub run-ended : (most rounds : ℕ) → rounds ≤ most → GoesOn (asks_in link cases) rounds
      → (rounds < most → (0 < rounds) × (none_left (asks_in link cases rounds) ≡ true))
      → run_after link over_codes cases rounds ≡ rounds_from link over_codes most (run_after link over_codes cases 0)
  run-ended most rounds few goes last =
      let end = ends-from most 0 in
      let within = end.1.few in
      let same : rounds ≡ end.0 =
      one-last (λ n. have_all (flows_after link cases n)) most rounds end.0 few (omega (arith, within))
      (λ n after before. sym (none_asked (flows_after link cases n)) ∙ goes n after before) end.1.first
      (λ less. ((last less).0, sym (none_asked (flows_after link cases rounds)) ∙ (last less).1))
      (λ less. end.1.last (omega (arith, less))) in
      ap (λ (n : ℕ). run_after link over_codes cases n) same ∙ sym end.1.run

  pub ends : (most : ℕ) → EndsInTime link cases most
  ends most =
      let end = ends-from (round_limit cases most) 0 in
      let few = end.1.few in (
        end.0,
        record {
          run = end.1.run;
          few = omega (arith, few);
          first = end.1.first;
          last = λ less. end.1.last (omega (arith, less));
        },
      )
