-- The campaign word of a flow is legal, and it is complete.
use Rattle.std.specs.Prelude.{◌≡◌, ℕ, zero, suc, ◌-◌, ◌<◌, ◌≤◌, Bool, true, false, not, is_some, is_none, ◌&&◌, if◌then◌else◌, Option, Some, None, option_map, [], ◌∷◌, length, refl}
use Rattle.std.proofs.Common.{arith, ap, ◌∙◌, subst}
use Rattle.std.proofs.lemmas.Option.{none-some}
use Rattle.link_model.specs.declared.link_case.LinkCase.{LinkCase}
use Rattle.flow_core.specs.declared.case.Case.{Case}
use Rattle.flow_core.specs.declared.letter.Letter.{Letter}
use Rattle.flow_core.specs.declared.letter.Letter.TheVariants.{A, T, C}
use Rattle.flow_core.specs.Readings.{Flow, over_codes}
use Rattle.flow_core.specs.World.{Taken, World, opening}
use Rattle.flow_core.specs.Words.{from_link, after_letter, world_from, world, can_take, is_legal, legal_from, legal, is_complete, most_letters}
use Rattle.campaign_core.specs.CampaignWord.{is_late, is_answer_due, first_letter, next_of, then_rest, plan_from, plan_over, plan}
use Rattle.flow_core.specs.LettersLeft.{letters_left}
use Rattle.flow_core.proofs.LeftLemmas.{left-letter}

-- ---- the next letter

-- the letter that is due, that may be taken or that may be heard
abbrev pub MadeBy : Bool → Bool → Bool → Letter → Type 0
MadeBy due may_take may_hear A = (due ≡ false) × (may_take ≡ false) × (may_hear ≡ true)
MadeBy due may_take may_hear T = (due ≡ false) × (may_take ≡ true)
MadeBy due may_take may_hear C = due ≡ true

abbrev pub IsMade : Bool → Bool → Bool → Option Letter → Type 0
IsMade due may_take may_hear None = (due ≡ false) × (may_take ≡ false) × (may_hear ≡ false)
IsMade due may_take may_hear (Some letter) = MadeBy due may_take may_hear letter

pub made : (due may_take may_hear : Bool) → IsMade due may_take may_hear (first_letter due may_take may_hear)
made true may_take may_hear = refl
made false true may_hear = (refl, refl)
made false false true = (refl, refl, refl)
made false false false = (refl, refl, refl)

late-out : {X : Type 0} (lag acks : ℕ) (out : Option (Taken X)) → is_late lag acks out ≡ true → is_some out ≡ true
late-out lag acks None late = absurd (let wrong : false ≡ true = late in (cc))
late-out lag acks (Some ticket) late = refl

pub due-out : {X : Type 0} (lag acks : ℕ) (more : Bool) (out : Option (Taken X))
    → (if more then is_late lag acks out else is_some out) ≡ true → is_some out ≡ true
due-out lag acks true out due = late-out lag acks out due
due-out lag acks false out due = due

pub still : {X : Type 0} (out : Option (Taken X)) (can : Bool) → is_some out ≡ false → (is_none out && can) ≡ false
    → (is_none out && not can) ≡ true
still None can out both = ap not both
still (Some ticket) can out both = absurd (let wrong : true ≡ false = out in (cc))

-- if a ticket may be taken, nothing is still
pub takes-not-still : (none can : Bool) → (none && can) ≡ true → (none && not can) ≡ true → ⊥
takes-not-still true true takes is = let wrong : false ≡ true = is in (cc)
takes-not-still true false takes is = let wrong : false ≡ true = takes in (cc)
takes-not-still false can takes is = let wrong : false ≡ true = takes in (cc)

-- and no ticket is out
pub takes-not-out : {X Y : Type 0} (f : X → Y) (g : Y → ℕ) (out : Option X) (can : Bool) (number : ℕ) → (is_none out && can) ≡ true
    → option_map g (option_map f out) ≡ Some number → ⊥
takes-not-out f g None can number takes is = none-some number is
takes-not-out f g (Some ticket) can number takes is = let wrong : false ≡ true = takes in (cc)

ended : {X : Type 0} (lag acks : ℕ) (more : Bool) (out : Option (Taken X)) (can : Bool)
    → (if more then is_late lag acks out else is_some out) ≡ false → (is_none out && can) ≡ false → more ≡ false
    → (not more && (is_none out && not can)) ≡ true
ended lag acks true out can due takes more = absurd (let wrong : true ≡ false = more in (cc))
ended lag acks false out can due takes more = still out can due takes

module _ {X : Type 0} (flow : Flow X) (lag : ℕ) where
  next-made : (w : World X) (next : Option Letter) → next_of flow lag w ≡ next
      → IsMade (is_answer_due flow lag w) (is_legal flow w T) (is_legal flow w A) next
  next-made w next is =
      subst (λ (n : Option Letter). IsMade (is_answer_due flow lag w) (is_legal flow w T) (is_legal flow w A) n) is
      (made (is_answer_due flow lag w) (is_legal flow w T) (is_legal flow w A))

  -- the next letter is legal
  pub next-legal : (w : World X) (letter : Letter) → next_of flow lag w ≡ Some letter → is_legal flow w letter ≡ true
  next-legal w A is = (next-made w (Some A) is).2
  next-legal w T is = (next-made w (Some T) is).1
  next-legal w C is = due-out lag (length w.acks) (is_legal flow w A) w.out (next-made w (Some C) is)

  -- if there is none, the word is complete
  pub none-complete : (w : World X) → next_of flow lag w ≡ None → is_complete flow w ≡ true
  none-complete w is =
      let all = next-made w None is in
      ended lag (length w.acks) (is_legal flow w A) w.out (can_take w) all.0 all.1 all.2

  -- ---- the word

  module _ (link : LinkCase) where
    legal-next : (more : ℕ) (w : World X) (next : Option Letter) → next_of flow lag w ≡ next
        → ((letter : Letter) → legal_from flow (from_link flow link) (after_letter flow (from_link flow link) w letter) (plan_from flow link lag more (after_letter flow (from_link flow link) w letter)) ≡ true)
        → legal_from flow (from_link flow link) w (then_rest next (λ letter. plan_from flow link lag more (after_letter flow (from_link flow link) w letter))) ≡ true
    legal-next more w None is rest = refl
    legal-next more w (Some letter) is rest = λ i. next-legal w letter is i && rest letter i

    pub plan-legal : (more : ℕ) (w : World X) → legal_from flow (from_link flow link) w (plan_from flow link lag more w) ≡ true
    plan-legal zero w = refl
    plan-legal (suc more) w =
        legal-next more w (next_of flow lag w) refl
        (λ letter. plan-legal more (after_letter flow (from_link flow link) w letter))

    left-none : (w : World X) (next : Option Letter) → next_of flow lag w ≡ next → letters_left flow w ≤ 0 → is_complete flow w ≡ true
    left-none w None is none = none-complete w is
    left-none w (Some letter) is none =
        absurd (let fewer = left-letter flow link letter w (next-legal w letter is) in omega (arith, fewer, none))

    complete-next : (more : ℕ) (w : World X) (next : Option Letter) → next_of flow lag w ≡ next → letters_left flow w ≤ suc more
        → ((letter : Letter) → letters_left flow (after_letter flow (from_link flow link) w letter) ≤ more
        → is_complete flow (world_from flow (from_link flow link) (after_letter flow (from_link flow link) w letter) (plan_from flow link lag more (after_letter flow (from_link flow link) w letter))) ≡ true)
        → is_complete flow (world_from flow (from_link flow link) w (then_rest next (λ letter. plan_from flow link lag more (after_letter flow (from_link flow link) w letter)))) ≡ true
    complete-next more w None is enough rest = none-complete w is
    complete-next more w (Some letter) is enough rest =
        rest letter (let fewer = left-letter flow link letter w (next-legal w letter is) in omega (arith, fewer, enough))

    pub plan-complete : (more : ℕ) (w : World X) → letters_left flow w ≤ more
        → is_complete flow (world_from flow (from_link flow link) w (plan_from flow link lag more w)) ≡ true
    plan-complete zero w enough = left-none w (next_of flow lag w) refl enough
    plan-complete (suc more) w enough =
        complete-next more w (next_of flow lag w) refl enough
        (λ letter fewer. plan-complete more (after_letter flow (from_link flow link) w letter) fewer)

    -- the letter that comes next, and the rest
    pub plan-next : (most : ℕ) (w : World X) (letter : Letter) → next_of flow lag w ≡ Some letter → 0 < most
        → plan_from flow link lag most w ≡ letter ∷ plan_from flow link lag (most - 1) (after_letter flow (from_link flow link) w letter)
    plan-next zero w letter is some = absurd (omega (arith, some))
    plan-next (suc more) w letter is some =
        let less : more ≡ suc more - 1 = omega arith in
        ap (λ (next : Option Letter). then_rest next (λ l. plan_from flow link lag more (after_letter flow (from_link flow link) w l))) is
        ∙ ap (λ (n : ℕ). letter ∷ plan_from flow link lag n (after_letter flow (from_link flow link) w letter)) less

    -- if no letter comes next, no more come
    pub plan-none : (most : ℕ) (w : World X) → next_of flow lag w ≡ None → plan_from flow link lag most w ≡ []
    plan-none zero w none = refl
    plan-none (suc more) w none =
        ap (λ (next : Option Letter). then_rest next (λ l. plan_from flow link lag more (after_letter flow (from_link flow link) w l))) none

    -- ---- the laws

    pub plan_over-legal : legal flow link (plan_over flow link lag) ≡ true
    plan_over-legal = plan-legal (most_letters flow.acks) (opening flow)

    pub plan_over-complete : is_complete flow (world flow link (plan_over flow link lag)) ≡ true
    plan_over-complete = plan-complete (most_letters flow.acks) (opening flow) (omega arith)

-- the campaign word of a case is legal
pub plan-is-legal : (case : Case) → legal (over_codes case) case.link (plan case) ≡ true
plan-is-legal case = plan_over-legal (over_codes case) case.lag case.link

-- and complete
pub plan-is-complete : (case : Case) → is_complete (over_codes case) (world (over_codes case) case.link (plan case)) ≡ true
plan-is-complete case = plan_over-complete (over_codes case) case.lag case.link
