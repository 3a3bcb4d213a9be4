-- Letters without an acknowledgement: each leaves fewer to come, and at last none comes.
use Rattle.std.specs.Prelude.{◌≡◌, ◌<◌, ◌≤◌, ℕ, zero, suc, ◌+◌, Bool, true, false, is_some, Option, Some, None, List, [], ◌∷◌, ◌++◌, length, refl}
use Rattle.std.proofs.Common.{arith, ap, sym, ◌∙◌, subst, append_assoc, append-nil, length-append}
use Rattle.ccp_base.specs.declared.ack.Ack.{Ack}
use Rattle.flow_core.specs.declared.letter.Letter.{Letter}
use Rattle.flow_core.specs.declared.letter.Letter.TheVariants.{A, T, C}
use Rattle.flow_core.specs.World.{World}
use Rattle.flow_core.specs.Words.{from_list, after_letter, can_take, is_legal, is_still}
use Rattle.flow_core.specs.WordLaws.{acks_in, acks_in-A, acks_in-T, acks_in-C, world_over-append}
use Rattle.flow_core.specs.Cores.{CoreState, with_ack}
use Rattle.campaign_core.specs.CampaignWord.{first_letter}
use Rattle.campaign_core.proofs.PlanLemmas.{MadeBy, IsMade, made, due-out, still}
use Rattle.flow_core.specs.LettersLeft.{letters_left}
use Rattle.flow_core.proofs.LeftLemmas.{left-letter}
use Rattle.campaign_core.specs.FlowRow.{CaseReading, world_of_core, with_letter}
use Rattle.shared_run.specs.RoundLetters.{answers_next, settling_letter, with_next, settled_in, after_settling, with_settled_ack, round_part}

-- ---- which letter is next

-- none of these letters is an acknowledgement
pub no-ack : false ≡ true → ⊥
no-ack is = cc

-- the word has all acknowledgements
abbrev pub HasAll : CoreState → Type 0
HasAll core = acks_in core.word ≡ length core.acks

module _ {X : Type 0} (read : CaseReading X) where
  abbrev left_of : CoreState → ℕ
  left_of core = letters_left (read core.case) (world_of_core read core)

  pub answered-out : (at_end : Bool) (core : CoreState) → answers_next at_end read core ≡ true → is_some (world_of_core read core).out ≡ true
  answered-out false core due =
      let w = world_of_core read core in
      due-out core.case.lag (length w.acks) (is_legal (read core.case) w A) w.out due
  answered-out true core due = due

  module _ (at_end : Bool) where
    pub next-made : (core : CoreState) (next : Option Letter) → settling_letter at_end read core ≡ next
        → IsMade (answers_next at_end read core) (is_legal (read core.case) (world_of_core read core) T) false next
    next-made core next is =
        subst (λ (n : Option Letter). IsMade (answers_next at_end read core) (is_legal (read core.case) (world_of_core read core) T) false n) is
        (made (answers_next at_end read core) (is_legal (read core.case) (world_of_core read core) T) false)

    pub next-C : (core : CoreState) → answers_next at_end read core ≡ true → settling_letter at_end read core ≡ Some C
    next-C core due = ap (λ (b : Bool). first_letter b (is_legal (read core.case) (world_of_core read core) T) false) due

    pub next-T : (core : CoreState) → answers_next at_end read core ≡ false → is_legal (read core.case) (world_of_core read core) T ≡ true
        → settling_letter at_end read core ≡ Some T
    next-T core due may = λ i. first_letter (due i) (may i) false

    pub next-none : (core : CoreState) → answers_next at_end read core ≡ false → is_legal (read core.case) (world_of_core read core) T ≡ false
        → settling_letter at_end read core ≡ None
    next-none core due may = λ i. first_letter (due i) (may i) false

    -- an answer is legal if it comes next
    pub answer-legal : (core : CoreState) → answers_next at_end read core ≡ true
        → is_legal (read core.case) (world_of_core read core) C ≡ true
    answer-legal core due = answered-out at_end core due

    -- ---- fewer are left

    fewer-by : (core : CoreState) (letter : Letter) → MadeBy (answers_next at_end read core) (is_legal (read core.case) (world_of_core read core) T) false letter
        → letters_left (read core.case) (after_letter (read core.case) (from_list core.acks) (world_of_core read core) letter) < left_of core
    fewer-by core A is = absurd (no-ack is.2)
    fewer-by core T is = left-letter (read core.case) core.case.link T (world_of_core read core) is.1
    fewer-by core C is = left-letter (read core.case) core.case.link C (world_of_core read core) (answered-out at_end core is)

    pub fewer : (core : CoreState) (letter : Letter) → settling_letter at_end read core ≡ Some letter
        → left_of (with_letter letter core) < left_of core
    fewer core letter is =
        subst (λ (w : World X). letters_left (read core.case) w < left_of core)
        (sym (world_over-append (read core.case) core.acks core.word letter))
        (fewer-by core letter (next-made core (Some letter) is))

    -- ---- the word has all acknowledgements

    pub all-by : (core : CoreState) (letter : Letter) → MadeBy (answers_next at_end read core) (is_legal (read core.case) (world_of_core read core) T) false letter
        → acks_in core.word ≡ length core.acks → acks_in (core.word ++ letter ∷ []) ≡ length core.acks
    all-by core A is all = absurd (no-ack is.2)
    all-by core T is all = acks_in-T core.word ∙ all
    all-by core C is all = acks_in-C core.word ∙ all

    all-where : (m : ℕ) (core : CoreState) (next : Option Letter) → settling_letter at_end read core ≡ next → HasAll core
        → ((after : CoreState) → HasAll after → HasAll (settled_in at_end read m after))
        → HasAll (with_next next (settled_in at_end read m) core)
    all-where m core None is all rest = all
    all-where m core (Some letter) is all rest = rest (with_letter letter core) (all-by core letter (next-made core (Some letter) is) all)

    settled_in-all : (m : ℕ) (core : CoreState) → HasAll core → HasAll (settled_in at_end read m core)
    settled_in-all zero core all = all
    settled_in-all (suc m) core all =
        all-where m core (settling_letter at_end read core) refl all (λ after done. settled_in-all m after done)

    pub settled-all : (core : CoreState) → HasAll core → HasAll (after_settling at_end read core)
    settled-all core all = settled_in-all (left_of core) core all

    -- ---- how many letters are enough

    same-where : (n m : ℕ) (core : CoreState) (next : Option Letter) → settling_letter at_end read core ≡ next
        → left_of core ≤ suc n → left_of core ≤ suc m
        → ((after : CoreState) → left_of after ≤ n → left_of after ≤ m → settled_in at_end read n after ≡ settled_in at_end read m after)
        → with_next next (settled_in at_end read n) core ≡ with_next next (settled_in at_end read m) core
    same-where n m core None is enough also rest = refl
    same-where n m core (Some letter) is enough also rest =
        let less = fewer core letter is in
        rest (with_letter letter core) (omega (arith, less, enough)) (omega (arith, less, also))

    none-left : (m : ℕ) (core : CoreState) (next : Option Letter) → settling_letter at_end read core ≡ next → left_of core ≤ 0
        → core ≡ with_next next (settled_in at_end read m) core
    none-left m core None is enough = refl
    none-left m core (Some letter) is enough =
        absurd (let less = fewer core letter is in omega (arith, less, enough))

    same-settled : (n m : ℕ) (core : CoreState) → left_of core ≤ n → left_of core ≤ m
        → settled_in at_end read n core ≡ settled_in at_end read m core
    same-settled zero zero core enough also = refl
    same-settled zero (suc m) core enough also = none-left m core (settling_letter at_end read core) refl enough
    same-settled (suc n) zero core enough also = sym (none-left n core (settling_letter at_end read core) refl also)
    same-settled (suc n) (suc m) core enough also =
        same-where n m core (settling_letter at_end read core) refl enough also
        (λ after first second. same-settled n m after first second)

    -- ---- a turn

    -- after the next letter the rest is the same
    pub settled-turn : (core : CoreState) (letter : Letter) → settling_letter at_end read core ≡ Some letter
        → after_settling at_end read (with_letter letter core) ≡ after_settling at_end read core
    settled-turn core letter is =
        let after = with_letter letter core in
        let less = fewer core letter is in
        same-settled (left_of after) (left_of core) after (omega arith) (omega (arith, less))
        ∙ ap (λ (next : Option Letter). with_next next (settled_in at_end read (left_of core)) core) (sym is)
        ∙ same-settled (suc (left_of core)) (left_of core) core (omega arith) (omega arith)

    pub settled-none : (core : CoreState) → settling_letter at_end read core ≡ None → after_settling at_end read core ≡ core
    settled-none core is =
        same-settled (left_of core) (suc (left_of core)) core (omega arith) (omega arith)
        ∙ ap (λ (next : Option Letter). with_next next (settled_in at_end read (left_of core)) core) is

    -- ---- nothing is left

    zero-ends : (core : CoreState) (next : Option Letter) → settling_letter at_end read core ≡ next → left_of core ≤ 0 → next ≡ None
    zero-ends core None is enough = refl
    zero-ends core (Some letter) is enough = absurd (let less = fewer core letter is in omega (arith, less, enough))

    ends-where : (m : ℕ) (core : CoreState) (next : Option Letter) → settling_letter at_end read core ≡ next → left_of core ≤ suc m
        → ((after : CoreState) → left_of after ≤ m → settling_letter at_end read (settled_in at_end read m after) ≡ None)
        → settling_letter at_end read (with_next next (settled_in at_end read m) core) ≡ None
    ends-where m core None is enough rest = is
    ends-where m core (Some letter) is enough rest =
        let less = fewer core letter is in
        rest (with_letter letter core) (omega (arith, less, enough))

    none-settled : (m : ℕ) (core : CoreState) → left_of core ≤ m → settling_letter at_end read (settled_in at_end read m core) ≡ None
    none-settled zero core enough = zero-ends core (settling_letter at_end read core) refl enough
    none-settled (suc m) core enough =
        ends-where m core (settling_letter at_end read core) refl enough (λ after less. none-settled m after less)

    pub settled-ends : (core : CoreState) → settling_letter at_end read (after_settling at_end read core) ≡ None
    settled-ends core = none-settled (left_of core) core (omega arith)

  -- the acknowledgements and the case stay
  acks-where : (at_end : Bool) (m : ℕ) (core : CoreState) (next : Option Letter)
      → ((after : CoreState) → (settled_in at_end read m after).acks ≡ after.acks)
      → (with_next next (settled_in at_end read m) core).acks ≡ core.acks
  acks-where at_end m core None rest = refl
  acks-where at_end m core (Some letter) rest = rest (with_letter letter core)

  settled_in-acks : (at_end : Bool) (m : ℕ) (core : CoreState) → (settled_in at_end read m core).acks ≡ core.acks
  settled_in-acks at_end zero core = refl
  settled_in-acks at_end (suc m) core =
      acks-where at_end m core (settling_letter at_end read core) (λ after. settled_in-acks at_end m after)

  case-where : (at_end : Bool) (m : ℕ) (core : CoreState) (next : Option Letter)
      → ((after : CoreState) → (settled_in at_end read m after).case ≡ after.case)
      → (with_next next (settled_in at_end read m) core).case ≡ core.case
  case-where at_end m core None rest = refl
  case-where at_end m core (Some letter) rest = rest (with_letter letter core)

  settled_in-case : (at_end : Bool) (m : ℕ) (core : CoreState) → (settled_in at_end read m core).case ≡ core.case
  settled_in-case at_end zero core = refl
  settled_in-case at_end (suc m) core =
      case-where at_end m core (settling_letter at_end read core) (λ after. settled_in-case at_end m after)

  pub settled-acks : (at_end : Bool) (core : CoreState) → (after_settling at_end read core).acks ≡ core.acks
  settled-acks at_end core = settled_in-acks at_end (left_of core) core

  pub settled-case : (at_end : Bool) (core : CoreState) → (after_settling at_end read core).case ≡ core.case
  settled-case at_end core = settled_in-case at_end (left_of core) core

  -- if no letter comes at the end, nothing is out and nothing can be taken
  pub still-ended : (core : CoreState) → settling_letter true read core ≡ None → is_still (world_of_core read core) ≡ true
  still-ended core is =
      let w = world_of_core read core in
      let none = next-made true core None is in
      still w.out (can_take w) none.0 none.1

  pub closed-still : (core : CoreState) → is_still (world_of_core read (after_settling true read core)) ≡ true
  closed-still core = still-ended (after_settling true read core) (settled-ends true core)

  -- a part of a round leaves the case, and adds the acknowledgements
  pub part-case : (acks : List Ack) (core : CoreState) → (round_part read acks core).case ≡ core.case
  part-case [] core = refl
  part-case (ack ∷ rest) core = part-case rest (with_settled_ack read ack core) ∙ settled-case false (with_ack core ack)

  pub part-acks : (acks : List Ack) (core : CoreState) → (round_part read acks core).acks ≡ core.acks ++ acks
  part-acks [] core = sym (append-nil core.acks)
  part-acks (ack ∷ rest) core =
      part-acks rest (with_settled_ack read ack core)
      ∙ ap (λ (xs : List Ack). xs ++ rest) (settled-acks false (with_ack core ack))
      ∙ append_assoc core.acks (ack ∷ []) rest

  pub part-all : (acks : List Ack) (core : CoreState) → HasAll core → HasAll (round_part read acks core)
  part-all [] core all = all
  part-all (ack ∷ rest) core all =
      part-all rest (with_settled_ack read ack core)
      (settled-all false (with_ack core ack) (acks_in-A core.word ∙ ap (λ (n : ℕ). n + 1) all ∙ sym (length-append core.acks (ack ∷ []))))
