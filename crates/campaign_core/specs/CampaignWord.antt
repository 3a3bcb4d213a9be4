-- The campaign word of a case: when its tickets are taken, and after how many acknowledgements they are answered.
use Rattle.std.specs.Prelude.{ℕ, zero, suc, ◌+◌, Bool, true, false, nat_le, if◌then◌else◌, Option, Some, None}
use Rattle.std.specs.Prelude.{List, [], ◌∷◌, length}
use Rattle.link_model.specs.declared.link_case.LinkCase.{LinkCase}
use Rattle.flow_core.specs.declared.case.Case.{Case}
use Rattle.flow_core.specs.declared.letter.Letter.{Letter}
use Rattle.flow_core.specs.declared.letter.Letter.TheVariants.{A, T, C}
use Rattle.flow_core.specs.Readings.{Flow, over_codes}
use Rattle.flow_core.specs.World.{Taken, World, opening}
use Rattle.flow_core.specs.Words.{from_link, after_letter, is_legal, most_letters}

-- a ticket is out that was taken at least `lag` acknowledgements before
abbrev pub is_late : {X : Type 0} → ℕ → ℕ → Option (Taken X) → Bool
is_late lag acks None = false
is_late lag acks (Some ticket) = nat_le (ticket.taken + lag) acks

-- an answer is due to a ticket that is `lag` acknowledgements old, and once all acknowledgements are in to any ticket
-- that is out
abbrev pub is_answer_due : {X : Type 0} → Flow X → ℕ → World X → Bool
is_answer_due flow lag w = if is_legal flow w A then is_late lag (length w.acks) w.out else is_legal flow w C

-- the first of three letters that may be made, or none
abbrev pub first_letter : Bool → Bool → Bool → Option Letter
first_letter true may_take may_hear = Some C
first_letter false true may_hear = Some T
first_letter false false true = Some A
first_letter false false false = None

-- the next letter: C if an answer is due, else T if it is legal, else A if it is legal
abbrev pub next_of : {X : Type 0} → Flow X → ℕ → World X → Option Letter
next_of flow lag w = first_letter (is_answer_due flow lag w) (is_legal flow w T) (is_legal flow w A)

-- the next letter, if there is one, and the rest of the word after it
abbrev pub then_rest : Option Letter → (Letter → List Letter) → List Letter
then_rest None rest = []
then_rest (Some letter) rest = letter ∷ rest letter

-- the word from a state on, of at most that number of letters
abbrev pub plan_from : {X : Type 0} → Flow X → LinkCase → ℕ → ℕ → World X → List Letter
plan_from flow link lag zero w = []
plan_from flow link lag (suc more) w =
    then_rest (next_of flow lag w)
    (λ letter. plan_from flow link lag more (after_letter flow (from_link flow link) w letter))

-- the word of a flow, which has no more letters than a word can have
abbrev pub plan_over : {X : Type 0} → Flow X → LinkCase → ℕ → List Letter
plan_over flow link lag = plan_from flow link lag (most_letters flow.acks) (opening flow)

-- the campaign word of a case
abbrev pub plan : Case → List Letter
plan case = plan_over (over_codes case) case.link case.lag
