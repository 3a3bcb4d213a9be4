-- A program none of whose expressions is too deep needs at most eight temporaries.
use Rattle.std.proofs.Common.{◌≡◌, refl, ℕ, ◌≤◌, Bool, true, false, nat_lt, if◌then◌else◌, Option, Some, None, List, [], ◌∷◌, arith, lit≤}
use Rattle.std.proofs.lemmas.Bool.{ltb-false}
use Rattle.std.specs.Option.{option_or}
use Rattle.ccp_base.specs.declared.place.Place.{Place}
use Rattle.portus_core.specs.Programs.{Term, number, truth, name, pair, Action, set, set_if, set_unless, ewma, zero_micros, report, fall, Part, Form}
use Rattle.reg_compiler.specs.Needs.{need_of, action_need, body_need, parts_need, form_need, deep_at, deep_term, deep_action, deep_body, deep_parts, deep_form}

none-where : (is : Bool) (place : Place) → (if is then Some place else None) ≡ None → is ≡ false
none-where true place none = absurd (cc)
none-where false place none = refl

fits-at : (need : ℕ) (place : Place) → deep_at need place ≡ None → need ≤ 8
fits-at need place none = ltb-false 8 need (none-where (nat_lt 8 need) place none)

first-none : (a b : Option Place) → option_or a b ≡ None → a ≡ None
first-none None b none = refl
first-none (Some place) b none = none

second-none : (a b : Option Place) → option_or a b ≡ None → b ≡ None
second-none None b none = none
second-none (Some place) b none = absurd (cc)

pub fits-term : (term : Term) → deep_term term ≡ None → need_of term ≤ 8
fits-term (number n) none = lit≤ tt
fits-term (truth b) none = lit≤ tt
fits-term (name v) none = lit≤ tt
fits-term (pair op place left right) none = fits-at (need_of (pair op place left right)) place none

pub fits-action : (action : Action) → deep_action action ≡ None → action_need action ≤ 8
fits-action (set v term) none = fits-term term none
fits-action (set_if place v condition term) none = fits-at (action_need (set_if place v condition term)) place none
fits-action (set_unless place v condition term) none = fits-at (action_need (set_unless place v condition term)) place none
fits-action (ewma place v weight term) none = fits-at (need_of term) place none
fits-action zero_micros none = lit≤ tt
fits-action report none = lit≤ tt
fits-action fall none = lit≤ tt

fits-body : (actions : List Action) → deep_body actions ≡ None → body_need actions ≤ 8
fits-body [] none = lit≤ tt
fits-body (action ∷ rest) none =
    omega (
      arith,
      fits-action action (first-none (deep_action action) (deep_body rest) none),
      fits-body rest (second-none (deep_action action) (deep_body rest) none),
    )

fits-parts : (parts : List Part) → deep_parts parts ≡ None → parts_need parts ≤ 8
fits-parts [] none = lit≤ tt
fits-parts (part ∷ rest) none =
    let later = second-none (deep_term part.condition) (option_or (deep_body part.body) (deep_parts rest)) none in
    omega (
      arith,
      fits-term part.condition (first-none (deep_term part.condition) (option_or (deep_body part.body) (deep_parts rest)) none),
      fits-body part.body (first-none (deep_body part.body) (deep_parts rest) later),
      fits-parts rest (second-none (deep_body part.body) (deep_parts rest) later),
    )

pub fits-form : (form : Form) → deep_form form ≡ None → form_need form ≤ 8
fits-form form none = fits-parts form.blocks none
