-- What an expression's parts give and meet, the expression gives and meets.
use Rattle.std.proofs.Common.{◌≡◌, ℕ, Option, Some, None, Result, Ok, Err, List, subst}
use Rattle.ccp_base.specs.declared.arithmetic.FaultKind.{FaultKind}
use Rattle.ccp_base.specs.declared.operation.Op2.{Op2}
use Rattle.ccp_base.specs.declared.place.Place.{Place}
use Rattle.ccp_base.specs.Operations.{apply}
use Rattle.value_ranges.specs.declared.range.Range.{Range}
use Rattle.value_ranges.specs.declared.range.Reach.{Reach}
use Rattle.value_ranges.specs.Ranges.{IsIn, Covers, CoversAll}
use Rattle.portus_core.specs.Programs.{terms}
use Rattle.portus_core.specs.Value.{Cause, at_place}
use Rattle.range_cases.specs.declared.listed.Listed.{Listed}
use Rattle.range_cases.specs.Listing.{IsListed, KeepsListed}
use Rattle.range_cases.specs.Cases.{pair_of, Gives, Meets}

gives_placed : (reach : Reach) (place : Place) (met : Result ℕ FaultKind) → Covers reach met → Gives reach.values (at_place place met)
gives_placed reach place (Ok value) covers = covers
gives_placed reach place (Err kind) covers = tt

pub gives_left_none : (operation : Op2) (place : Place) (left right : Result ℕ Cause) → Gives None left → Gives None (pair_of operation place left right)
gives_left_none operation place (Ok a) right none = absurd none
gives_left_none operation place (Err cause) right none = tt

pub gives_right_none : (operation : Op2) (place : Place) (left right : Result ℕ Cause) → Gives None right → Gives None (pair_of operation place left right)
gives_right_none operation place (Ok a) (Ok b) none = absurd none
gives_right_none operation place (Ok a) (Err cause) none = tt
gives_right_none operation place (Err cause) right none = tt

pub gives_pair : (operation : Op2) (place : Place) (reach : Reach) (a b : Range) (left right : Result ℕ Cause) → CoversAll reach (apply operation) a b
    → Gives (Some a) left → Gives (Some b) right → Gives reach.values (pair_of operation place left right)
gives_pair operation place reach a b (Ok x) (Ok y) covers has_x has_y = gives_placed reach place (apply operation x y) (covers x y has_x has_y)
gives_pair operation place reach a b (Ok x) (Err cause) covers has_x has_y = tt
gives_pair operation place reach a b (Err cause) right covers has_x has_y = tt

pub ruleset gives = (terms, gives_left_none, gives_right_none, gives_pair)

pub meets_left_none : (operation : Op2) (place : Place) (faults : List Listed) (turn : ℕ) (left right : Result ℕ Cause)
    → Meets faults turn None left → Meets faults turn None (pair_of operation place left right)
meets_left_none operation place faults turn (Ok a) right none = absurd none
meets_left_none operation place faults turn (Err cause) right listed = listed

pub meets_right_none : (operation : Op2) (place : Place) (first faults : List Listed) (turn : ℕ) (a : Range) (left right : Result ℕ Cause)
    → Meets first turn (Some a) left → KeepsListed first faults → Meets faults turn None right → Meets faults turn None (pair_of operation place left right)
meets_right_none operation place first faults turn a (Ok x) (Ok y) has keeps none = absurd none
meets_right_none operation place first faults turn a (Ok x) (Err cause) has keeps listed = listed
meets_right_none operation place first faults turn a (Err cause) right listed keeps other = keeps cause turn listed

pub meets_pair : (operation : Op2) (place : Place) (first second faults : List Listed) (turn : ℕ) (a b : Range) (found : Option Range) (left right : Result ℕ Cause)
    → Meets first turn (Some a) left → KeepsListed first second → Meets second turn (Some b) right → KeepsListed second faults
    → ((x y : ℕ) → IsIn a x → IsIn b y → Meets faults turn found (at_place place (apply operation x y)))
    → Meets faults turn found (pair_of operation place left right)
meets_pair operation place first second faults turn a b found (Ok x) (Ok y) has_x keeps has_y later meets = meets x y has_x has_y
meets_pair operation place first second faults turn a b found (Ok x) (Err cause) has_x keeps listed later meets = later cause turn listed
meets_pair operation place first second faults turn a b found (Err cause) right listed keeps other later meets = later cause turn (keeps cause turn listed)

pub meets_sure : (faults : List Listed) (turn : ℕ) (place : Place) (reach : Reach) (met : Result ℕ FaultKind)
    → reach.fault ≡ None → Covers reach met → Meets faults turn reach.values (at_place place met)
meets_sure faults turn place reach (Ok value) none covers = covers
meets_sure faults turn place reach (Err kind) none covers = cc

pub meets_fault : (faults : List Listed) (turn : ℕ) (place : Place) (reach : Reach) (kind : FaultKind) (met : Result ℕ FaultKind)
    → reach.fault ≡ Some kind → IsListed faults (kind, place) turn → Covers reach met → Meets faults turn reach.values (at_place place met)
meets_fault faults turn place reach kind (Ok value) some listed covers = covers
meets_fault faults turn place reach kind (Err other) some listed covers =
    let same : kind ≡ other = cc in
    subst (λ (k : FaultKind). IsListed faults (k, place) turn) same listed

pub ruleset meets = (terms, meets_left_none, meets_right_none, meets_pair, meets_sure, meets_fault)
