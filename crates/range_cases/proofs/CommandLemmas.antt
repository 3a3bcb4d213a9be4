-- What a command's parts meet, the command leads to.
use Rattle.std.proofs.Common.{◌≡◌, ℕ, Bool, true, false, not, Option, Some, None, Result, Ok, Err, List, refl}
use Rattle.ccp_base.specs.declared.ack.Ack.{Ack}
use Rattle.ccp_base.specs.declared.place.Place.{Place}
use Rattle.ccp_base.specs.Blending.{moving_average}
use Rattle.ccp_base.specs.Chaining.{then_do}
use Rattle.value_ranges.specs.declared.range.Range.{Range}
use Rattle.value_ranges.specs.Ranges.{IsIn, HasValue}
use Rattle.portus_core.specs.declared.program.Var.{Var}
use Rattle.portus_core.specs.Value.{Cause, at_place, read_of}
use Rattle.portus_core.specs.Command.{Going, with_written, written_where}
use Rattle.range_cases.specs.declared.case.Case.{Case}
use Rattle.range_cases.specs.declared.listed.Listed.{Listed}
use Rattle.range_cases.specs.Listing.{KeepsListed}
use Rattle.range_cases.specs.Cases.{IsAmong, Meets, LeadsTo}

-- an assignment
pub leads_set : (faults : List Listed) (turn : ℕ) (made : List Case) (ack : Ack) (going : Going) (v : Var) (range : Option Range) (met : Result ℕ Cause)
    → Meets faults turn range met → ((value : ℕ) → HasValue range value → IsAmong made ack (with_written v value going))
    → LeadsTo faults turn made ack (then_do met (λ value. Ok (with_written v value going)))
leads_set faults turn made ack going v range (Ok value) meets writes = writes value meets
leads_set faults turn made ack going v range (Err cause) meets writes = meets

leads_where : (turn : ℕ) (made : List Case) (ack : Ack) (going : Going) (v : Var) (holds : Bool) (value : ℕ)
    → (holds ≡ true → IsAmong made ack (with_written v value going)) → (holds ≡ false → IsAmong made ack going) → IsAmong made ack (written_where holds v value going)
leads_where turn made ack going v true value writes skips = writes refl
leads_where turn made ack going v false value writes skips = skips refl

-- a conditional assignment; `holds` says whether it is made
pub leads_branch : (first faults : List Listed) (turn : ℕ) (made : List Case) (ack : Ack) (going : Going) (v : Var) (holds : ℕ → Bool) (condition range : Option Range) (held met : Result ℕ Cause)
    → Meets first turn condition held → KeepsListed first faults → Meets faults turn range met
    → ((h value : ℕ) → held ≡ Ok h → met ≡ Ok value → holds h ≡ true → IsAmong made ack (with_written v value going))
    → ((h : ℕ) → held ≡ Ok h → holds h ≡ false → IsAmong made ack going)
    → LeadsTo faults turn made ack (then_do held (λ h. then_do met (λ value. Ok (written_where (holds h) v value going))))
leads_branch first faults turn made ack going v holds condition range (Ok h) (Ok value) one keeps two writes skips =
    leads_where turn made ack going v (holds h) value (λ yes. writes h value refl refl yes) (λ no. skips h refl no)
leads_branch first faults turn made ack going v holds condition range (Ok h) (Err cause) one keeps two writes skips = two
leads_branch first faults turn made ack going v holds condition range (Err cause) met one keeps two writes skips = keeps cause turn one

pub not_false : (b : Bool) → not b ≡ false → b ≡ true
not_false true same = refl
not_false false same = cc

pub not_true : (b : Bool) → not b ≡ true → b ≡ false
not_true true same = cc
not_true false same = refl

-- a moving average
pub leads_average : (first faults : List Listed) (turn : ℕ) (made : List Case) (ack : Ack) (going : Going) (v : Var) (place : Place) (weight : ℕ) (range : Range) (found : Option Range) (met : Result ℕ Cause)
    → Meets first turn (Some range) met → KeepsListed first faults
    → ((value : ℕ) → IsIn range value → Meets faults turn found (at_place place (moving_average weight (read_of v going.env going.locals ack) value)))
    → ((value : ℕ) → HasValue found value → IsAmong made ack (with_written v value going))
    → LeadsTo faults turn made ack (then_do met (λ value. then_do (at_place place (moving_average weight (read_of v going.env going.locals ack) value)) (λ mixed. Ok (with_written v mixed going))))
leads_average first faults turn made ack going v place weight range found (Ok value) one keeps two writes =
    leads_set faults turn made ack going v found (at_place place (moving_average weight (read_of v going.env going.locals ack) value)) (two value one) writes
leads_average first faults turn made ack going v place weight range found (Err cause) one keeps two writes = keeps cause turn one

-- a value that always has a fault
pub leads_none : (faults : List Listed) (turn : ℕ) (made : List Case) (ack : Ack) (met : Result ℕ Cause) (next : ℕ → Result Going Cause)
    → Meets faults turn None met → LeadsTo faults turn made ack (then_do met next)
leads_none faults turn made ack (Ok value) next none = absurd none
leads_none faults turn made ack (Err cause) next listed = listed

pub ruleset commands = (leads_set, leads_branch, leads_average, leads_none, not_false, not_true)
