-- What blocks lead to, by what their conditions and bodies lead to.
use Rattle.std.proofs.Common.{◌≡◌, ℕ, inl, inr, Bool, true, false, Option, Result, Ok, Err, List, refl, subst, sym, arith}
use Rattle.std.proofs.Math.ListN.{replicate, length-replicate}
use Rattle.std.proofs.lemmas.Bool.{cases_lt}
use Rattle.std.proofs.lemmas.List.{get_or-replicate, get_or_past}
use Rattle.value_ranges.specs.declared.range.Range.{Range}
use Rattle.value_ranges.specs.Ranges.{IsIn}
use Rattle.ccp_base.specs.declared.ack.Ack.{Ack}
use Rattle.ccp_base.specs.Chaining.{then_do}
use Rattle.ccp_base.specs.Truth.{is_true}
use Rattle.portus_core.specs.Programs.{Action}
use Rattle.portus_core.specs.Value.{Cause}
use Rattle.portus_core.specs.Command.{Going, run_commands}
use Rattle.portus_core.specs.Blocks.{after_body, after_condition}
use Rattle.range_cases.specs.declared.case.Case.{Case}
use Rattle.range_cases.specs.declared.listed.Listed.{Listed}
use Rattle.range_cases.specs.Listing.{IsListed, KeepsListed}
use Rattle.range_cases.specs.Cases.{AreIn, IsAmong, KeepsCases, LeadsTo, Enters, Parts, Meets}

-- what was reached stays reached
pub leads_keeps : (first faults : List Listed) (turn : ℕ) (old made : List Case) (ack : Ack) (met : Result Going Cause)
    → LeadsTo first turn old ack met → KeepsListed first faults → KeepsCases old made → LeadsTo faults turn made ack met
leads_keeps first faults turn old made ack (Ok going) leads listed keeps = keeps ack going leads
leads_keeps first faults turn old made ack (Err cause) leads listed keeps = listed cause turn leads

pub enters_keeps : (first faults : List Listed) (turn : ℕ) (held held_new next next_new : List Case) (ack : Ack) (going : Going) (met : Result ℕ Cause)
    → Enters first turn held next ack going met → KeepsListed first faults → KeepsCases held held_new → KeepsCases next next_new → Enters faults turn held_new next_new ack going met
enters_keeps first faults turn held held_new next next_new ack going (Ok value) enters listed one two =
    (λ on_true. one ack going (enters.0 on_true), λ on_false. two ack going (enters.1 on_false))
enters_keeps first faults turn held held_new next next_new ack going (Err cause) enters listed one two = listed cause turn enters

-- one command and then the rest
pub leads_then : (first faults : List Listed) (turn : ℕ) (made ends : List Case) (ack : Ack) (met : Result Going Cause) (rest : Going → Result Going Cause)
    → LeadsTo first turn made ack met → KeepsListed first faults → ((going : Going) → IsAmong made ack going → LeadsTo faults turn ends ack (rest going))
    → LeadsTo faults turn ends ack (then_do met rest)
leads_then first faults turn made ends ack (Ok going) rest leads listed later = later going leads
leads_then first faults turn made ends ack (Err cause) rest leads listed later = listed cause turn leads

leads_after_body : (faults : List Listed) (turn : ℕ) (next ended ends : List Case) (ack : Ack) (falls : Bool) (going : Going) (rest : Going → Result Going Cause)
    → (falls ≡ true → IsAmong next ack going) → (falls ≡ false → IsAmong ended ack going) → KeepsCases ended ends
    → ((g : Going) → IsAmong next ack g → LeadsTo faults turn ends ack (rest g)) → LeadsTo faults turn ends ack (after_body falls rest going)
leads_after_body faults turn next ended ends ack true going rest on is_end keeps later = later going (on refl)
leads_after_body faults turn next ended ends ack false going rest on is_end keeps later = keeps ack going (is_end refl)

leads_body : (first faults : List Listed) (turn : ℕ) (ran next ended ends : List Case) (ack : Ack) (met : Result Going Cause) (rest : Going → Result Going Cause)
    → LeadsTo first turn ran ack met → KeepsListed first faults → ((g : Going) → IsAmong ran ack g → Parts next ended ack g) → KeepsCases ended ends
    → ((g : Going) → IsAmong next ack g → LeadsTo faults turn ends ack (rest g)) → LeadsTo faults turn ends ack (then_do met (λ done. after_body done.falls rest done))
leads_body first faults turn ran next ended ends ack (Ok going) rest leads listed parts keeps later =
    leads_after_body faults turn next ended ends ack going.falls going rest (parts going leads).goes_on (parts going leads).is_end keeps later
leads_body first faults turn ran next ended ends ack (Err cause) rest leads listed parts keeps later = listed cause turn leads

leads_condition : (first faults : List Listed) (turn : ℕ) (held ran entered next ended ends : List Case) (ack : Ack) (truth : Bool) (body : List Action) (rest : Going → Result Going Cause) (going : Going)
    → (truth ≡ true → IsAmong held ack going) → (truth ≡ false → IsAmong entered ack going)
    → ((g : Going) → IsAmong held ack g → LeadsTo first turn ran ack (run_commands body ack g)) → KeepsListed first faults
    → ((g : Going) → IsAmong ran ack g → Parts next ended ack g) → KeepsCases entered next → KeepsCases ended ends
    → ((g : Going) → IsAmong next ack g → LeadsTo faults turn ends ack (rest g)) → LeadsTo faults turn ends ack (after_condition truth body rest ack going)
leads_condition first faults turn held ran entered next ended ends ack true body rest going on_true on_false runs listed parts on keeps later =
    leads_body first faults turn ran next ended ends ack (run_commands body ack going) rest (runs going (on_true refl)) listed parts keeps later
leads_condition first faults turn held ran entered next ended ends ack false body rest going on_true on_false runs listed parts on keeps later = later going (on ack going (on_false refl))

-- one block and then the rest
pub leads_block : (before first faults : List Listed) (turn : ℕ) (held ran entered next ended ends : List Case) (ack : Ack) (met : Result ℕ Cause) (body : List Action) (rest : Going → Result Going Cause) (going : Going)
    → Enters before turn held entered ack going met → KeepsListed before faults
    → ((g : Going) → IsAmong held ack g → LeadsTo first turn ran ack (run_commands body ack g)) → KeepsListed first faults
    → ((g : Going) → IsAmong ran ack g → Parts next ended ack g) → KeepsCases entered next → KeepsCases ended ends
    → ((g : Going) → IsAmong next ack g → LeadsTo faults turn ends ack (rest g))
    → LeadsTo faults turn ends ack (then_do met (λ held. after_condition (is_true held) body rest ack going))
leads_block before first faults turn held ran entered next ended ends ack (Ok value) body rest going enters listed runs kept parts on keeps later =
    leads_condition first faults turn held ran entered next ended ends ack (is_true value) body rest going enters.0 enters.1 runs kept parts on keeps later
leads_block before first faults turn held ran entered next ended ends ack (Err cause) body rest going enters listed runs kept parts on keeps later = listed cause turn enters

-- values that are all 0
pub AreIn_nothing : (range : Range) (n : ℕ) → range.lo ≡ 0 → AreIn (replicate n range) (λ i. 0)
AreIn_nothing range n low = record {
  each = λ i past zero.
      elim (cases_lt i n) [
        | inl within ↦ subst (λ (r : Range). IsIn r 0) (sym (get_or-replicate n i range past within)) (record { above = omega arith; below = omega arith })
        | inr after ↦ subst (λ (r : Range). IsIn r 0) (sym (get_or_past (replicate n range) i past (omega (arith, length-replicate {A = Range})))) zero
      ];
}

-- a condition that was evaluated, with the parts of a case in which it is true and false
pub condition_parts : (first faults : List Listed) (turn : ℕ) (range : Option Range) (held next : List Case) (ack : Ack) (going : Going) (met : Result ℕ Cause)
    → Meets first turn range met → KeepsListed first faults → ((value : ℕ) → met ≡ Ok value → is_true value ≡ true → IsAmong held ack going)
    → ((value : ℕ) → met ≡ Ok value → is_true value ≡ false → IsAmong next ack going) → Enters faults turn held next ack going met
condition_parts first faults turn range held next ack going (Ok value) meets listed on_true on_false = (on_true value refl, on_false value refl)
condition_parts first faults turn range held next ack going (Err cause) meets listed on_true on_false = listed cause turn meets
