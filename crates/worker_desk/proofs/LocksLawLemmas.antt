-- That workers keep to the locks.
use Rattle.std.proofs.Common.{◌≡◌, ℕ, Bool, true, false, cond, ◌&&◌, nat_lt, Option, Some, None, List, [], ◌∷◌, ◌++◌, refl, ap, ◌∙◌}
use Rattle.std.proofs.lemmas.Bool.{eq-eqb}
use Rattle.agent_core.specs.declared.ticket.Ticket.{Ticket}
use Rattle.worker_desk.specs.declared.event.Heard.{Heard}
use Rattle.worker_desk.specs.declared.event.Heard.TheVariants.{Quiet, Reported, Faulted, Ended}
use Rattle.worker_desk.specs.declared.event.Event.{Event}
use Rattle.worker_desk.specs.Serving.{turn, again, served}
use Rattle.worker_desk.specs.Attending.{tending, attended}
use Rattle.worker_desk.specs.Equipping.{StepOutcome, unbuilt, late, installed, changed, equipping, equipped}
use Rattle.worker_desk.specs.LocksLaw.{keeps_locks, ServingKeepsLocks, AttendingKeepsLocks, EquippingKeepsLocks}

module _ (worker flow : ℕ) (rest : List Event) where
  keeps-turn : (answer : Heard) → keeps_locks None (turn worker flow answer ++ rest) ≡ keeps_locks None rest
  keeps-turn Quiet = ap (λ (own : Bool). own && (own && (own && keeps_locks None rest))) (eq-eqb flow flow refl)
  keeps-turn Reported = ap (λ (own : Bool). own && (own && (own && keeps_locks None rest))) (eq-eqb flow flow refl)
  keeps-turn Faulted = ap (λ (own : Bool). own && (own && (own && keeps_locks None rest))) (eq-eqb flow flow refl)
  keeps-turn Ended = ap (λ (own : Bool). own && (own && (own && keeps_locks None rest))) (eq-eqb flow flow refl)

  keeps-tending : (taken : Option Ticket) (is_flow : Bool)
      → keeps_locks None (cond is_flow (tending worker flow taken) [] ++ rest) ≡ keeps_locks None rest
  keeps-tending None true = ap (λ (own : Bool). own && (own && keeps_locks None rest)) (eq-eqb flow flow refl)
  keeps-tending (Some ticket) true =
      ap (λ (own : Bool). own && (own && (own && (own && keeps_locks None rest)))) (eq-eqb flow flow refl)
  keeps-tending taken false = refl

  keeps-equipping : (step : ℕ) (outcome : StepOutcome) → keeps_locks None (equipping worker flow step outcome ++ rest) ≡ keeps_locks None rest
  keeps-equipping step unbuilt = refl
  keeps-equipping step late = ap (λ (own : Bool). own && (own && keeps_locks None rest)) (eq-eqb flow flow refl)
  keeps-equipping step installed =
      ap (λ (own : Bool). own && (own && (own && (own && keeps_locks None rest)))) (eq-eqb flow flow refl)
  keeps-equipping step changed =
      ap (λ (own : Bool). own && (own && (own && (own && keeps_locks None rest)))) (eq-eqb flow flow refl)

pub serving-keeps : ServingKeepsLocks
serving-keeps worker row [] = refl
serving-keeps worker [] (answer ∷ answers) = refl
serving-keeps worker (flow ∷ row) (answer ∷ answers) =
    keeps-turn worker flow (served worker (row ++ again flow answer) answers) answer
    ∙ serving-keeps worker (row ++ again flow answer) answers

pub attending-keeps : AttendingKeepsLocks
attending-keeps worker flows [] = refl
attending-keeps worker flows (errand ∷ errands) =
    keeps-tending worker errand.flow (attended worker flows errands) errand.taken (nat_lt errand.flow flows)
    ∙ attending-keeps worker flows errands

pub equipping-keeps : EquippingKeepsLocks
equipping-keeps worker tasks [] = refl
equipping-keeps worker [] (outcome ∷ outcomes) = refl
equipping-keeps worker (task ∷ tasks) (outcome ∷ outcomes) =
    keeps-equipping worker task.flow (equipped worker tasks outcomes) task.step outcome ∙ equipping-keeps worker tasks outcomes
