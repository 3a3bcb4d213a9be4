-- What an agent worker did from a number on, and so what it did in all.
use Rattle.std.proofs.Common.{◌≡◌, ℕ, ◌<◌, ◌≤◌, Bool, true, false, cond, arith, nat_lt, Some, None, [], ◌∷◌, sym, subst}
use Rattle.agent_core.specs.declared.ticket.Ticket.{Ticket}
use Rattle.worker_desk.specs.declared.event.Event.TheVariants.{Passed, Locked, Unlocked, Received, Settled}
use Rattle.ccp_base.specs.declared.gate.Point.TheVariants.{AfterTake, AfterSettle}
use Rattle.worker_desk.specs.Logs.{KnownLog, Logs}
use Rattle.worker_desk.specs.Attending.{Errand, errand, taking, settling, tending, attended, Tends, Attends}
use Rattle.std.proofs.lemmas.Bool.Decides.{nat_tests}
use Rattle.worker_desk.proofs.ServingLemmas.{Logs-append}

-- an errand, and then the others
errand-then : (worker flows : ℕ) (e : Errand) (old middle end : KnownLog)
    → Logs old middle (errand worker flows e) → Attends worker flows middle end → Attends worker flows old end
errand-then worker flows e old middle end logs then =
    record {
      errands = e ∷ then.errands;
      logs = Logs-append old middle end (errand worker flows e) (attended worker flows then.errands) logs then.logs;
    }

-- a flow's number comes and the flow is tended, and then the others
pub flow-then : (worker flows flow : ℕ) (old heard middle end : KnownLog) → flow < flows
    → Logs old heard (Received (Some flow) ∷ []) → Tends worker flow heard middle
    → Attends worker flows middle end → Attends worker flows old end
flow-then worker flows flow old heard middle end below first tends then =
    let is : nat_lt flow flows ≡ true = grind (arith, nat_tests) in
    let e : Errand = record { flow = flow; taken = tends.taken } in
    errand-then worker flows e old middle end
    (subst (λ (b : Bool). Logs old middle (Received (Some flow) ∷ cond b (tending worker flow tends.taken) [])) (sym is)
    (Logs-append old heard middle (Received (Some flow) ∷ []) (tending worker flow tends.taken) first tends.logs)) then

-- a number that is no flow's comes, and then the others
pub other-then : (worker flows flow : ℕ) (old heard end : KnownLog) → flows ≤ flow
    → Logs old heard (Received (Some flow) ∷ []) → Attends worker flows heard end → Attends worker flows old end
other-then worker flows flow old heard end above first then =
    let is : nat_lt flow flows ≡ false = grind (arith, nat_tests) in
    let e : Errand = record { flow = flow; taken = None } in
    errand-then worker flows e old heard end
    (subst (λ (b : Bool). Logs old heard (Received (Some flow) ∷ cond b (tending worker flow None) [])) (sym is) first) then

-- a ticket is taken and its answer settled
pub answered-then : (worker flow : ℕ) (ticket answer : Ticket) (old taken passed settled new : KnownLog) → answer ≡ ticket
    → Logs old taken (taking flow (Some ticket)) → Logs taken passed (Passed worker AfterTake flow ∷ [])
    → Logs passed settled (settling flow answer) → Logs settled new (Passed worker AfterSettle flow ∷ [])
    → Tends worker flow old new
answered-then worker flow ticket answer old taken passed settled new same first next then last =
    record {
      taken = Some ticket;
      logs = Logs-append old taken new (taking flow (Some ticket)) _ first
          (Logs-append taken passed new (Passed worker AfterTake flow ∷ []) _ next
          (Logs-append passed settled new (settling flow ticket) (Passed worker AfterSettle flow ∷ [])
          (subst (λ (t : Ticket). Logs passed settled (settling flow t)) same then) last));
    }

-- an answer is settled under the lock
pub settled-then : (flow : ℕ) (ticket : Ticket) (old locked settled new : KnownLog) → Logs old locked (Locked flow ∷ [])
    → Logs locked settled (Settled flow ticket ∷ []) → Logs settled new (Unlocked flow ∷ []) → Logs old new (settling flow ticket)
settled-then flow ticket old locked settled new first next last =
    Logs-append old locked new (Locked flow ∷ []) (Settled flow ticket ∷ Unlocked flow ∷ []) first
    (Logs-append locked settled new (Settled flow ticket ∷ []) (Unlocked flow ∷ []) next last)
