-- That workers keep to the locks: what holds of their events, whatever the answers were.
use Rattle.std.specs.Prelude.{◌≡◌, ◌==◌, ℕ, Bool, true, false, ◌&&◌, Option, Some, None, List, [], ◌∷◌}
use Rattle.ccp_base.specs.declared.gate.Point.{Point}
use Rattle.ccp_base.specs.declared.gate.Point.TheVariants as point
use Rattle.worker_desk.specs.declared.event.Heard.{Heard}
use Rattle.worker_desk.specs.declared.event.Event.{Event}
use Rattle.worker_desk.specs.declared.event.Event.TheVariants as event
use Rattle.worker_desk.specs.Serving.{served}
use Rattle.worker_desk.specs.Attending.{Errand, attended}
use Rattle.worker_desk.specs.Equipping.{StepOutcome, StepTask, equipped}

-- no lock is held
abbrev pub is_free : Option ℕ → Bool
is_free None = true
is_free (Some flow) = false

-- this flow's lock is held
abbrev pub is_held : Option ℕ → ℕ → Bool
is_held None flow = false
is_held (Some held) flow = held == flow

-- a point of the gate is passed as it must be: `InAck` under the flow's lock, every other one without a lock
abbrev pub is_passed_well : Point → Option ℕ → ℕ → Bool
is_passed_well point.InAck held flow = is_held held flow
is_passed_well point.BeforeAck held flow = is_free held
is_passed_well point.AfterAck held flow = is_free held
is_passed_well point.AfterTake held flow = is_free held
is_passed_well point.AfterSettle held flow = is_free held
is_passed_well point.InCase held flow = is_free held
is_passed_well point.AfterCase held flow = is_free held

-- if this lock is held first, a lock is taken while none is held, and given back by its holder. A flow is asked, a
-- ticket is taken and settled, and an entry is installed and changed to under the flow's lock; a nudge is sent, a
-- number received and a text built while none is held. At the end none is
abbrev pub keeps_locks : Option ℕ → List Event → Bool
keeps_locks held [] = is_free held
keeps_locks held (event.Locked flow ∷ events) = is_free held && keeps_locks (Some flow) events
keeps_locks held (event.Unlocked flow ∷ events) = is_held held flow && keeps_locks None events
keeps_locks held (event.Acked worker flow answer ∷ events) = is_held held flow && keeps_locks held events
keeps_locks held (event.Took flow ticket ∷ events) = is_held held flow && keeps_locks held events
keeps_locks held (event.Settled flow ticket ∷ events) = is_held held flow && keeps_locks held events
keeps_locks held (event.Installed flow step installed ∷ events) = is_held held flow && keeps_locks held events
keeps_locks held (event.Changed flow changed ∷ events) = is_held held flow && keeps_locks held events
keeps_locks held (event.Passed worker point flow ∷ events) = is_passed_well point held flow && keeps_locks held events
keeps_locks held (event.Nudged flow ∷ events) = is_free held && keeps_locks held events
keeps_locks held (event.Received flow ∷ events) = is_free held && keeps_locks held events
keeps_locks held (event.Built flow step built ∷ events) = is_free held && keeps_locks held events

abbrev pub ServingKeepsLocks : Type 0
ServingKeepsLocks =
    (worker : ℕ) (row : List ℕ) (answers : List Heard) → keeps_locks None (served worker row answers) ≡ true

abbrev pub AttendingKeepsLocks : Type 0
AttendingKeepsLocks =
    (worker flows : ℕ) (errands : List Errand) → keeps_locks None (attended worker flows errands) ≡ true

abbrev pub EquippingKeepsLocks : Type 0
EquippingKeepsLocks =
    (worker : ℕ) (tasks : List StepTask) (outcomes : List StepOutcome)
    → keeps_locks None (equipped worker tasks outcomes) ≡ true
