-- The flow whose lock is held, and what a call makes of it.
use Rattle.std.specs.Prelude.{ℕ, Option, option_map, IfSome}
use Rattle.std.specs.Sync.Mutex.{mutex_guard_value}
use Rattle.std.specs.declared.sync.MutexGuard.{MutexGuard}

-- its number, by what gives a flow's
abbrev pub number_held : {F : Type 0} → (F → ℕ) → Option (MutexGuard F) → Option ℕ
number_held number_of held = option_map (λ guard. number_of (mutex_guard_value guard)) held

-- this holds of the flow before and after a call that keeps its lock
abbrev pub OfHeld : {F : Type 0} → (F → F → Type 0) → Option (MutexGuard F) → Option (MutexGuard F) → Type 0
OfHeld Made old new =
    IfSome old (λ before. IfSome new (λ after. Made (mutex_guard_value before) (mutex_guard_value after)))
