-- The duties of workers whose work was begun.
use Rattle.std.specs.Prelude.{ℕ, zero, suc, List, [], ◌∷◌, ◌++◌}
use Rattle.worker_desk.specs.declared.receipt.Duty.{Duty}
use Rattle.worker_desk.specs.declared.work.Work.{Work}
use Rattle.worker_desk.specs.declared.work.Work.TheVariants as work

-- the duty of the worker whose work was begun
abbrev pub duty_of : {S : Type 0} → Work S → Duty S
duty_of (work.Thread handle) = handle.promise
duty_of (work.Here receipt) = receipt

-- the duties of the workers below a number, in order, by what gives a worker's
abbrev pub duties : {D : Type 0} → (ℕ → D) → ℕ → List D
duties duty zero = []
duties duty (suc worker) = duties duty worker ++ duty worker ∷ []
