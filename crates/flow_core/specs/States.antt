-- What is kept of an acknowledgement's outcome and of the ticket that is out.
use Rattle.std.specs.Prelude.{ℕ, Option, Some, None, List}
use Rattle.ccp_base.specs.declared.arithmetic.FaultKind.{FaultKind}
use Rattle.portus_core.specs.Epoch.{Outcome, quiet, reported, held, failed, stopped}
use Rattle.fold_machine.specs.declared.acked.Acked.{Acked}
use Rattle.fold_machine.specs.declared.acked.Acked.TheVariants as acked
use Rattle.flow_core.specs.declared.running.Issued.{Issued}
use Rattle.flow_core.specs.Readings.{Flow}
use Rattle.flow_core.specs.World.{Taken, told_as}

-- the outcome of an acknowledgement, by the machine's answer and its last report
abbrev pub outcome_by : Acked → List ℕ → Outcome (FaultKind × ℕ)
outcome_by acked.Quiet report = quiet
outcome_by acked.Reported report = reported report
outcome_by acked.Held report = held
outcome_by (acked.Faulted kind index) report = failed (kind, index)
outcome_by acked.Stopped report = stopped

abbrev pub issued_as : {X : Type 0} → Flow X → Taken X → Issued
issued_as flow ticket = record { told = told_as flow ticket.told; taken = ticket.taken }

-- 1 if there is something, else 0
abbrev pub some_count : {A : Type 0} → Option A → ℕ
some_count None = 0
some_count (Some a) = 1
