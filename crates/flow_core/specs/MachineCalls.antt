-- What a machine does with an acknowledgement.
use Rattle.std.specs.Prelude.{ℕ, Bool}
use Rattle.ccp_base.specs.declared.ack.Ack.{Ack}
use Rattle.ccp_base.specs.declared.arithmetic.FaultKind.{FaultKind}
use Rattle.portus_core.specs.declared.env.Env.{Env}
use Rattle.portus_core.specs.Epoch.{Outcome, heard}
use Rattle.reg_code.specs.declared.code.Code.{Code}
use Rattle.fold_machine.specs.declared.acked.Acked.{Acked}
use Rattle.fold_machine.specs.MachineState.{MachineState}
use Rattle.flow_core.specs.Readings.{by_code, env_of}
use Rattle.flow_core.specs.Cores.{ran_by}
use Rattle.flow_core.specs.States.{outcome_by}

-- the outcome of an acknowledgement on a machine with this code, and the env after it
abbrev pub heard_on : Code → MachineState → Ack → Bool → Outcome (FaultKind × ℕ) × Env
heard_on code machine ack room = heard (by_code code) machine.is_stopped (env_of machine.kept) ack room

-- the same, by the machine's answer and the machine after it
abbrev pub outcome_and_env : Acked → MachineState → Outcome (FaultKind × ℕ) × Env
outcome_and_env acked machine = (outcome_by acked machine.report, env_of machine.kept)

-- how many instructions it runs
abbrev pub ran_on : Code → MachineState → Ack → Bool → ℕ
ran_on code machine ack room = ran_by machine.is_stopped code (env_of machine.kept) ack room
