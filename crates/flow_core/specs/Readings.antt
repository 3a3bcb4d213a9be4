-- Two readings of a flow's programs: over the source, and over the code.
use Rattle.std.specs.Prelude.{ℕ, ◌==◌, if◌then◌else◌}
use Rattle.ccp_base.specs.declared.arithmetic.FaultKind.{FaultKind}
use Rattle.ccp_base.specs.declared.place.Place.{Place}
use Rattle.portus_core.specs.declared.env.Env.{Env}
use Rattle.portus_core.specs.Programs.{Form}
use Rattle.portus_core.specs.Epoch.{Outcome, quiet, reported, held, failed, Reading, by_source, declared_env}
use Rattle.reg_code.specs.declared.code.Code.{Code}
use Rattle.reg_code.specs.CodeStep as steps
use Rattle.reg_code.specs.CodeStart.{declared_kept}
pub use Rattle.reg_compiler.specs.Simulation.{env_of}
use Rattle.reg_compiler.specs.Simulation.{kept_of}
use Rattle.agent_core.specs.declared.agent.Agent.{Agent}
use Rattle.flow_core.specs.declared.case.Case.{Case}

-- an outcome of the code in an epoch, a fault with its instruction's index; accepted code is never lost
abbrev pub outcome_of : steps.CodeOutcome → Outcome (FaultKind × ℕ)
outcome_of steps.quiet = quiet
outcome_of (steps.reported fields) = reported fields
outcome_of steps.held = held
outcome_of (steps.faulted kind index) = failed (kind, index)
outcome_of steps.lost = quiet

abbrev pub met_of : steps.Made → Outcome (FaultKind × ℕ) × Env
met_of made = (outcome_of made.outcome, env_of made.kept)

-- the reading of a program by its code
abbrev pub by_code : Code → Reading (FaultKind × ℕ)
by_code code env ack room = met_of (steps.one_by_code code (kept_of env) ack room)

-- a flow as it is read, with sites of X for its faults: its number, its agent, how many acknowledgements come and how
-- many reports may wait; by a program's number, the outcome of an acknowledgement and the env that it starts with if
-- `Cwnd`, `Rate` and time zero are these; and the index that a fault notice has for a site
pub record Flow (X : Type 0) : Type 0 where
  pub number : ℕ
  pub agent : Agent
  pub acks : ℕ
  pub slots : ℕ
  pub reading : ℕ → Reading (FaultKind × X)
  pub declared : ℕ → ℕ → ℕ → ℕ → Env
  pub index : X → ℕ

-- of the programs of a case, that of slow start for its number, and that of congestion avoidance for every other one
abbrev pub by_number : {A : Type 0} → Case → A → A → ℕ → A
by_number case ss ca number = if number == case.ss.role.number then ss else ca

abbrev pub code_at : Case → ℕ → Code
code_at case = by_number case case.ss.code.code case.ca.code.code

-- the flow of a case, read over its codes
abbrev pub over_codes : Case → Flow ℕ
over_codes case = record {
  number = case.flow;
  agent = case.agent;
  acks = case.acks;
  slots = case.slots;
  reading = λ number. by_code (code_at case number);
  declared = λ number cwnd rate now. env_of (declared_kept (code_at case number) cwnd rate now);
  index = λ index. index;
}

-- the flow of a case, read over the sources of its two programs; a place has no index
abbrev pub over_sources : Case → Form → Form → Flow Place
over_sources case ss ca = record {
  number = case.flow;
  agent = case.agent;
  acks = case.acks;
  slots = case.slots;
  reading = λ number. by_source (by_number case ss ca number);
  declared = λ number. declared_env (by_number case ss ca number);
  index = λ place. 0;
}
