-- A flow without its link: its case, the acknowledgements that it was given, and its word.
use Rattle.std.specs.Prelude.{ℕ, Bool, true, false, Option, option_map, List, [], ◌∷◌, ◌++◌}
use Rattle.ccp_base.specs.declared.ack.Ack.{Ack}
use Rattle.ccp_base.specs.declared.arithmetic.FaultKind.{FaultKind}
use Rattle.portus_core.specs.declared.env.Env.{Env}
use Rattle.portus_core.specs.Epoch.{Outcome, quiet, reported, held, failed, stopped, heard}
use Rattle.reg_code.specs.declared.code.Code.{Code}
use Rattle.reg_code.specs.CodeStep.{one_by_code}
use Rattle.reg_compiler.specs.Simulation.{kept_of}
use Rattle.agent_core.specs.declared.ticket.Ticket.{Ticket}
use Rattle.fold_machine.specs.declared.acked.Acked.{Acked}
use Rattle.fold_machine.specs.declared.acked.Acked.TheVariants as acked
use Rattle.flow_core.specs.declared.case.Case.{Case}
use Rattle.flow_core.specs.declared.letter.Letter.{Letter}
use Rattle.flow_core.specs.declared.letter.Letter.TheVariants.{A}
use Rattle.flow_core.specs.Readings.{Flow, code_at, over_codes}
use Rattle.flow_core.specs.World.{World, track_of, has_room, after_ack}
use Rattle.flow_core.specs.Words.{world_over}
use Rattle.flow_core.specs.Books.{out_ticket}

pub record CoreState : Type 0 where
  pub case : Case
  pub acks : List Ack
  pub word : List Letter

-- the flow, read over the codes of its case
abbrev pub flow_in : CoreState → Flow ℕ
flow_in core = over_codes core.case

-- the flow's state after its word
abbrev pub world_in : CoreState → World ℕ
world_in core = world_over (flow_in core) core.acks core.word

-- the core with one more acknowledgement, and its letter
abbrev pub with_ack : CoreState → Ack → CoreState
with_ack core ack = record core { acks = core.acks ++ ack ∷ []; word = core.word ++ A ∷ [] }

-- the flow's state after one more acknowledgement
abbrev pub heard_in : CoreState → Ack → World ℕ
heard_in core ack = after_ack (flow_in core) ack (world_in core)

-- ---- what an acknowledgement is answered

abbrev pub acked_as : Outcome (FaultKind × ℕ) → Acked
acked_as quiet = acked.Quiet
acked_as (reported fields) = acked.Reported
acked_as held = acked.Held
acked_as (failed fault) = acked.Faulted fault.0 fault.1
acked_as stopped = acked.Stopped

-- the outcome of an acknowledgement in a state, and the env after it
abbrev pub met_in : {X : Type 0} → Flow X → World X → Ack → Outcome (FaultKind × X) × Env
met_in flow w ack =
    heard (flow.reading w.present.program) (track_of flow w).is_stopped (track_of flow w).env ack (has_room flow w)

-- the answer to an acknowledgement
abbrev pub acked_with : CoreState → Ack → Acked
acked_with core ack = acked_as (met_in (flow_in core) (world_in core) ack).0

-- how many instructions an acknowledgement runs; none if the program is stopped
abbrev pub ran_by : Bool → Code → Env → Ack → Bool → ℕ
ran_by true code env ack room = 0
ran_by false code env ack room = (one_by_code code (kept_of env) ack room).ran

-- how many an acknowledgement runs in a state of a case
abbrev pub ran_met : Case → World ℕ → Ack → ℕ
ran_met case w ack =
    let flow = over_codes case in
    ran_by (track_of flow w).is_stopped (code_at case w.present.program) (track_of flow w).env ack (has_room flow w)

abbrev pub ran_in : CoreState → Ack → ℕ
ran_in core ack = ran_met core.case (world_in core) ack

-- ---- the ticket that is out

abbrev pub out_in : CoreState → Option Ticket
out_in core = out_ticket (flow_in core) (world_in core)

-- its number, or none
abbrev pub out_number : CoreState → Option ℕ
out_number core = option_map (λ (ticket : Ticket). ticket.number) (out_in core)
