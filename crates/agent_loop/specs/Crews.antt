-- The workers of a live run, and what shows that each worker's work was done.
use Rattle.std.specs.Prelude.{◌≡◌, ℕ, ◌+◌, List}
use Rattle.worker_desk.specs.declared.receipt.Duty.{Duty}
use Rattle.worker_desk.specs.declared.receipt.AgentShare.{AgentShare}
use Rattle.worker_desk.specs.Works.{duties}
use Rattle.flow_table.specs.Duties.{duty}
use Rattle.agent_loop.specs.declared.attending.Attending.{Attending}
use Rattle.agent_loop.specs.declared.attending.Attending.TheVariants as attending
use Rattle.agent_loop.specs.declared.crew.Crew.{Crew}

-- the duty of an agent worker, by how many flows there are
abbrev pub agent_duty : ℕ → ℕ → Duty AgentShare
agent_duty flows worker = record { worker = worker; flows = flows; share = record {} }

-- the duty of the agent worker whose work was begun
abbrev pub agent_duty_of : ℕ → Attending → Duty AgentShare
agent_duty_of flows (attending.Thread handle) = handle.promise
agent_duty_of flows (attending.Left worker) = agent_duty flows worker

-- the duties of agent workers, whose numbers come after those of the datapath workers, in order
abbrev pub agent_duties : ℕ → ℕ → ℕ → List (Duty AgentShare)
agent_duties datapaths flows agents = duties (λ agent. agent_duty flows (datapaths + agent)) agents

-- the work of each of these workers was done, over this many flows
abbrev pub HasWorked : Crew → ℕ → ℕ → ℕ → Type 0
HasWorked crew datapaths agents flows =
    (crew.served.items ≡ duties (duty datapaths flows) datapaths)
    × (crew.attended.items ≡ agent_duties datapaths flows agents)
