-- The workers of a rollout, and what shows that each worker's work was done.
use Rattle.std.specs.Prelude.{◌≡◌, ℕ, ◌+◌}
use Rattle.worker_desk.specs.declared.receipt.Duty.{Duty}
use Rattle.worker_desk.specs.declared.receipt.InstallerShare.{InstallerShare}
use Rattle.worker_desk.specs.Works.{duties}
use Rattle.flow_table.specs.Duties.{duty}
use Rattle.live_install.specs.declared.crew.Crew.{Crew}

-- the duty of an installer, whose number at the gate comes after those of the datapath workers
abbrev pub install_duty : ℕ → ℕ → ℕ → ℕ → Duty InstallerShare
install_duty datapaths agents flows agent = record {
  worker = datapaths + agent;
  flows = flows;
  share = record { first = agent; workers = agents };
}

-- the work of each of these workers was done, over this many flows
abbrev pub HasWorked : Crew → ℕ → ℕ → ℕ → Type 0
HasWorked crew datapaths agents flows =
    (crew.served.items ≡ duties (duty datapaths flows) datapaths)
    × (crew.equipped.items ≡ duties (install_duty datapaths agents flows) agents)
