-- The duties of datapath workers over a table of flows.
use Rattle.std.specs.Prelude.{ℕ}
use Rattle.worker_desk.specs.declared.receipt.Duty.{Duty}
use Rattle.worker_desk.specs.declared.receipt.DatapathShare.{DatapathShare}

-- the duty of a datapath worker, by how many datapath workers and how many flows there are
abbrev pub duty : ℕ → ℕ → ℕ → Duty DatapathShare
duty datapaths flows worker = record { worker = worker; flows = flows; share = record { workers = datapaths } }
