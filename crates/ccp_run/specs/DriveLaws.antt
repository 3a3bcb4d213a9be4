-- What holds of every input of `drive`: its fronts, and what follows a finished run.
use Rattle.std.specs.Prelude.{◌≡◌, ℕ, None, List, ◌++◌, length}
use Rattle.ccp_base.specs.Limits.{most_audit_bytes}
use Rattle.driven_flow.specs.AfterEnd.{refusals_from}
use Rattle.ccp_run.specs.DriveInputs.{drive_written, drive_refusal, driven_flows}

-- what is written for the first bytes of an input is a front of what is written for the whole
abbrev pub DriveWritesFronts : Type 0
DriveWritesFronts =
    (bytes more : List ℕ) → (later : List ℕ) × (drive_written (bytes ++ more) ≡ drive_written bytes ++ later)

-- what follows these bytes leaves the flows as they are, and is answered by the refusals of its frames alone
pub record AddsRefusalsAlone (bytes more : List ℕ) : Type 0 where
  pub same : driven_flows (bytes ++ more) ≡ driven_flows bytes
  pub written :
      drive_written (bytes ++ more) ≡ drive_written bytes ++ refusals_from most_audit_bytes (length bytes) more

-- so it is after every finished run
abbrev pub DriveEndsForGood : Type 0
DriveEndsForGood = (bytes more : List ℕ) → drive_refusal bytes ≡ None → AddsRefusalsAlone bytes more
