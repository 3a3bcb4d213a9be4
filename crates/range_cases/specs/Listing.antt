-- Which faults are listed.
use Rattle.std.specs.Prelude.{ℕ, ◌≤◌, List, Contains}
use Rattle.portus_core.specs.Value.{Cause}
use Rattle.range_cases.specs.declared.listed.Listed.{Listed}

-- the fault is listed, from an acknowledgement on that isn't later than this one
pub record IsListed (faults : List Listed) (cause : Cause) (at : ℕ) : Type 0 where
  pub first : ℕ
  pub early : first ≤ at
  pub there : Contains faults (record { kind = cause.0; place = cause.1; first = first })

-- what was listed stays listed
abbrev pub KeepsListed : List Listed → List Listed → Type 0
KeepsListed old new = (cause : Cause) (at : ℕ) → IsListed old cause at → IsListed new cause at
