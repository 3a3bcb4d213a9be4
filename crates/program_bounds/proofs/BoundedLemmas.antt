-- Ranges from which an epoch is good bound it.
use Rattle.std.proofs.Common.{arith}
use Rattle.portus_core.specs.declared.env.Env.{Env}
use Rattle.portus_core.specs.Programs.{Form}
use Rattle.portus_core.specs.Epoch.{track_at}
use Rattle.range_cases.specs.declared.case.Kept.{Kept}
use Rattle.range_cases.specs.Cases.{IsKept}
use Rattle.program_bounds.specs.declared.found.Bounds.{Bounds}
use Rattle.program_bounds.specs.declared.premises.Premises.{Premises}
use Rattle.program_bounds.specs.Premises.{Starts}
use Rattle.program_bounds.specs.Bounded.{IsBounded}
use Rattle.program_bounds.specs.Turns.{IsGoodFrom}

pub bounded_from : (form : Form) (given : Premises) (bounds : Bounds) (first : Kept) → IsGoodFrom form given bounds.found bounds.now 0 first
    → ((start : Env) → Starts form given start → IsKept first start) → IsBounded form given bounds
bounded_from form given bounds first good begins = record {
  faults = λ start events starts meets. (good events (track_at 0 start) 0 (omega (arith, meets.few)) meets.follows starts.shape (begins start starts) (omega arith)).faults;
  reports = λ start events starts meets. (good events (track_at 0 start) 0 (omega (arith, meets.few)) meets.follows starts.shape (begins start starts) (omega arith)).reports;
  kept = λ start events starts meets. (good events (track_at 0 start) 0 (omega (arith, meets.few)) meets.follows starts.shape (begins start starts) (omega arith)).kept;
}
