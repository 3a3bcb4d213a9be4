-- What a machine's answer to an acknowledgement means for the program that its code simulates.
use Rattle.std.specs.Prelude.{ℕ, ◌<◌, List, length}
use Rattle.ccp_base.specs.declared.place.Place.{Place}
use Rattle.portus_core.specs.declared.env.Mean.{Mean}
use Rattle.portus_core.specs.declared.env.Mean.TheVariants as mean
use Rattle.fold_machine.specs.declared.acked.Acked.{Acked}
use Rattle.fold_machine.specs.declared.acked.Acked.TheVariants as acked
use Rattle.reg_compiler.specs.Simulation.{place_at}

-- the meaning of an answer, if the last report has these fields; a machine that isn't stopped never answers `Stopped`
abbrev pub mean_of : List Place → List ℕ → Acked → Mean
mean_of places report acked.Quiet = mean.Quiet
mean_of places report acked.Reported = mean.Reported report
mean_of places report acked.Held = mean.Held
mean_of places report (acked.Faulted kind index) = mean.Fault kind (place_at places index)
mean_of places report acked.Stopped = mean.Quiet

-- an instruction that faulted has a place
abbrev pub HasItsPlace : List Place → Acked → Type 0
HasItsPlace places acked.Quiet = Unit {0}
HasItsPlace places acked.Reported = Unit {0}
HasItsPlace places acked.Held = Unit {0}
HasItsPlace places (acked.Faulted kind index) = index < length places
HasItsPlace places acked.Stopped = Unit {0}
