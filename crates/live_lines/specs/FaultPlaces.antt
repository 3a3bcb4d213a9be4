-- The places of faults: those of the instructions of programs.
use Rattle.std.specs.Prelude.{◌==◌, ℕ, if◌then◌else◌, List, [], ◌∷◌}
use Rattle.ccp_base.specs.declared.exchange.Notice.{Notice}
use Rattle.ccp_base.specs.declared.place.Place.{Place}
use Rattle.reg_compiler.specs.declared.built.Built.{Built}
use Rattle.flow_core.specs.Lift.{Placing}
use Rattle.flow_core.specs.World.{Failure}

-- the places of the first program with this number; none if there is no such program
abbrev pub program_places : List (ℕ × Built) → ℕ → List Place
program_places [] number = []
program_places (program ∷ rest) number = if program.0 == number then program.1.places else program_places rest number

-- the fault of a notice, with the place of its instruction
abbrev pub placed : Placing → Notice → Failure Place
placed place notice = record {
  program = notice.program;
  epoch = notice.epoch;
  at = notice.at;
  kind = notice.kind;
  site = place notice.program notice.index;
  now = notice.now;
  cwnd = notice.cwnd;
}
