-- What the outcome of building has to do with a text's refusal.
use Rattle.std.specs.Prelude.{◌≡◌, ◌⊎◌, Result, Ok, Err}
use Rattle.ccp_base.specs.Outside.{no_memory}
use Rattle.reg_compiler.specs.declared.built.Built.{Built}
use Rattle.portus_build.specs.declared.fault.BuildFault.{BuildFault}
use Rattle.portus_build.specs.declared.fault.BuildFault.TheVariants.{NoMemory}

-- the outcome is this refusal, unless memory ran out
abbrev pub RefusesAs : Result Built BuildFault → BuildFault → Type 0
RefusesAs (Ok built) refusal = ⊥
RefusesAs (Err fault) refusal = (fault ≡ refusal) ⊎ (fault ≡ NoMemory no_memory)
