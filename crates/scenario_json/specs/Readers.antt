-- What a reader of a scenario returns, by the walk that defines it.
use Rattle.std.specs.Prelude.{◌≡◌, ◌≢◌, Result, Ok, Err}
use Rattle.ccp_base.specs.Outside.{no_memory}
use Rattle.scene_faults.specs.declared.fault.SceneFault.{SceneFault}
use Rattle.scene_faults.specs.declared.fault.SceneFault.TheVariants.{NoMemory}

-- a value is the walk's, by `view`, and a refusal is the walk's unless it is that memory ran out
abbrev pub Gives : {X Y : Type 0} → (X → Y) → Result X SceneFault → Result Y SceneFault → Type 0
Gives view (Ok x) walk = walk ≡ Ok (view x)
Gives view (Err fault) walk = fault ≢ NoMemory no_memory → walk ≡ Err fault
