-- Why a mode has no output, if its text is no scenario.
use Rattle.ccp_base.specs.Outside.{no_memory}
use Rattle.scene_faults.specs.declared.fault.SceneFault.{SceneFault}
use Rattle.scene_faults.specs.declared.fault.SceneFault.TheVariants as scene
use Rattle.run_ending.specs.declared.refusal.Refusal.TheVariants as refusal
use Rattle.run_ending.specs.declared.stop.Stop.{Stop}
use Rattle.run_ending.specs.declared.stop.Stop.TheVariants as stop

-- why a mode has no output, if its text is no scenario for this fault
abbrev pub scene_stop : SceneFault → Stop
scene_stop (scene.NoMemory _) = stop.NoMemory no_memory
scene_stop fault = stop.Refused (refusal.Scene fault)
