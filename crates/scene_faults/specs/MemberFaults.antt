-- What a refusal of a scenario's member is as a refusal of the scenario.
use Rattle.std.specs.Prelude.{Result, Ok, Err}
use Rattle.ccp_base.specs.Outside.{no_memory}
use Rattle.scene_members.specs.declared.fault.MemberFault.{MemberFault}
use Rattle.scene_members.specs.declared.fault.MemberFault.TheVariants as member
use Rattle.scene_faults.specs.declared.fault.SceneFault.{SceneFault}
use Rattle.scene_faults.specs.declared.fault.SceneFault.TheVariants.{Json, Missing, Wrong, Range, Trace, Totals, NoMemory}

abbrev pub scene_fault : MemberFault → SceneFault
scene_fault member.Json = Json
scene_fault (member.Missing path) = Missing path
scene_fault (member.Wrong path) = Wrong path
scene_fault (member.Range path) = Range path
scene_fault (member.Trace name fault) = Trace name fault
scene_fault member.Totals = Totals
scene_fault (member.NoMemory _) = NoMemory no_memory

-- what is read of a member, or its refusal as the scenario's
abbrev pub in_scene : {A : Type 0} → Result A MemberFault → Result A SceneFault
in_scene (Ok value) = Ok value
in_scene (Err fault) = Err (scene_fault fault)
