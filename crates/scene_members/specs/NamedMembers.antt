-- The members that a scenario names by itself, as programs and traces: a name and a text each.
use Rattle.std.specs.Prelude.{ℕ, nat_le, if◌then◌else◌, Option, Some, None, Result, Ok, Err, List}
use Rattle.serde_json.specs.Data.{Data, Members, no_members}
use Rattle.serde_json.specs.Events.{members_len}
use Rattle.serde_json.specs.Find.{as_str}
use Rattle.ccp_base.specs.Limits.{most_named_programs}
use Rattle.ccp_base.specs.Chaining.{then_do}
use Rattle.scene_members.specs.declared.fault.MemberFault.{MemberFault}
use Rattle.scene_members.specs.declared.fault.MemberFault.TheVariants.{Wrong, Range}
use Rattle.scene_members.specs.declared.key.Key.{Key}
use Rattle.scene_members.specs.declared.key.Key.TheVariants as key
use Rattle.scene_members.specs.declared.json_place.JsonPlace.TheVariants.{Top}
use Rattle.scene_members.specs.Paths.{path_of, named_path}
use Rattle.scene_members.specs.Values.{object_in}
use Rattle.scene_members.specs.SceneNames.{scene_name}

-- what a member that the scenario names by itself must have: a name, and a text
abbrev pub of_named : {A : Type 0} → Key → List ℕ → Option A → Result A MemberFault
of_named k name (Some value) = Ok value
of_named k name None = Err (Wrong (named_path k name))

-- its text, if its name is one
abbrev pub named_text : Key → List ℕ → Data → Result (List ℕ) MemberFault
named_text k name value =
    then_do (of_named k name (scene_name name)) (λ checked. of_named k name (as_str value))

-- an object that doesn't have more members than a scenario names programs
abbrev pub few_members : Members → Result Members MemberFault
few_members members =
    if nat_le (members_len members) most_named_programs then Ok members else Err (Range (path_of (Top key.Programs)))

-- the members of `programs`: none if the scenario doesn't have it
abbrev pub named_members : Option Data → Result Members MemberFault
named_members None = Ok no_members
named_members (Some value) = then_do (object_in (Top key.Programs) value) (λ members. few_members members)
