-- The names in a scenario: 1 to 32 letters, digits, `_`, `-` and `.`.
use Rattle.std.specs.Prelude.{ℕ, ◌==◌, ◌&&◌, ◌||◌, Bool, nat_le, if◌then◌else◌, Option, None, Result, List, length}
use Rattle.std.specs.List.{list_all}
use Rattle.std.specs.Char.{is_ascii_alphanumeric}
use Rattle.serde_json.specs.Data.{Data}
use Rattle.ccp_base.specs.Limits.{most_scene_name_bytes}
use Rattle.ccp_base.specs.Named.{as_name}
use Rattle.ccp_base.specs.Chaining.{then_do}
use Rattle.scene_members.specs.declared.fault.MemberFault.{MemberFault}
use Rattle.scene_members.specs.declared.json_place.JsonPlace.{JsonPlace}
use Rattle.scene_members.specs.Values.{of_kind, text_in}

abbrev pub is_name_byte : ℕ → Bool
is_name_byte byte = is_ascii_alphanumeric byte || byte == 95 || byte == 45 || byte == 46

-- a text if it is a name
abbrev pub scene_name : List ℕ → Option (List ℕ)
scene_name text =
    if nat_le (length text) most_scene_name_bytes && list_all is_name_byte text then as_name text else None

-- a value that must be a name
abbrev pub name_in : JsonPlace → Data → Result (List ℕ) MemberFault
name_in place value = then_do (text_in place value) (λ text. of_kind place (scene_name text))
