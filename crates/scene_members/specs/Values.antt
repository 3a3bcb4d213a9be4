-- What a value must be if a scenario has a member: there, a whole number in its range, a text, a list, an object.
use Rattle.std.specs.Prelude.{ℕ, ℤ, ◌&&◌, nat_le, if◌then◌else◌, Option, Some, None, option_and_then, Result, Ok, Err, List}
use Rattle.serde_json.specs.Data.{Data, Items, Members}
use Rattle.serde_json.specs.Find.{get, as_number, as_u64, as_i64, as_str, as_array, as_object}
use Rattle.ccp_base.specs.Chaining.{then_do}
use Rattle.scene_members.specs.declared.fault.MemberFault.{MemberFault}
use Rattle.scene_members.specs.declared.fault.MemberFault.TheVariants.{Missing, Wrong, Range}
use Rattle.scene_members.specs.declared.key.Key.{Key}
use Rattle.scene_members.specs.declared.json_place.JsonPlace.{JsonPlace}
use Rattle.scene_members.specs.Keys.{key_word, least_of, greatest_value}
use Rattle.scene_members.specs.Paths.{path_of}

-- the member of an object with this key
abbrev pub member_of : Key → Data → Option Data
member_of key whole = get (key_word key) whole

-- a member that must be there
abbrev pub needed_member : {A : Type 0} → JsonPlace → Option A → Result A MemberFault
needed_member place (Some value) = Ok value
needed_member place None = Err (Missing (path_of place))

-- a value that must be of the right kind
abbrev pub of_kind : {A : Type 0} → JsonPlace → Option A → Result A MemberFault
of_kind place (Some value) = Ok value
of_kind place None = Err (Wrong (path_of place))

abbrev pub in_range : JsonPlace → Key → ℕ → Result ℕ MemberFault
in_range place key number =
    if nat_le (least_of key) number && nat_le number (greatest_value key) then Ok number
    else Err (Range (path_of place))

-- a whole number is one that the value has as a natural number or else as an integer; a negative one is out of range
abbrev pub whole_number : JsonPlace → Key → Option ℕ → Option ℤ → Result ℕ MemberFault
whole_number place key (Some number) integer = in_range place key number
whole_number place key None (Some integer) = Err (Range (path_of place))
whole_number place key None None = Err (Wrong (path_of place))

-- a number in the range of this key
abbrev pub number_in : JsonPlace → Key → Data → Result ℕ MemberFault
number_in place key value =
    whole_number place key (option_and_then as_u64 (as_number value)) (option_and_then as_i64 (as_number value))

abbrev pub text_in : JsonPlace → Data → Result (List ℕ) MemberFault
text_in place value = of_kind place (as_str value)

abbrev pub list_in : JsonPlace → Data → Result Items MemberFault
list_in place value = of_kind place (as_array value)

abbrev pub object_in : JsonPlace → Data → Result Members MemberFault
object_in place value = of_kind place (as_object value)

-- a number that must be there
abbrev pub needed_number : JsonPlace → Key → Data → Result ℕ MemberFault
needed_number place key whole = then_do (needed_member place (member_of key whole)) (λ value. number_in place key value)

-- a number if there is one, else the default
abbrev pub number_or : JsonPlace → Key → ℕ → Option Data → Result ℕ MemberFault
number_or place key default None = Ok default
number_or place key default (Some value) = number_in place key value
