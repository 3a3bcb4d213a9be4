-- The members of the whole: the version that comes before the programs, and the cases within their limits.
use Rattle.std.specs.Prelude.{ℕ, ◌+◌, nat_le, if◌then◌else◌, Option, Some, None, Result, Ok, Err, List, [], ◌∷◌}
use Rattle.std.specs.Str.{is_utf8}
use Rattle.serde_json.specs.Data.{Data, Items}
use Rattle.serde_json.specs.Events.{items_len}
use Rattle.serde_json.specs.Read.{read}
use Rattle.ccp_base.specs.Limits.{most_flows, most_cases, most_acks_in_all}
use Rattle.ccp_base.specs.Chaining.{then_do}
use Rattle.scene_members.specs.declared.fault.MemberFault.{MemberFault}
use Rattle.scene_members.specs.declared.fault.MemberFault.TheVariants.{Json, Range, Totals}
use Rattle.scene_members.specs.declared.key.Key.TheVariants as key
use Rattle.scene_members.specs.declared.json_place.JsonPlace.TheVariants.{Whole, Top}
use Rattle.scene_members.specs.declared.plan.Plan.{Plan}
use Rattle.scene_members.specs.declared.mode.SceneMode.{SceneMode}
use Rattle.scene_members.specs.declared.mode.SceneMode.TheVariants.{Campaign}
use Rattle.scene_members.specs.Paths.{path_of}
use Rattle.scene_members.specs.Values.{member_of, needed_member, list_in, object_in, needed_number}
use Rattle.scene_members.specs.CaseWalk.{Table, cases_from}

-- ---- the value

abbrev pub or_json : Option Data → Result Data MemberFault
or_json None = Err Json
or_json (Some value) = Ok value

-- the value that a text is; bytes that are no text have none
abbrev pub value_of_bytes : List ℕ → Result Data MemberFault
value_of_bytes text = or_json (if is_utf8 text then read text else None)

-- what comes before the programs: the whole is an object, of version 1
abbrev pub opening_in : Data → Result ℕ MemberFault
opening_in whole =
    then_do (object_in Whole whole) (λ members. needed_number (Top key.Version) key.Version whole)

-- ---- the cases

abbrev pub most_cases_of : SceneMode → ℕ
most_cases_of Campaign = most_cases
most_cases_of mode = most_flows

abbrev pub few_items : SceneMode → Items → Result Items MemberFault
few_items mode items =
    if nat_le (items_len items) (most_cases_of mode) then Ok items else Err (Range (path_of (Top key.Cases)))

-- the acknowledgements of all cases
abbrev pub total_acks : List Plan → ℕ
total_acks [] = 0
total_acks (plan ∷ rest) = plan.link_numbers.acks + total_acks rest

abbrev pub within_total : SceneMode → List Plan → Result (List Plan) MemberFault
within_total Campaign cases = Ok cases
within_total mode cases = if nat_le (total_acks cases) most_acks_in_all then Ok cases else Err Totals

-- the cases of a scenario whose programs have these names, and whose traces are these
abbrev pub cases_in : SceneMode → List (List ℕ) → Table → Data → Result (List Plan) MemberFault
cases_in mode names traces whole =
    then_do (needed_member (Top key.Cases) (member_of key.Cases whole)) (λ value.
    then_do (list_in (Top key.Cases) value) (λ items.
    then_do (few_items mode items) (λ few.
    then_do (cases_from mode names traces [] few) (λ cases. within_total mode cases))))
