-- What a scenario of a rollout says: its cases with the texts of their steps, or the first refusal in the order of its
-- parts.
use Rattle.std.specs.Prelude.{ℕ, ◌+◌, ◌&&◌, nat_le, if◌then◌else◌, Option, Some, None, Result, Ok, Err, List, [], ◌∷◌, ◌++◌, length, bytes_eq}
use Rattle.serde_json.specs.Data.{Data, Items, no_items, item, Members, no_members, member}
use Rattle.serde_json.specs.Events.{items_len}
use Rattle.ccp_base.specs.Limits.{most_steps, most_acks_in_all}
use Rattle.ccp_base.specs.Chaining.{then_do}
use Rattle.scene_members.specs.declared.fault.MemberFault.{MemberFault}
use Rattle.scene_members.specs.declared.fault.MemberFault.TheVariants.{Range, Totals}
use Rattle.scene_members.specs.declared.key.Key.TheVariants as key
use Rattle.scene_members.specs.declared.json_place.JsonPlace.{JsonPlace}
use Rattle.scene_members.specs.declared.json_place.JsonPlace.TheVariants.{Top, Case, In, Item}
use Rattle.scene_members.specs.declared.plan.LinkNumbers.{LinkNumbers}
use Rattle.scene_members.specs.declared.plan.LossPlan.{LossPlan}
use Rattle.scene_members.specs.declared.mode.SceneMode.TheVariants.{Live}
use Rattle.scene_members.specs.Paths.{path_of}
use Rattle.scene_members.specs.Values.{member_of, needed_member, of_kind, text_in, list_in, object_in}
use Rattle.scene_members.specs.CaseWalk.{Table, case_name, case_trace, case_number, case_link_numbers, case_loss_plan}
use Rattle.scene_members.specs.NamedMembers.{named_text, named_members}
use Rattle.scene_members.specs.Traces.{traces_in}
use Rattle.scene_members.specs.Whole.{few_items, opening_in}

-- what a case says
pub record OpenPlan : Type 0 where
  pub name : List ℕ
  pub trace : List ℕ
  pub link_numbers : LinkNumbers
  pub loss_plan : LossPlan
  pub cwnd : ℕ
  pub steps : List (List ℕ)

-- ---- the texts of programs, which aren't built

-- program texts by name
abbrev pub Texts : Type 0
Texts = List (List ℕ × List ℕ)

-- the texts, after those that are done
abbrev pub texts_from : Texts → Members → Result Texts MemberFault
texts_from done no_members = Ok done
texts_from done (member name value rest) =
    then_do (named_text key.Programs name value) (λ text. texts_from (done ++ (name, text) ∷ []) rest)

-- the texts of a scenario
abbrev pub texts_in : Data → Result Texts MemberFault
texts_in whole =
    then_do (named_members (member_of key.Programs whole)) (λ members. texts_from [] members)

abbrev pub text_named : List ℕ → Texts → Option (List ℕ)
text_named name [] = None
text_named name (one ∷ rest) = if bytes_eq name one.0 then Some one.1 else text_named name rest

-- ---- the steps of a case

-- the text of the program that a value names
abbrev pub step_in : JsonPlace → Texts → Data → Result (List ℕ) MemberFault
step_in place texts value = then_do (text_in place value) (λ name. of_kind place (text_named name texts))

-- the texts of the steps, after those that are done
abbrev pub steps_from : Texts → ℕ → List (List ℕ) → Items → Result (List (List ℕ)) MemberFault
steps_from texts i done no_items = Ok done
steps_from texts i done (item value rest) =
    then_do (step_in (Item i key.Steps (length done)) texts value) (λ text. steps_from texts i (done ++ text ∷ []) rest)

-- a list of 1 to 16 items
abbrev pub some_steps : JsonPlace → Items → Result Items MemberFault
some_steps place items =
    if nat_le 1 (items_len items) && nat_le (items_len items) most_steps then Ok items else Err (Range (path_of place))

-- the length is checked before the items
abbrev pub case_steps : Texts → ℕ → Data → Result (List (List ℕ)) MemberFault
case_steps texts i whole =
    then_do (needed_member (In i key.Steps) (member_of key.Steps whole)) (λ value.
    then_do (list_in (In i key.Steps) value) (λ items.
    then_do (some_steps (In i key.Steps) items) (λ few. steps_from texts i [] few)))

-- ---- the cases

abbrev pub open_members : Texts → Table → ℕ → Data → Result OpenPlan MemberFault
open_members texts traces i whole =
    then_do (case_name i whole) (λ name.
    then_do (case_trace traces i whole) (λ trace.
    then_do (case_link_numbers i whole) (λ link_numbers.
    then_do (case_loss_plan i whole) (λ loss_plan.
    then_do (case_number i key.Cwnd whole) (λ cwnd.
    then_do (case_steps texts i whole) (λ steps.
    Ok (record {
      name = name;
      trace = trace;
      link_numbers = link_numbers;
      loss_plan = loss_plan;
      cwnd = cwnd;
      steps = steps;
    })))))))

abbrev pub open_case_in : Texts → Table → ℕ → Data → Result OpenPlan MemberFault
open_case_in texts traces i whole =
    then_do (object_in (Case i) whole) (λ members. open_members texts traces i whole)

-- the cases, after those that are done
abbrev pub open_cases_from : Texts → Table → List OpenPlan → Items → Result (List OpenPlan) MemberFault
open_cases_from texts traces done no_items = Ok done
open_cases_from texts traces done (item value rest) =
    then_do (open_case_in texts traces (length done) value) (λ plan.
    open_cases_from texts traces (done ++ plan ∷ []) rest)

-- at most as many cases as in a live run
abbrev pub open_cases_in : Texts → Table → Data → Result (List OpenPlan) MemberFault
open_cases_in texts traces whole =
    then_do (needed_member (Top key.Cases) (member_of key.Cases whole)) (λ value.
    then_do (list_in (Top key.Cases) value) (λ items.
    then_do (few_items Live items) (λ few. open_cases_from texts traces [] few)))

-- ---- the whole

-- the acknowledgements of all cases
abbrev pub open_acks_of : List OpenPlan → ℕ
open_acks_of [] = 0
open_acks_of (plan ∷ rest) = plan.link_numbers.acks + open_acks_of rest

abbrev pub within_open_total : List OpenPlan → Result (List OpenPlan) MemberFault
within_open_total cases = if nat_le (open_acks_of cases) most_acks_in_all then Ok cases else Err Totals

-- what a value says
abbrev pub open_plans_in : Data → Result (List OpenPlan) MemberFault
open_plans_in whole =
    then_do (opening_in whole) (λ version.
    then_do (texts_in whole) (λ texts.
    then_do (traces_in whole) (λ traces.
    then_do (open_cases_in texts traces whole) (λ cases. within_open_total cases))))
