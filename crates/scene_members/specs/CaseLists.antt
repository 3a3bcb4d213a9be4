-- What JSON values say as cases, if tables and texts are those that the code keeps.
use Rattle.std.specs.Prelude.{ℕ, Result, List, [], String}
use Rattle.std.specs.declared.alloc.Global.{Global}
use Rattle.serde_json.specs.View.{items_view}
use Rattle.serde_json.specs.declared.value.Value.{Value}
use Rattle.scene_members.specs.declared.fault.MemberFault.{MemberFault}
use Rattle.scene_members.specs.declared.mode.SceneMode.{SceneMode}
use Rattle.scene_members.specs.declared.open_texts.OpenText.{OpenText}
use Rattle.scene_members.specs.declared.plan.Plan.{Plan}
use Rattle.scene_members.specs.CaseWalk.{cases_from}
use Rattle.scene_members.specs.OpenCases.{texts_of}
use Rattle.scene_members.specs.Rollout.{OpenPlan, open_cases_from}
use Rattle.scene_members.specs.Traces.{table_of}

-- what values say as cases, if programs have these names, and these are the traces
abbrev pub plans_in : SceneMode → List (List ℕ) → List (String Global × List ℕ) → List Value
    → Result (List Plan) MemberFault
plans_in mode names traces values = cases_from mode names (table_of traces) [] (items_view values)

-- what values say as cases of a rollout, if these are the programs' texts
abbrev pub open_plans : List OpenText → List (String Global × List ℕ) → List Value → Result (List OpenPlan) MemberFault
open_plans texts traces values = open_cases_from (texts_of texts) (table_of traces) [] (items_view values)
