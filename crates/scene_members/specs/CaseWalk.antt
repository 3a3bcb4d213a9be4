-- What a case of a scenario says, or the first refusal in the order of its members.
use Rattle.std.specs.Prelude.{ℕ, ◌+◌, ◌-◌, nat_lt, if◌then◌else◌, Option, Some, None, option_map, Result, Ok, Err, List, [], ◌∷◌, ◌++◌, length, slice_get, position, bytes_eq}
use Rattle.serde_json.specs.Data.{Data, Items, no_items, item}
use Rattle.ccp_base.specs.Chaining.{then_do}
use Rattle.agent_core.specs.declared.kind.Kind.{Kind}
use Rattle.agent_core.specs.declared.kind.Kind.TheVariants.{Reno}
use Rattle.agent_core.specs.Kinds.{kind_named, avoidance_of, built_in_count}
use Rattle.scene_members.specs.declared.fault.MemberFault.{MemberFault}
use Rattle.scene_members.specs.declared.fault.MemberFault.TheVariants.{Wrong}
use Rattle.scene_members.specs.declared.key.Key.{Key}
use Rattle.scene_members.specs.declared.key.Key.TheVariants as key
use Rattle.scene_members.specs.declared.json_place.JsonPlace.{JsonPlace}
use Rattle.scene_members.specs.declared.json_place.JsonPlace.TheVariants.{Case, In, Item}
use Rattle.scene_members.specs.declared.mode.SceneMode.{SceneMode}
use Rattle.scene_members.specs.declared.mode.SceneMode.TheVariants.{Shared, Driven}
use Rattle.scene_members.specs.declared.plan.LinkNumbers.{LinkNumbers}
use Rattle.scene_members.specs.declared.plan.AgentNumbers.{AgentNumbers}
use Rattle.scene_members.specs.declared.plan.LossPlan.{LossPlan}
use Rattle.scene_members.specs.declared.plan.Programs.{Programs}
use Rattle.scene_members.specs.declared.plan.Plan.{Plan}
use Rattle.scene_members.specs.Paths.{path_of}
use Rattle.scene_members.specs.Values.{member_of, needed_member, of_kind, number_in, text_in, list_in, object_in, needed_number, number_or}
use Rattle.scene_members.specs.SceneNames.{name_in}

-- ---- texts

-- the case's name
abbrev pub case_name : ℕ → Data → Result (List ℕ) MemberFault
case_name i whole =
    then_do (needed_member (In i key.Name) (member_of key.Name whole)) (λ value. name_in (In i key.Name) value)

-- the case's agent. A plan has an agent, so that of a flow whose agent is outside has one too: Reno, whatever the
-- member is. The flow never asks it.
abbrev pub case_kind : SceneMode → ℕ → Data → Result Kind MemberFault
case_kind Driven i whole = Ok Reno
case_kind mode i whole =
    then_do (needed_member (In i key.Agent) (member_of key.Agent whole)) (λ value.
    then_do (text_in (In i key.Agent) value) (λ text. of_kind (In i key.Agent) (kind_named text)))

-- traces by name, each with its times
abbrev pub Table : Type 0
Table = List (List ℕ × List ℕ)

abbrev pub trace_named : List ℕ → Table → Option (List ℕ)
trace_named name [] = None
trace_named name (one ∷ rest) = if bytes_eq name one.0 then Some one.1 else trace_named name rest

-- the times of a trace that a value names
abbrev pub trace_in : JsonPlace → Table → Data → Result (List ℕ) MemberFault
trace_in place traces value = then_do (text_in place value) (λ name. of_kind place (trace_named name traces))

abbrev pub case_trace : Table → ℕ → Data → Result (List ℕ) MemberFault
case_trace traces i whole =
    then_do (needed_member (In i key.Trace) (member_of key.Trace whole)) (λ value.
    trace_in (In i key.Trace) traces value)

-- ---- numbers

abbrev pub case_number : ℕ → Key → Data → Result ℕ MemberFault
case_number i k whole = needed_number (In i k) k whole

abbrev pub case_link_numbers : ℕ → Data → Result LinkNumbers MemberFault
case_link_numbers i whole =
    then_do (case_number i key.Mss whole) (λ mss.
    then_do (case_number i key.Queue whole) (λ queue.
    then_do (case_number i key.DelayUs whole) (λ delay_us.
    then_do (case_number i key.TimeoutUs whole) (λ timeout_us.
    then_do (case_number i key.Acks whole) (λ acks.
    Ok (record { mss = mss; queue = queue; delay_us = delay_us; timeout_us = timeout_us; acks = acks }))))))

-- 4 slots and no lag if nothing is said
abbrev pub case_agent_numbers : ℕ → Data → Result AgentNumbers MemberFault
case_agent_numbers i whole =
    then_do (number_or (In i key.Slots) key.Slots 4 (member_of key.Slots whole)) (λ slots.
    then_do (number_or (In i key.Lag) key.Lag 0 (member_of key.Lag whole)) (λ lag.
    Ok (record { slots = slots; lag = lag })))

-- ---- what is lost and marked

-- a loss that must be above the one before
abbrev pub loss_above : JsonPlace → Option ℕ → ℕ → Result ℕ MemberFault
loss_above place None number = Ok number
loss_above place (Some before) number = if nat_lt before number then Ok number else Err (Wrong (path_of place))

abbrev pub loss_in : JsonPlace → Option ℕ → Data → Result ℕ MemberFault
loss_in place before value = then_do (number_in place key.Losses value) (λ number. loss_above place before number)

abbrev pub last_of : List ℕ → Option ℕ
last_of numbers = slice_get numbers (length numbers - 1)

-- the losses, after those that are done
abbrev pub losses_from : ℕ → List ℕ → Items → Result (List ℕ) MemberFault
losses_from i done no_items = Ok done
losses_from i done (item value rest) =
    then_do (loss_in (Item i key.Losses (length done)) (last_of done) value) (λ number.
    losses_from i (done ++ number ∷ []) rest)

-- no losses if nothing is said
abbrev pub losses_or : ℕ → Option Data → Result (List ℕ) MemberFault
losses_or i None = Ok []
losses_or i (Some value) = then_do (list_in (In i key.Losses) value) (λ items. losses_from i [] items)

-- no marks if nothing is said
abbrev pub mark_or : JsonPlace → Option Data → Result (Option ℕ) MemberFault
mark_or place None = Ok None
mark_or place (Some value) = then_do (number_in place key.Mark value) (λ number. Ok (Some number))

abbrev pub case_loss_plan : ℕ → Data → Result LossPlan MemberFault
case_loss_plan i whole =
    then_do (losses_or i (member_of key.Losses whole)) (λ losses.
    then_do (mark_or (In i key.Mark) (member_of key.Mark whole)) (λ mark.
    Ok (record { losses = losses; mark = mark })))

-- ---- when the flow starts

-- when a flow over a shared link starts, in microseconds: at once if nothing is said. Other modes ignore the member.
abbrev pub case_start : SceneMode → ℕ → Data → Result ℕ MemberFault
case_start Shared i whole = number_or (In i key.StartUs) key.StartUs 0 (member_of key.StartUs whole)
case_start mode i whole = Ok 0

-- ---- programs

-- the number of a program that the scenario names: those come after the ones that are built in
abbrev pub program_named : List ℕ → List (List ℕ) → Option ℕ
program_named name names = option_map (λ i. i + built_in_count) (position (λ known. bytes_eq known name) names)

abbrev pub program_or : JsonPlace → List (List ℕ) → ℕ → Option Data → Result ℕ MemberFault
program_or place names default None = Ok default
program_or place names default (Some value) =
    then_do (text_in place value) (λ name. of_kind place (program_named name names))

-- the numbers of the case's programs. A plan has programs, so that of a flow whose agent is outside has some too: the
-- built-in ones of Reno, whatever the members are. The flow runs those that its changes name.
abbrev pub case_programs : SceneMode → List (List ℕ) → Kind → ℕ → Data → Result Programs MemberFault
case_programs Driven names kind i whole = Ok (record { ss = 0; ca = avoidance_of Reno })
case_programs mode names kind i whole =
    then_do (program_or (In i key.Ss) names 0 (member_of key.Ss whole)) (λ ss.
    then_do (program_or (In i key.Ca) names (avoidance_of kind) (member_of key.Ca whole)) (λ ca.
    Ok (record { ss = ss; ca = ca })))

-- ---- the case

abbrev pub case_members : SceneMode → List (List ℕ) → Table → ℕ → Data → Result Plan MemberFault
case_members mode names traces i whole =
    then_do (case_name i whole) (λ name.
    then_do (case_kind mode i whole) (λ kind.
    then_do (case_trace traces i whole) (λ trace.
    then_do (case_link_numbers i whole) (λ link_numbers.
    then_do (case_agent_numbers i whole) (λ agent_numbers.
    then_do (case_loss_plan i whole) (λ loss_plan.
    then_do (case_start mode i whole) (λ start_us.
    then_do (case_programs mode names kind i whole) (λ programs.
    Ok (record {
      name = name;
      kind = kind;
      trace = trace;
      link_numbers = link_numbers;
      agent_numbers = agent_numbers;
      loss_plan = loss_plan;
      start_us = start_us;
      programs = programs;
    })))))))))

abbrev pub plan_in : SceneMode → List (List ℕ) → Table → ℕ → Data → Result Plan MemberFault
plan_in mode names traces i whole =
    then_do (object_in (Case i) whole) (λ members. case_members mode names traces i whole)

-- the cases, after those that are done
abbrev pub cases_from : SceneMode → List (List ℕ) → Table → List Plan → Items → Result (List Plan) MemberFault
cases_from mode names traces done no_items = Ok done
cases_from mode names traces done (item value rest) =
    then_do (plan_in mode names traces (length done) value) (λ plan.
    cases_from mode names traces (done ++ plan ∷ []) rest)
