-- The traces of a scenario, each read once, in byte order of their names.
use Rattle.std.specs.Prelude.{ℕ, Result, Ok, Err, List, [], ◌∷◌, ◌++◌, String, map, string_bytes}
use Rattle.std.specs.declared.alloc.Global.{Global}
use Rattle.serde_json.specs.Data.{Data, Members, no_members, member}
use Rattle.link_model.specs.TraceText.{trace_of}
use Rattle.link_model.specs.declared.trace.TraceFault.{TraceFault}
use Rattle.ccp_base.specs.Chaining.{then_do}
use Rattle.scene_members.specs.declared.fault.MemberFault.{MemberFault}
use Rattle.scene_members.specs.declared.fault.MemberFault.TheVariants.{Trace}
use Rattle.scene_members.specs.declared.key.Key.TheVariants as key
use Rattle.scene_members.specs.declared.json_place.JsonPlace.TheVariants.{Top}
use Rattle.scene_members.specs.Values.{member_of, needed_member, object_in}
use Rattle.scene_members.specs.NamedMembers.{named_text}
use Rattle.scene_members.specs.CaseWalk.{Table}

-- a trace's times, or its refusal under its name
abbrev pub under_name : List ℕ → Result (List ℕ) TraceFault → Result (List ℕ) MemberFault
under_name name (Ok times) = Ok times
under_name name (Err fault) = Err (Trace name fault)

abbrev pub named_trace : List ℕ → Data → Result (List ℕ) MemberFault
named_trace name value = then_do (named_text key.Traces name value) (λ text. under_name name (trace_of text))

-- the traces, after those that are done
abbrev pub traces_from : Table → Members → Result Table MemberFault
traces_from done no_members = Ok done
traces_from done (member name value rest) =
    then_do (named_trace name value) (λ times. traces_from (done ++ (name, times) ∷ []) rest)

-- the traces of a scenario
abbrev pub traces_in : Data → Result Table MemberFault
traces_in whole =
    then_do (needed_member (Top key.Traces) (member_of key.Traces whole)) (λ value.
    then_do (object_in (Top key.Traces) value) (λ members. traces_from [] members))

-- what a map of traces stands for
abbrev pub table_of : List (String Global × List ℕ) → Table
table_of entries = map (λ entry. (string_bytes entry.0, entry.1)) entries
