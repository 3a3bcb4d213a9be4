-- The member `shared`: the link that flows share, and the most rounds.
use Rattle.std.specs.Prelude.{ℕ, Result, Ok, List}
use Rattle.serde_json.specs.Data.{Data}
use Rattle.ccp_base.specs.Chaining.{then_do}
use Rattle.scene_members.specs.declared.fault.MemberFault.{MemberFault}
use Rattle.scene_members.specs.declared.key.Key.{Key}
use Rattle.scene_members.specs.declared.key.Key.TheVariants as key
use Rattle.scene_members.specs.declared.json_place.JsonPlace.TheVariants.{Top, Shared}
use Rattle.scene_members.specs.declared.shared.Shares.{Shares}
use Rattle.scene_members.specs.Values.{member_of, needed_member, object_in, needed_number}
use Rattle.scene_members.specs.CaseWalk.{Table, trace_in}

abbrev pub shared_trace : Table → Data → Result (List ℕ) MemberFault
shared_trace traces value =
    then_do (needed_member (Shared key.Trace) (member_of key.Trace value)) (λ name.
    trace_in (Shared key.Trace) traces name)

abbrev pub shared_number : Key → Data → Result ℕ MemberFault
shared_number k value = needed_number (Shared k) k value

abbrev pub shared_members : Table → Data → Result Shares MemberFault
shared_members traces value =
    then_do (shared_trace traces value) (λ trace.
    then_do (shared_number key.Queue value) (λ queue.
    then_do (shared_number key.QuantumUs value) (λ quantum_us.
    then_do (shared_number key.Rounds value) (λ rounds.
    Ok (record { trace = trace; queue = queue; quantum_us = quantum_us; rounds = rounds })))))

abbrev pub shares_in : Table → Data → Result Shares MemberFault
shares_in traces whole =
    then_do (needed_member (Top key.Shared) (member_of key.Shared whole)) (λ value.
    then_do (object_in (Top key.Shared) value) (λ members. shared_members traces value))
