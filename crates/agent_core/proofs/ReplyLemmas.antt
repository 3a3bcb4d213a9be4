-- What replies depend on and what they keep, a case for each kind of agent.
use Rattle.std.proofs.Common.{◌≡◌, ◌++◌, refl, ◌∙◌}
use Rattle.ccp_base.specs.declared.exchange.Notice.{Notice}
use Rattle.ccp_base.specs.declared.exchange.Reply.{Reply}
use Rattle.ccp_base.specs.declared.exchange.Reply.TheVariants.{Nothing, Update, Change}
use Rattle.ccp_base.specs.declared.exchange.Told.{Told}
use Rattle.ccp_base.specs.declared.exchange.Told.TheVariants.{Fault}
use Rattle.ccp_base.specs.declared.look.Role.{Role}
use Rattle.reno_agent.proofs.RoleLemmas as reno
use Rattle.cubic_agent.proofs.RoleLemmas as cubic
use Rattle.agent_core.specs.declared.agent.Agent.{Agent}
use Rattle.agent_core.specs.declared.agent.Agent.TheVariants.{Reno, Cubic}
use Rattle.agent_core.specs.Agents.{course_of, mss_of, replied, cap_of, segment_of, window_pair, control_pair, values_of}
use Rattle.agent_core.specs.RoleLaws.{AreRoles}

-- the programs after a report or a fault are those before
kept_roles : (agent : Agent) (told : Told)
    → (course_of (replied agent told).0).ss ≡ (course_of agent).ss × (course_of (replied agent told).0).ca ≡ (course_of agent).ca
kept_roles (Reno state) told = reno.kept_roles state told
kept_roles (Cubic state) told = cubic.kept_roles state told

-- an agent that gets a report or a fault keeps its roles
pub roles-kept : (ss ca : Role) (agent : Agent) (told : Told) → AreRoles ss ca (course_of agent) → AreRoles ss ca (course_of (replied agent told).0)
roles-kept ss ca agent told roles =
    let kept = kept_roles agent told in
    record { ss_same = kept.0 ∙ roles.ss_same; ca_same = kept.1 ∙ roles.ca_same }

kept_mss : (agent : Agent) (told : Told) → mss_of (replied agent told).0 ≡ mss_of agent
kept_mss (Reno state) told = reno.kept_mss state told
kept_mss (Cubic state) told = cubic.kept_mss state told

-- what a reply writes depends on the agent's two programs and on its segment's size alone
same_values : (one other : Agent) → (course_of one).ss ≡ (course_of other).ss → (course_of one).ca ≡ (course_of other).ca → mss_of one ≡ mss_of other
    → (reply : Reply) → values_of one reply ≡ values_of other reply
same_values one other ss ca mss Nothing = refl
same_values one other ss ca mss (Update cwnd) = refl
same_values one other ss ca mss (Change program cwnd cap) = λ i.
    (window_pair cwnd ++ control_pair (cap_of (record (course_of one) { ss = ss i; ca = ca i }) program) cap)
    ++ control_pair (segment_of (record (course_of one) { ss = ss i; ca = ca i }) program) (mss i)

-- so it is what the agent after the reply writes
pub values-kept : (agent : Agent) (told : Told) (reply : Reply) → values_of (replied agent told).0 reply ≡ values_of agent reply
values-kept agent told reply =
    let kept = kept_roles agent told in
    same_values (replied agent told).0 agent kept.0 kept.1 (kept_mss agent told) reply

-- what an agent replies to a fault notice, and what it becomes, depends on the notice's epoch alone: neither on the
-- instruction nor on the kind
pub replied-site : (agent : Agent) (one other : Notice) → one.epoch ≡ other.epoch → replied agent (Fault one) ≡ replied agent (Fault other)
replied-site (Reno state) one other same = λ i. replied (Reno state) (Fault (record one { epoch = same i }))
replied-site (Cubic state) one other same = λ i. replied (Cubic state) (Fault (record one { epoch = same i }))
