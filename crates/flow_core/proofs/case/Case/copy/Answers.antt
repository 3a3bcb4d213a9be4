use Rattle.std.proofs.Common.{◌≡◌, sym, subst}
use Rattle.agent_core.specs.Agents.{course_of}
use Rattle.flow_core.specs.declared.case.Coded.{Coded}
use Rattle.flow_core.specs.Cases.{KeepsWithin, AreOne}
use Rattle.flow_core.proofs.case.Case.copy.Goals as goal

pub invariant_of-result : goal.invariant_of-result
invariant_of-result c =
    let case = c.args.self.now in
    let ss : case.ss ≡ c.in_ok-ss.ss = sym c.in_ok-ss.ensures.ss in
    let ca : case.ca ≡ c.in_ok-ss.ca = sym c.in_ok-ss.ensures.ca in
    record {
      ss_role = subst (λ (p : Coded). (course_of case.agent).ss ≡ p.role) ss case.ss_role;
      ca_role = subst (λ (p : Coded). (course_of case.agent).ca ≡ p.role) ca case.ca_role;
      ss_within = subst (λ (p : Coded). KeepsWithin p.role.look p.code.code) ss case.ss_within;
      ca_within = subst (λ (p : Coded). KeepsWithin p.role.look p.code.code) ca case.ca_within;
      one = subst (λ (p : Coded). AreOne c.in_ok-ss.ss p) ca (subst (λ (p : Coded). AreOne p case.ca) ss case.one);
      acks_within = case.acks_within;
      slots_within = case.slots_within;
      lag_within = case.lag_within;
    }
