-- The cases that are put together of plans, one more at a time, and the links of plans whose flows start at once.
use Rattle.std.proofs.Common.{◌≡◌, ℕ, ◌+◌, List, [], ◌∷◌, ◌++◌, length, map, refl, sym, ap, ◌∙◌, arith, append_assoc}
use Rattle.std.proofs.lemmas.List.{map_push}
use Rattle.std.proofs.lemmas.List.Elements.{All-push}
use Rattle.std.specs.List.{All}
use Rattle.reg_compiler.specs.declared.built.Built.{Built}
use Rattle.flow_core.specs.declared.case.Case.{Case}
use Rattle.scene_members.specs.declared.plan.Plan.{Plan}
use Rattle.scene_core.specs.CasePlans.{plan_of, flow_link_of, at_once, link_at_once, AreFlowsFrom}
use Rattle.scenario_json.specs.Cases.{case_names, IsCoded}

-- these cases are put together of the plans but for those that are left
pub record ArePut (programs : List (ℕ × Built)) (plans : List Plan) (cases : List Case) (left : List Plan) (names : List (List ℕ)) : Type 0 where
  pub said : map plan_of cases ++ map at_once left ≡ map at_once plans
  pub coded : All (IsCoded programs) cases
  pub flows : AreFlowsFrom 0 cases
  pub named : names ≡ case_names cases

flows_pushed : (flow : ℕ) (cases : List Case) (one : Case) → AreFlowsFrom flow cases → one.flow ≡ flow + length cases → AreFlowsFrom flow (cases ++ one ∷ [])
flows_pushed flow [] one h is = (omega (arith, is), tt)
flows_pushed flow (case ∷ rest) one h is = (h.0, flows_pushed (flow + 1) rest one h.1 (omega (arith, is)))

-- one more case is put together
pub put_step : (programs : List (ℕ × Built)) (plans : List Plan) (cases : List Case) (left rest : List Plan) (plan : Plan) (one : Case) (names : List (List ℕ))
    → left ≡ plan ∷ rest → ArePut programs plans cases left names → one.flow ≡ length cases → plan_of one ≡ at_once plan → IsCoded programs one
    → ArePut programs plans (cases ++ one ∷ []) rest (names ++ plan.name ∷ [])
put_step programs plans cases left rest plan one names is h flow said coded = record {
  said =
      ap (λ done. done ++ map at_once rest) (map_push plan_of cases one) ∙ append_assoc (map plan_of cases) (plan_of one ∷ []) (map at_once rest)
      ∙ ap (λ p. map plan_of cases ++ p ∷ map at_once rest) said ∙ sym (ap (λ ps. map plan_of cases ++ map at_once ps) is) ∙ h.said;
  coded = All-push (IsCoded programs) cases one h.coded coded;
  flows = flows_pushed 0 cases one h.flows (omega (arith, flow));
  named =
      ap (λ ns. ns ++ plan.name ∷ []) h.named ∙ ap (λ n. case_names cases ++ n ∷ []) (sym (ap (λ p. p.name) said))
      ∙ sym (map_push (λ case. case.name) cases one);
}

-- but for their starts, flows have on a link what plans say whose flows start at once
pub links_at_once : (plans : List Plan) → map link_at_once (map flow_link_of plans) ≡ map flow_link_of (map at_once plans)
links_at_once [] = refl
links_at_once (plan ∷ rest) = ap (λ links. flow_link_of (at_once plan) ∷ links) (links_at_once rest)
