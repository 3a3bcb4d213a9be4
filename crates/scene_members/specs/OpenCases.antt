-- What the cases of a rollout are: what they say, and which flows they are.
use Rattle.std.specs.Prelude.{◌≡◌, ℕ, ◌+◌, List, [], ◌∷◌, ⊤, map}
use Rattle.scene_members.specs.declared.open_case.OpenCase.{OpenCase}
use Rattle.scene_members.specs.declared.open_texts.OpenText.{OpenText}
use Rattle.scene_members.specs.Plans.{numbers_of}
use Rattle.scene_members.specs.Rollout.{OpenPlan, Texts}

-- what a case says
abbrev pub open_plan_of : OpenCase → OpenPlan
open_plan_of case = record {
  name = case.name;
  trace = case.link.trace;
  link_numbers = numbers_of case.link case.acks;
  loss_plan = record { losses = case.link.losses; mark = case.link.mark };
  cwnd = case.cwnd;
  steps = case.steps;
}

-- the cases are those of the flows from this number on, in order
abbrev pub AreOpenFlowsFrom : ℕ → List OpenCase → Type 0
AreOpenFlowsFrom flow [] = ⊤
AreOpenFlowsFrom flow (case ∷ rest) = (case.flow ≡ flow) × AreOpenFlowsFrom (flow + 1) rest

-- what a list of texts stands for
abbrev pub texts_of : List OpenText → Texts
texts_of texts = map (λ one. (one.name, one.text)) texts
