-- What is read of a rollout's scenario grows at its end: its texts and its cases.
use Rattle.std.proofs.Common.{◌≡◌, ℕ, ◌+◌, List, [], ◌∷◌, ◌++◌, Ok, length, map, sym, ap, ◌∙◌, arith}
use Rattle.std.proofs.lemmas.List.{length-map, map_push}
use Rattle.serde_json.specs.Data.{Data, Items, item, Members, member}
use Rattle.ccp_base.specs.Chaining.{then_do}
use Rattle.scene_members.specs.declared.key.Key.TheVariants as key
use Rattle.scene_members.specs.declared.open_case.OpenCase.{OpenCase}
use Rattle.scene_members.specs.declared.open_texts.OpenText.{OpenText}
use Rattle.scene_members.specs.CaseWalk.{Table}
use Rattle.scene_members.specs.NamedMembers.{named_text}
use Rattle.scene_members.specs.Rollout.{Texts, texts_from, open_case_in, open_cases_from}
use Rattle.scene_members.specs.OpenCases.{open_plan_of, AreOpenFlowsFrom, texts_of}

-- a text that is read goes to the end
pub texts_pushed : (texts : List OpenText) (one : OpenText) (name : List ℕ) (value : Data) (rest : Members)
    → one.name ≡ name → named_text key.Programs name value ≡ Ok one.text
    → texts_from (texts_of (texts ++ one ∷ [])) rest ≡ texts_from (texts_of texts) (member name value rest)
texts_pushed texts one name value rest named read =
    ap (λ ts. texts_from ts rest) (map_push (λ t. (t.name, t.text)) texts one)
    ∙ ap (λ n. texts_from (texts_of texts ++ (n, one.text) ∷ []) rest) named
    ∙ sym (ap (λ r. then_do r (λ text. texts_from (texts_of texts ++ (name, text) ∷ []) rest)) read)

-- a case that is read goes to the end
pub open_pushed : (texts : Texts) (traces : Table) (cases : List OpenCase) (one : OpenCase) (value : Data) (rest : Items)
    → open_case_in texts traces (length cases) value ≡ Ok (open_plan_of one)
    → open_cases_from texts traces (map open_plan_of (cases ++ one ∷ [])) rest ≡ open_cases_from texts traces (map open_plan_of cases) (item value rest)
open_pushed texts traces cases one value rest is =
    ap (λ done. open_cases_from texts traces done rest) (map_push open_plan_of cases one)
    ∙ sym (ap (λ r. then_do r (λ plan. open_cases_from texts traces (map open_plan_of cases ++ plan ∷ []) rest)) is)
    ∙ sym (ap (λ n. then_do (open_case_in texts traces n value) (λ plan. open_cases_from texts traces (map open_plan_of cases ++ plan ∷ []) rest)) (length-map cases open_plan_of))

-- it is the next flow
pub open_flows_pushed : (flow : ℕ) (cases : List OpenCase) (one : OpenCase) → AreOpenFlowsFrom flow cases → one.flow ≡ flow + length cases
    → AreOpenFlowsFrom flow (cases ++ one ∷ [])
open_flows_pushed flow [] one h is = (omega (arith, is), tt)
open_flows_pushed flow (case ∷ rest) one h is = (h.0, open_flows_pushed (flow + 1) rest one h.1 (omega (arith, is)))
