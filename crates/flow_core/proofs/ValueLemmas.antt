-- What a reply writes names registers that are there, and is written alike into registers and into an env.
use Rattle.std.specs.Prelude.{◌≡◌, ℕ, ◌+◌, ◌<◌, ◌==◌, Bool, true, false, not, nat_lt, if◌then◌else◌, Option, Some, None, cond, List, [], ◌∷◌, ◌++◌, length, refl}
use Rattle.std.specs.Option.{ForSome}
use Rattle.std.specs.List.{position_or_len}
use Rattle.std.proofs.Common.{ap, sym, ◌∙◌, subst, inl, inr, arith}
use Rattle.std.proofs.lemmas.Bool.{cases_eq, eq-eqb, ne_eqb, lt-ltb, le-ltb, cond-false}
use Rattle.ccp_base.specs.FieldReg.{Pair}
use Rattle.ccp_base.specs.declared.fields.FieldReg.{FieldReg}
use Rattle.ccp_base.specs.declared.fields.FieldReg.TheVariants as reg
use Rattle.ccp_base.specs.declared.look.Look.{Look}
use Rattle.ccp_base.specs.declared.exchange.Reply.{Reply}
use Rattle.ccp_base.specs.declared.exchange.Reply.TheVariants.{Nothing, Update, Change}
use Rattle.portus_core.specs.Epoch as epoch
use Rattle.reg_code.specs.CodeStep.{Kept}
use Rattle.ccp_base.specs.FieldReg.{is_bad, first_bad_pair}
use Rattle.reg_code.specs.CodeStart.{with_value, with_values}
use Rattle.agent_core.specs.declared.agent.Agent.{Agent}
use Rattle.agent_core.specs.Agents.{course_of, cap_of, segment_of, mss_of, window_pair, control_pair, values_of}
use Rattle.agent_core.specs.RoleLaws.{AreRoles}
use Rattle.flow_core.specs.declared.case.Case.{Case}
use Rattle.flow_core.specs.Readings.{env_of, code_at}
use Rattle.flow_core.specs.Bares.{AreGood}

-- ---- values are written alike

value-alike : (register : FieldReg) (value : ℕ) (kept : Kept) → env_of (with_value register value kept) ≡ epoch.with_value register value (env_of kept)
value-alike reg.Cwnd value kept = refl
value-alike reg.Rate value kept = refl
value-alike (reg.Control i) value kept = refl

pub values-alike : (values : List Pair) (kept : Kept) → env_of (with_values values kept) ≡ epoch.with_values values (env_of kept)
values-alike [] kept = refl
values-alike (pair ∷ rest) kept =
    values-alike rest (with_value pair.0 pair.1 kept) ∙ ap (epoch.with_values rest) (value-alike pair.0 pair.1 kept)

-- ---- registers that are there

good-control : (n number : ℕ) → number < n → is_bad n (reg.Control number) ≡ false
good-control n number below = ap not (lt-ltb number n below)

-- no pair of these names a register that isn't there
abbrev Passes : ℕ → List Pair → Type 0
Passes n values = position_or_len (λ (pair : Pair). is_bad n pair.0) values ≡ length values

passed : (n : ℕ) (pair : Pair) (rest : List Pair) → is_bad n pair.0 ≡ false → Passes n rest → Passes n (pair ∷ rest)
passed n pair rest good rest_good =
    let more : 1 + length rest ≡ length (pair ∷ rest) = omega arith in
    (λ i. cond (not (good i)) (1 + rest_good i) 0) ∙ more

passes-none : (n : ℕ) (values : List Pair) → Passes n values → first_bad_pair n values ≡ None
passes-none n values passes =
    cond-false _ (Some _) None (ap (λ (k : ℕ). nat_lt k (length values)) passes ∙ le-ltb (length values) (length values) (omega arith))

none-bad : (n cwnd cap_value mss : ℕ) (cap segment : Option ℕ) → ForSome cap (λ k. k < n) → ForSome segment (λ k. k < n)
    → Passes n ((window_pair cwnd ++ control_pair cap cap_value) ++ control_pair segment mss)
none-bad n cwnd cap_value mss None None cap_in segment_in = refl
none-bad n cwnd cap_value mss None (Some k) cap_in segment_in =
    passed n (reg.Cwnd, cwnd) ((reg.Control k, mss) ∷ []) refl
    (passed n (reg.Control k, mss) [] (good-control n k (segment_in k refl)) refl)
none-bad n cwnd cap_value mss (Some j) None cap_in segment_in =
    passed n (reg.Cwnd, cwnd) ((reg.Control j, cap_value) ∷ []) refl
    (passed n (reg.Control j, cap_value) [] (good-control n j (cap_in j refl)) refl)
none-bad n cwnd cap_value mss (Some j) (Some k) cap_in segment_in =
    passed n (reg.Cwnd, cwnd) ((reg.Control j, cap_value) ∷ (reg.Control k, mss) ∷ []) refl
    (passed n (reg.Control j, cap_value) ((reg.Control k, mss) ∷ []) (good-control n j (cap_in j refl))
    (passed n (reg.Control k, mss) [] (good-control n k (segment_in k refl)) refl))

module _ (case : Case) (agent : Agent) (roles : AreRoles case.ss.role case.ca.role (course_of agent)) where
  some-in : (control : Option ℕ) (n : ℕ) (test : Bool) → ForSome control (λ k. k < n) → ForSome (if test then control else None) (λ k. k < n)
  some-in control n true within = within
  some-in control n false within = λ k none. cc

  -- a control variable of the new program, of those of the roles, is one of its code
  controls-in : (part : Look → Option ℕ) (program : ℕ)
      → ForSome (part case.ss.role.look) (λ k. k < length case.ss.code.code.controls)
      → ForSome (part case.ca.role.look) (λ k. k < length case.ca.code.code.controls)
      → ForSome (if case.ss.role.number == program then part case.ss.role.look else if case.ca.role.number == program then part case.ca.role.look else None)
      (λ k. k < length (code_at case program).controls)
  controls-in part program ss_in ca_in = elim (cases_eq program case.ss.role.number) [
    | inl same ↦
        let here : (program == case.ss.role.number) ≡ true = eq-eqb program case.ss.role.number same in
        let there : (case.ss.role.number == program) ≡ true = eq-eqb case.ss.role.number program (sym same) in
        subst (λ (b : Bool). ForSome (if b then part case.ss.role.look else (if case.ca.role.number == program then part case.ca.role.look else None)) (λ k. k < length (code_at case program).controls)) (sym there)
        (subst (λ (b : Bool). ForSome (part case.ss.role.look) (λ k. k < length (if b then case.ss.code.code else case.ca.code.code).controls)) (sym here) ss_in)
    | inr other ↦
        let here : (program == case.ss.role.number) ≡ false = ne_eqb program case.ss.role.number other in
        let there : (case.ss.role.number == program) ≡ false = ne_eqb case.ss.role.number program (λ same. other (sym same)) in
        subst (λ (b : Bool). ForSome (if b then part case.ss.role.look else (if case.ca.role.number == program then part case.ca.role.look else None)) (λ k. k < length (code_at case program).controls)) (sym there)
        (subst (λ (b : Bool). ForSome (if case.ca.role.number == program then part case.ca.role.look else None) (λ k. k < length (if b then case.ss.code.code else case.ca.code.code).controls)) (sym here)
        (some-in (part case.ca.role.look) (length case.ca.code.code.controls) (case.ca.role.number == program) ca_in))
  ]

  in-roles : (part : Look → Option ℕ) (program : ℕ)
      → (if (course_of agent).ss.number == program then part (course_of agent).ss.look else if (course_of agent).ca.number == program then part (course_of agent).ca.look else None)
      ≡ (if case.ss.role.number == program then part case.ss.role.look else if case.ca.role.number == program then part case.ca.role.look else None)
  in-roles part program =
      λ i. if (roles.ss_same i).number == program then part (roles.ss_same i).look else if (roles.ca_same i).number == program then part (roles.ca_same i).look else None

  pub good-values : (running : ℕ) (reply : Reply) → AreGood case running reply (values_of agent reply)
  good-values running Nothing = tt
  good-values running (Update cwnd) = refl
  good-values running (Change program cwnd cap_value) =
      let n = length (code_at case program).controls in
      let cap = cap_of (course_of agent) program in
      let segment = segment_of (course_of agent) program in
      passes-none n (values_of agent (Change program cwnd cap_value))
      (none-bad n cwnd cap_value (mss_of agent) cap segment
      (λ k some. controls-in (λ look. look.cap) program case.ss_within.6 case.ca_within.6 k (sym (in-roles (λ look. look.cap) program) ∙ some))
      (λ k some. controls-in (λ look. look.mss) program case.ss_within.7 case.ca_within.7 k (sym (in-roles (λ look. look.mss) program) ∙ some)))
