-- Cases that say the same, with codes of the same programs, have one live text for one word, and one campaign word.
use Rattle.std.proofs.Common.{◌≡◌, ◌∙◌, ◌≤◌, ℕ, suc, ◌+◌, ◌==◌, if◌then◌else◌, Option, Some, None, option_map, List, [], ◌∷◌, map, slice_get, ap, sym, refl, arith}
use Rattle.std.specs.Bool.{⊤}
use Rattle.std.specs.Coded.{le_prop, ×_prop, Π_prop, →_prop}
use Rattle.std.specs.List.{All}
use Rattle.std.specs.List.Sorted.{IsStrictlyIncreasing}
use Rattle.std.specs.Option.{ForSome}
use Rattle.std.proofs.Math.Path.{PathP, to_path_p}
use Rattle.std.proofs.lemmas.Option.{slice_get-map, same_Some}
use Rattle.ccp_base.specs.declared.look.Role.{Role}
use Rattle.ccp_base.specs.declared.place.Place.{Place}
use Rattle.ccp_base.specs.Limits.{most_segment_bytes, most_queue, most_mark, most_delay_us, most_timeout_us}
use Rattle.ccp_base.specs.Text.{◌⧺◌}
use Rattle.portus_core.specs.Epoch.{by_source, declared_env}
use Rattle.portus_core.specs.Programs.{Form}
use Rattle.portus_core.specs.ProgramForm.{form_of}
use Rattle.portus_build.specs.Looks.{look_of}
use Rattle.reg_compiler.specs.declared.built.Built.{Built}
use Rattle.link_model.specs.declared.link_case.LinkCase.{LinkCase}
use Rattle.flow_core.specs.declared.case.Case.{Case}
use Rattle.flow_core.specs.declared.case.Coded.{Coded}
use Rattle.flow_core.specs.declared.letter.Letter.{Letter}
use Rattle.reg_compiler.specs.Sources.{Sources, sources_of}
use Rattle.flow_core.specs.LiveText.{source_at, account_of, flow_from, flow_line, live_text}
use Rattle.flow_core.specs.Words.{world, legal, is_complete}
use Rattle.scene_members.specs.declared.plan.Plan.{Plan}
use Rattle.agent_core.specs.Kinds.{agent_of, kind_of}
use Rattle.scene_core.specs.CasePlans.{plan_of, AreFlowsFrom}
use Rattle.scenario_json.specs.Cases.{coded_of, coded_at, IsCoded}
use Rattle.run_audit.specs.Audit.{IsWordOf, AreWordsOf, with_words}
use Rattle.run_audit.specs.PartLeft.{body_text}
use Rattle.ccp_run.specs.Timeline.{source_plan, planned_by}

-- ---- links

pub over_prop : {A : Type 0} (P : A → Type 0) → ((x : A) → IsProp (P x)) → (a b : A) (e : a ≡ b) (x : P a) (y : P b) → PathP (λ i. P (e i)) x y
over_prop P prop a b e x y = to_path_p (λ i. P (e i)) (prop b _ y)

pub same_link : (a b : LinkCase) → a.trace ≡ b.trace → a.mss ≡ b.mss → a.queue ≡ b.queue → a.delay_us ≡ b.delay_us → a.timeout_us ≡ b.timeout_us
    → a.losses ≡ b.losses → a.mark ≡ b.mark → a ≡ b
same_link a b trace mss queue delay timeout losses mark = λ i. record {
  trace = trace i;
  mss = mss i;
  queue = queue i;
  delay_us = delay i;
  timeout_us = timeout i;
  losses = losses i;
  mark = mark i;
  mss_within = over_prop (λ (n : ℕ). (1 ≤ n) × (n ≤ most_segment_bytes)) (λ n. hlevel (×_prop, le_prop)) a.mss b.mss mss a.mss_within b.mss_within i;
  queue_within = over_prop (λ (n : ℕ). (1 ≤ n) × (n ≤ most_queue)) (λ n. hlevel (×_prop, le_prop)) a.queue b.queue queue a.queue_within b.queue_within i;
  delay_within = over_prop (λ (n : ℕ). n ≤ most_delay_us) (λ n. hlevel le_prop) a.delay_us b.delay_us delay a.delay_within b.delay_within i;
  timeout_within = over_prop (λ (n : ℕ). (1 ≤ n) × (n ≤ most_timeout_us)) (λ n. hlevel (×_prop, le_prop)) a.timeout_us b.timeout_us timeout a.timeout_within b.timeout_within i;
  losses_rise = over_prop (λ (xs : List ℕ). IsStrictlyIncreasing xs) (λ xs. hlevel (Π_prop, →_prop, le_prop)) a.losses b.losses losses a.losses_rise b.losses_rise i;
  mark_within = over_prop (λ (m : Option ℕ). ForSome m (λ n. (1 ≤ n) × (n ≤ most_mark))) (λ m. hlevel (Π_prop, →_prop, ×_prop, le_prop)) a.mark b.mark mark a.mark_within b.mark_within i;
}

-- ---- cases

-- what a text of a flow, and its word, depend on
pub record AreAlike (left right : Case) : Type 0 where
  pub flow : left.flow ≡ right.flow
  pub name : left.name ≡ right.name
  pub agent : left.agent ≡ right.agent
  pub link : left.link ≡ right.link
  pub acks : left.acks ≡ right.acks
  pub slots : left.slots ≡ right.slots
  pub lag : left.lag ≡ right.lag
  pub ss : left.ss.role.number ≡ right.ss.role.number
  pub ca : left.ca.role.number ≡ right.ca.role.number

-- each of these cases and of those, in order
abbrev pub AreEach : List Case → List Case → Type 0
AreEach [] [] = ⊤
AreEach [] (right ∷ rights) = ⊥
AreEach (left ∷ lefts) [] = ⊥
AreEach (left ∷ lefts) (right ∷ rights) = AreAlike left right × AreEach lefts rights

module _ (sources : Sources) where
  module _ (left right : Case) (alike : AreAlike left right) where
    one_flow : flow_from sources left ≡ flow_from sources right
    one_flow = λ i. record {
      number = alike.flow i;
      agent = alike.agent i;
      acks = alike.acks i;
      slots = alike.slots i;
      reading = λ number. by_source (if number == alike.ss i then source_at sources (alike.ss i) else source_at sources (alike.ca i));
      declared = λ number. declared_env (if number == alike.ss i then source_at sources (alike.ss i) else source_at sources (alike.ca i));
      index = λ (place : Place). 0;
    }

    one_word : (word : List Letter) → IsWordOf sources left word → IsWordOf sources right word
    one_word word is = record {
      legal = sym (λ i. legal (one_flow i) (alike.link i) word) ∙ is.legal;
      complete = sym (λ i. is_complete (one_flow i) (world (one_flow i) (alike.link i) word)) ∙ is.complete;
    }

  -- the words of these cases are words of those
  abbrev IsRight : Case × List Letter → Type 0
  IsRight flow = IsWordOf sources flow.0 flow.1

  pub words_alike : (lefts rights : List Case) → AreEach lefts rights → All IsRight (planned_by sources lefts) → AreWordsOf sources rights (map (source_plan sources) lefts)
  words_alike [] [] alike right = tt
  words_alike [] (r ∷ rights) alike right = absurd alike
  words_alike (l ∷ lefts) [] alike right = absurd alike
  words_alike (l ∷ lefts) (r ∷ rights) alike right = (
    one_word l r alike.0 (source_plan sources l) (right 0 (l, source_plan sources l) (omega arith)),
    words_alike lefts rights alike.1 (λ k d h. right (suc k) d (omega (arith, h))),
  )

  -- and so are their texts
  pub texts_alike : (lefts rights : List Case) → AreEach lefts rights → live_text sources (planned_by sources lefts) ≡ live_text sources (with_words rights (map (source_plan sources) lefts))
  texts_alike [] [] alike = refl
  texts_alike [] (r ∷ rights) alike = absurd alike
  texts_alike (l ∷ lefts) [] alike = absurd alike
  texts_alike (l ∷ lefts) (r ∷ rights) alike =
      let flows : flow_from sources l ≡ flow_from sources r = one_flow l r alike.0 in
      let later = texts_alike lefts rights alike.1 in
      λ i. (flow_line (alike.0.flow i) (alike.0.name i) (alike.0.agent i)
      ⧺ body_text sources (account_of (flows i) (world (flows i) (alike.0.link i) (source_plan sources l)))) ⧺ later i

-- ---- cases that say the same

-- a program's role, as its agent has it
abbrev role_of : ℕ → ℕ × Form → Role
role_of number one = record { number = number; look = look_of one.1 }

abbrev role_at : Sources → ℕ → Option Role
role_at forms number = option_map (role_of number) (slice_get forms number)

module _ (programs : List (ℕ × Built)) (number : ℕ) (coded : Coded) where
  abbrev stands_for : ℕ × Built → ℕ × Form
  stands_for one = (one.0, form_of one.1.program)

  roles : (o : Option (ℕ × Built)) → option_map (role_of number) (option_map stands_for o) ≡ option_map (λ (c : Coded). c.role) (option_map (coded_of number) o)
  roles None = refl
  roles (Some one) = refl

  role_found : coded_at programs number ≡ Some coded → role_at (sources_of programs) number ≡ Some coded.role
  role_found is =
      ap (option_map (role_of number)) (slice_get-map stands_for programs number)
      ∙ roles (slice_get programs number)
      ∙ ap (option_map (λ (c : Coded). c.role)) is

head_one : {A : Type 0} {a b : A} {xs ys : List A} → a ∷ xs ≡ b ∷ ys → a ≡ b
head_one e = cc

tail_one : {A : Type 0} {a b : A} {xs ys : List A} → a ∷ xs ≡ b ∷ ys → xs ≡ ys
tail_one e = cc

none_one : {A : Type 0} {b : A} {ys : List A} → [] ≡ b ∷ ys → ⊥
none_one e = cc

one_none : {A : Type 0} {a : A} {xs : List A} → a ∷ xs ≡ [] → ⊥
one_none e = cc

module _ (these those : List (ℕ × Built)) (forms : sources_of these ≡ sources_of those) where
  one_role : (number other : ℕ) (left right : Coded) → number ≡ other → coded_at these number ≡ Some left → coded_at those other ≡ Some right → left.role ≡ right.role
  one_role number other left right same l r = same_Some left.role right.role (
      sym (role_found these number left l)
      ∙ (λ i. role_at (forms i) (same i))
      ∙ role_found those other right r)

  alike_of : (left right : Case) → plan_of left ≡ plan_of right → left.flow ≡ right.flow → IsCoded these left → IsCoded those right → AreAlike left right
  alike_of left right same flow l r =
      let ss = ap (λ (p : Plan). p.programs.ss) same in
      let ca = ap (λ (p : Plan). p.programs.ca) same in
      let mss = ap (λ (p : Plan). p.link_numbers.mss) same in
      let kind : kind_of left.agent ≡ kind_of right.agent = ap (λ (p : Plan). p.kind) same in
      let ss_role = one_role left.ss.role.number right.ss.role.number left.ss right.ss ss l.ss r.ss in
      let ca_role = one_role left.ca.role.number right.ca.role.number left.ca right.ca ca l.ca r.ca in
      record {
        flow = flow;
        name = ap (λ (p : Plan). p.name) same;
        agent = l.opening ∙ (λ i. agent_of (kind i) (mss i) (ss_role i) (ca_role i)) ∙ sym r.opening;
        link =
            same_link left.link right.link (ap (λ (p : Plan). p.trace) same) mss (ap (λ (p : Plan). p.link_numbers.queue) same)
            (ap (λ (p : Plan). p.link_numbers.delay_us) same) (ap (λ (p : Plan). p.link_numbers.timeout_us) same)
            (ap (λ (p : Plan). p.loss_plan.losses) same) (ap (λ (p : Plan). p.loss_plan.mark) same);
        acks = ap (λ (p : Plan). p.link_numbers.acks) same;
        slots = ap (λ (p : Plan). p.agent_numbers.slots) same;
        lag = ap (λ (p : Plan). p.agent_numbers.lag) same;
        ss = ss;
        ca = ca;
      }

  pub all_alike : (flow : ℕ) (lefts rights : List Case) → map plan_of lefts ≡ map plan_of rights → AreFlowsFrom flow lefts → AreFlowsFrom flow rights
      → All (IsCoded these) lefts → All (IsCoded those) rights → AreEach lefts rights
  all_alike flow [] [] same ls rs l r = tt
  all_alike flow [] (right ∷ rights) same ls rs l r = none_one same
  all_alike flow (left ∷ lefts) [] same ls rs l r = one_none same
  all_alike flow (left ∷ lefts) (right ∷ rights) same ls rs l r = (
    alike_of left right (head_one same) (ls.0 ∙ sym rs.0) (l 0 left (omega arith)) (r 0 right (omega arith)),
    all_alike (flow + 1) lefts rights (tail_one same) ls.1 rs.1 (λ k d h. l (suc k) d (omega (arith, h))) (λ k d h. r (suc k) d (omega (arith, h))),
  )
