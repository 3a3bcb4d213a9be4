-- The first accepted entry that wasn't changed to is the first accepted one past those that the changes went through.
use Rattle.std.specs.Prelude.{◌≡◌, ◌⊎◌, ℕ, ◌+◌, ◌<◌, ◌≤◌, ◌==◌, zero, suc, Bool, true, false, not, ◌||◌, nat_lt, cond, if◌then◌else◌, Option, Some, None, option_map, Result, Ok, Err, List, [], ◌∷◌, ◌++◌, length, map, drop, slice_get, refl}
use Rattle.std.specs.List.{position_or_len}
use Rattle.std.proofs.Math.Bool.{or_assoc, or-false}
use Rattle.std.proofs.Common.{ap, sym, ◌∙◌, subst, inl, inr, arith}
use Rattle.std.proofs.lemmas.Bool.{cases_eq, eq-eqb, ne_eqb, true≢false, ltb-true, ltb-false, lt-ltb, le-ltb, or_right}
use Rattle.std.proofs.lemmas.Option.{none-some, slice_get-map}
use Rattle.portus_core.specs.Programs.{Form}
use Rattle.portus_build.specs.declared.fault.BuildFault.{BuildFault}
use Rattle.reg_compiler.specs.declared.built.Built.{Built}
use Rattle.portus_core.specs.ProgramForm.{form_of}
use Rattle.flow_core.specs.World.{Era}
use Rattle.open_flow.specs.declared.entry.Entry.{Entry}
use Rattle.open_flow.specs.OpenWorld.{Installed, OpenWorld, was_started, first_left, eras_of, next_entry}
use Rattle.open_flow.specs.BuiltTexts.{was_built, form_or_refusal, built_of}
use Rattle.open_flow.specs.Entries.{installed_of, built_entry, built_at}
use Rattle.open_flow.specs.States.{accepted_from, ArePassed}
use Rattle.open_flow.proofs.ListLemmas.{slice_get-front}

-- ---- the first accepted one

shifted : (step later count : ℕ) (here : Bool) → nat_lt later count ≡ here
    → option_map (λ (place : ℕ). step + place) (cond (nat_lt (1 + later) (suc count)) (Some (1 + later)) None)
    ≡ option_map (λ (place : ℕ). step + 1 + place) (cond here (Some later) None)
shifted step later count true is =
    let less : later < count = ltb-true later count is in
    let more : 1 + later < suc count = omega (arith, less) in
    let sum : step + (1 + later) ≡ step + 1 + later = omega arith in
    ap (λ (b : Bool). option_map (λ (place : ℕ). step + place) (cond b (Some (1 + later)) None)) (lt-ltb (1 + later) (suc count) more)
    ∙ ap Some sum
shifted step later count false is =
    let least : count ≤ later = ltb-false later count is in
    let past : suc count ≤ 1 + later = omega (arith, least) in
    ap (λ (b : Bool). option_map (λ (place : ℕ). step + place) (cond b (Some (1 + later)) None)) (le-ltb (1 + later) (suc count) past)

by-first : (step later count : ℕ) (accepted : Bool)
    → option_map (λ (place : ℕ). step + place)
    (cond (nat_lt (cond (not accepted) (1 + later) 0) (suc count)) (Some (cond (not accepted) (1 + later) 0)) None)
    ≡ cond accepted (Some step) (option_map (λ (place : ℕ). step + 1 + place) (cond (nat_lt later count) (Some later) None))
by-first step later count true =
    let some : 0 < suc count = omega arith in
    let sum : step + 0 ≡ step = omega arith in
    ap (λ (b : Bool). option_map (λ (place : ℕ). step + place) (cond b (Some 0) None)) (lt-ltb 0 (suc count) some)
    ∙ ap Some sum
by-first step later count false = shifted step later count (nat_lt later count) refl

accepted-first : (step : ℕ) (entry : Entry) (rest : List Entry)
    → accepted_from step (entry ∷ rest) ≡ (if was_built entry.answer then Some step else accepted_from (step + 1) rest)
accepted-first step entry rest =
    by-first step (position_or_len (λ (e : Entry). was_built e.answer) rest) (length rest) (was_built entry.answer)

-- ---- the next entry

-- the step of what is left
abbrev pub steps : Option (ℕ × Form) → Option ℕ
steps left = option_map (λ next. next.0) left

-- the first entry wasn't changed to
fresh-first : (eras : List Era) (step : ℕ) (answer : Result Built BuildFault) (rest : List Entry) → was_started step eras ≡ false
    → steps (first_left eras (step + 1) (map installed_of rest)) ≡ accepted_from (step + 1) rest
    → steps (first_left eras step (form_or_refusal answer ∷ map installed_of rest))
    ≡ (if was_built answer then Some step else accepted_from (step + 1) rest)
fresh-first eras step (Ok built) rest fresh later =
    λ i. steps (if fresh i then first_left eras (step + 1) (map installed_of rest) else Some (step, form_of built.program))
fresh-first eras step (Err refusal) rest fresh later = later

-- none of the entries from here on was changed to
after-left : (eras : List Era) (step : ℕ) (entries : List Entry) → ((i : ℕ) → step ≤ i → was_started i eras ≡ false)
    → steps (first_left eras step (map installed_of entries)) ≡ accepted_from step entries
after-left eras step [] none = refl
after-left eras step (entry ∷ rest) none =
    fresh-first eras step entry.answer rest (none step (omega arith))
    (after-left eras (step + 1) rest (λ i past. none i (omega (arith, past))))
    ∙ sym (accepted-first step entry rest)

-- the first entry was passed
passed-first : (eras : List Era) (step : ℕ) (answer : Result Built BuildFault) (rest : List Entry) (out : Option ℕ)
    → ((form : Form) → form_or_refusal answer ≡ Ok form → was_started step eras ≡ true)
    → steps (first_left eras (step + 1) (map installed_of rest)) ≡ out
    → steps (first_left eras step (form_or_refusal answer ∷ map installed_of rest)) ≡ out
passed-first eras step (Ok built) rest out was later =
    (λ i. steps (if was (form_of built.program) refl i then first_left eras (step + 1) (map installed_of rest) else Some (step, form_of built.program)))
    ∙ later
passed-first eras step (Err refusal) rest out was later = later

-- those before this step were passed
before-left : (eras : List Era) (step next count : ℕ) (entries : List Entry) → step + count ≡ next
    → ((i : ℕ) (form : Form) → i < count → slice_get (map installed_of entries) i ≡ Some (Ok form) → was_started (step + i) eras ≡ true)
    → ((i : ℕ) → next ≤ i → was_started i eras ≡ false)
    → steps (first_left eras step (map installed_of entries)) ≡ accepted_from next (drop count entries)
before-left eras step next zero entries sum all none =
    let here : step ≡ next = omega (arith, sum) in
    subst (λ (n : ℕ). steps (first_left eras step (map installed_of entries)) ≡ accepted_from n entries) here
    (after-left eras step entries (λ i past. none i (omega (arith, past, here))))
before-left eras step next (suc count) [] sum all none = refl
before-left eras step next (suc count) (entry ∷ rest) sum all none =
    passed-first eras step entry.answer rest (accepted_from next (drop count rest))
    (λ form is.
    let zero_on : step ≡ step + 0 = omega arith in
    ap (λ (n : ℕ). was_started n eras) zero_on ∙ all 0 form (omega arith) (ap Some is))
    (before-left eras (step + 1) next count rest (omega (arith, sum))
    (λ i form below is.
    let shift : step + 1 + i ≡ step + suc i = omega arith in
    ap (λ (n : ℕ). was_started n eras) shift ∙ all (suc i) form (omega (arith, below)) is)
    none)

pub next-step : (next : ℕ) (eras : List Era) (entries : List Entry) → ArePassed next eras (map installed_of entries)
    → steps (first_left eras 0 (map installed_of entries)) ≡ accepted_from next (drop next entries)
next-step next eras entries passed =
    before-left eras 0 next next entries (omega arith)
    (λ i form below is.
    let zero_on : 0 + i ≡ i = omega arith in
    ap (λ (n : ℕ). was_started n eras) zero_on ∙ passed.before i form below is)
    passed.after

-- ---- what it is

-- the entry that is found: it is that of its program, it wasn't changed to, and each accepted one before it was
pub record IsFound (eras : List Era) (from : ℕ) (entries : List Installed) (step : ℕ) (form : Form) : Type 0 where
  pub index : ℕ
  pub place : step ≡ from + index
  pub entry : slice_get entries index ≡ Some (Ok form)
  pub fresh : was_started step eras ≡ false
  pub passed : (i : ℕ) (other : Form) → i < index → slice_get entries i ≡ Some (Ok other) → was_started (from + i) eras ≡ true

abbrev first_of : {A : Type 0} → A → Option A → A
first_of default None = default
first_of default (Some a) = a

further : (eras : List Era) (from : ℕ) (first : Installed) (rest : List Installed) (step : ℕ) (form : Form)
    → ((other : Form) → first ≡ Ok other → was_started from eras ≡ true)
    → IsFound eras (from + 1) rest step form → IsFound eras from (first ∷ rest) step form
further eras from first rest step form skipped found = record {
  index = suc found.index;
  place = omega (arith, found.place);
  entry = found.entry;
  fresh = found.fresh;
  passed = here;
} where
  here : (i : ℕ) (other : Form) → i < suc found.index → slice_get (first ∷ rest) i ≡ Some (Ok other) → was_started (from + i) eras ≡ true
  here zero other below ok =
      let zero_on : from + 0 ≡ from = omega arith in
      (λ k. was_started (zero_on k) eras) ∙ skipped other (ap (first_of first) ok)
  here (suc i) other below ok =
      let shift : from + suc i ≡ from + 1 + i = omega arith in
      (λ k. was_started (shift k) eras) ∙ found.passed i other (omega (arith, below)) ok

err≢ok : (refusal : BuildFault) (form : Form) → Err refusal ≡ Ok form → ⊥
err≢ok refusal form same = subst by same tt where
  by : Installed → Type 0
  by (Err e) = Unit {0}
  by (Ok f) = ⊥

found-first : (eras : List Era) (from : ℕ) (first : Form) (rest : List Installed) (step : ℕ) (form : Form) (test : Bool) → was_started from eras ≡ test
    → (if test then first_left eras (from + 1) rest else Some (from, first)) ≡ Some (step, form)
    → (first_left eras (from + 1) rest ≡ Some (step, form) → IsFound eras (from + 1) rest step form)
    → IsFound eras from (Ok first ∷ rest) step form
found-first eras from first rest step form true was is later = further eras from (Ok first) rest step form (λ other same. was) (later is)
found-first eras from first rest step form false fresh is later =
    let pair : (from, first) ≡ (step, form) = ap (first_of (from, first)) is in
    let number : from ≡ step = ap (λ (p : ℕ × Form). p.0) pair in
    record {
      index = 0;
      place = omega (arith, number);
      entry = ap (λ (p : ℕ × Form). Some (Ok p.1)) pair;
      fresh = ap (λ (n : ℕ). was_started n eras) (sym number) ∙ fresh;
      passed = λ i other below ok. absurd (omega (arith, below));
    }

pub found-from : (eras : List Era) (from : ℕ) (entries : List Installed) (step : ℕ) (form : Form)
    → first_left eras from entries ≡ Some (step, form) → IsFound eras from entries step form
found-from eras from [] step form is = absurd (none-some (step, form) is)
found-from eras from (Err refusal ∷ rest) step form is =
    further eras from (Err refusal) rest step form (λ other same. absurd (err≢ok refusal other same))
    (found-from eras (from + 1) rest step form is)
found-from eras from (Ok first ∷ rest) step form is =
    found-first eras from first rest step form (was_started from eras) refl is (λ later. found-from eras (from + 1) rest step form later)

-- ---- epochs go on

was_started-push : (i : ℕ) (eras : List Era) (era : Era) → was_started i (eras ++ era ∷ []) ≡ (was_started i eras || (era.program == i))
was_started-push i [] era = or-false (era.program == i)
was_started-push i (first ∷ rest) era =
    ap (λ (b : Bool). (first.program == i) || b) (was_started-push i rest era)
    ∙ sym (or_assoc (first.program == i) (was_started i rest) (era.program == i))

-- an epoch that goes on is of the same program
pub was_started-same : (i : ℕ) (past : List Era) (one other : Era) → one.program ≡ other.program
    → was_started i (past ++ one ∷ []) ≡ was_started i (past ++ other ∷ [])
was_started-same i past one other same =
    was_started-push i past one ∙ (λ k. was_started i past || (same k == i)) ∙ sym (was_started-push i past other)

pub next-entry : (eras : List Era) (entries : List Installed) (step : ℕ) (form : Form) → first_left eras 0 entries ≡ Some (step, form)
    → slice_get entries step ≡ Some (Ok form)
next-entry eras entries step form left =
    let found = found-from eras 0 entries step form left in
    let place : step ≡ found.index = omega (arith, found.place) in
    ap (slice_get entries) place ∙ found.entry

-- the entry that is found is past those that the changes went through
pub next-late : (next step : ℕ) (form : Form) (eras : List Era) (entries : List Installed)
    → ArePassed next eras entries → first_left eras 0 entries ≡ Some (step, form) → next ≤ step
next-late next step form eras entries passed left = late_by next (λ early.
    true≢false (sym (passed.before step form early (next-entry eras entries step form left)) ∙ found.fresh)) where
      found : IsFound eras 0 entries step form
      found = found-from eras 0 entries step form left

      late_by : (n : ℕ) → (step < n → ⊥) → n ≤ step
      late_by n not = grind (arith, not)

-- an accepted entry has what was built
pub none-built : (entries : List Entry) (step : ℕ) (form : Form) → slice_get (map installed_of entries) step ≡ Some (Ok form)
    → built_at entries step ≡ None → ⊥
none-built entries step form ok none = by (slice_get entries step) refl where
  by : (found : Option Entry) → slice_get entries step ≡ found → ⊥
  by None here = none-some (Ok form) (ap (option_map installed_of) (sym here) ∙ sym (slice_get-map installed_of entries step) ∙ ok)
  by (Some entry) here = by_answer entry.answer (ap built_entry (sym here) ∙ none) (ap (option_map installed_of) (sym here) ∙ sym (slice_get-map installed_of entries step) ∙ ok) where
    by_answer : (answer : Result Built BuildFault) → built_of answer ≡ None → Some (form_or_refusal answer) ≡ Some (Ok form) → ⊥
    by_answer (Ok built) one two = none-some built (sym one)
    by_answer (Err refusal) one two = err≢ok refusal form (ap (first_of (Err refusal)) two)

-- the changes went through an entry more, and through all up to it
pub passed-push : (next step : ℕ) (form : Form) (eras : List Era) (era : Era) (entries : List Installed) → era.program ≡ step
    → ArePassed next eras entries → first_left eras 0 entries ≡ Some (step, form)
    → ArePassed (step + 1) (eras ++ era ∷ []) entries
passed-push next step form eras era entries is passed left = record {
  before = λ i other below ok. was_started-push i eras era ∙ was i other below ok (cases_eq step i);
  after = λ i past. was_started-push i eras era
      ∙ (λ k. passed.after i (omega (arith, past, late)) k || not_it i past k);
} where
  found : IsFound eras 0 entries step form
  found = found-from eras 0 entries step form left

  not_it : (i : ℕ) → step + 1 ≤ i → (era.program == i) ≡ false
  not_it i past = (λ j. is j == i) ∙ ne_eqb step i (λ same. absurd (omega (arith, past, same)))

  late : next ≤ step
  late = next-late next step form eras entries passed left

  was : (i : ℕ) (other : Form) → i < step + 1 → slice_get entries i ≡ Some (Ok other) → (step ≡ i) ⊎ (step ≡ i → ⊥)
      → (was_started i eras || (era.program == i)) ≡ true
  was i other below ok (inl same) =
      (λ k. was_started i eras || ((λ j. is j == i) ∙ eq-eqb step i same) k) ∙ or_right (was_started i eras) true refl
  was i other below ok (inr apart) =
      let zero_on : 0 + i ≡ i = omega arith in
      ap (λ (n : ℕ). was_started n eras || (era.program == i)) (sym zero_on)
      ∙ (λ k. found.passed i other (not_same i apart below) ok k || (era.program == i)) where
        not_same : (i : ℕ) → (step ≡ i → ⊥) → i < step + 1 → i < found.index
        not_same i apart below = let place = found.place in grind (arith, apart, below, place)

-- ---- entries go on

pub passed-more : (next : ℕ) (eras : List Era) (entries more : List Installed) → next ≤ length entries
    → ArePassed next eras entries → ArePassed next eras (entries ++ more)
passed-more next eras entries more within passed = record {
  before = λ i form below ok. passed.before i form below (sym (slice_get-front entries more i (omega (arith, below, within))) ∙ ok);
  after = passed.after;
}

-- ---- the code's search

-- what the code finds is what is left
pub left-found : (step : ℕ) (left : Option (ℕ × Form)) → steps left ≡ Some step → (form : Form) × (left ≡ Some (step, form))
left-found step None is = absurd (none-some step is)
left-found step (Some (other, form)) is = (form, λ k. Some (ap (first_of other) is k, form))

-- what the code finds past what it looked at is the next one
pub next-found : (next : ℕ) (entries : List Entry) (w : OpenWorld) → map installed_of entries ≡ w.entries → ArePassed next (eras_of w) w.entries
    → accepted_from next (drop next entries) ≡ steps (next_entry w)
next-found next entries w same passed =
    sym (next-step next (eras_of w) entries (subst (ArePassed next (eras_of w)) (sym same) passed))
    ∙ ap (λ (installed : List Installed). steps (first_left (eras_of w) 0 installed)) same
