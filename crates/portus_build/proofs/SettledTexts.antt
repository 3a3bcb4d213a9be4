-- Each text is settled, since its reading and its forms are.
use Rattle.std.proofs.Common.{◌≡◌, ◌⊎◌, inl, inr, ℕ, Bool, true, false, refl, List, Option, Some, None, option_map, if◌then◌else◌, sym, ap, subst, ◌∙◌}
use Rattle.std.specs.Option.{option_or}
use Rattle.ccp_base.specs.Outside.{no_memory}
use Rattle.ccp_base.specs.declared.place.Place.{Place}
use Rattle.portus_core.specs.Programs.{Form}
use Rattle.portus_core.specs.Trees.{Nodes}
use Rattle.portus_parser.specs.declared.fault.ParseFault.TheVariants as parse
use Rattle.portus_parser.specs.Outcomes as reading
use Rattle.portus_parser.proofs.Exact as reading_proofs
use Rattle.scope_types.specs.declared.fault.ScopeFault.{ScopeFault}
use Rattle.scope_types.specs.declared.fault.ScopeFault.TheVariants as scope
use Rattle.scope_types.specs.WellScoped.{IsScoped}
use Rattle.scope_types.specs.Outcomes as scoping
use Rattle.scope_types.proofs.Settled as scoping_proofs
use Rattle.reg_compiler.specs.declared.fault.CompileFault.{CompileFault}
use Rattle.reg_compiler.specs.declared.fault.CompileFault.TheVariants as compile
use Rattle.reg_compiler.specs.Needs.{deep_form}
use Rattle.reg_compiler.specs.Counts.{form_count}
use Rattle.reg_compiler.specs.Refusal.{shown_count, too_long, refusal_of}
use Rattle.portus_build.specs.declared.fault.BuildFault.{BuildFault}
use Rattle.portus_build.specs.declared.fault.BuildFault.TheVariants.{Parse, Scope, Compile, NoMemory}
use Rattle.portus_build.specs.Texts.{StandsFor, IsMisscoped, IsNotCompiled, IsNoProgram, IsBuiltFrom}
use Rattle.portus_build.specs.Settled.{runs_out_of_memory, IsSettled}

-- the definition of compiling has no refusal for lack of memory
long_for : (b : Bool) (count : ℕ) → (if b then Some (compile.CodeTooLong (shown_count count)) else None) ≡ Some (compile.NoMemory no_memory) → ⊥
long_for true count e = cc
long_for false count e = cc

deep_for : (deep : Option Place) (long : Option CompileFault) → (long ≡ Some (compile.NoMemory no_memory) → ⊥) → option_or (option_map compile.TooDeep deep) long ≡ Some (compile.NoMemory no_memory) → ⊥
deep_for (Some place) long never e = cc
deep_for None long never e = never e

module _ (text : List ℕ) where
  read : reading.IsSettled text
  read = reading_proofs.IsSettled-always text

  settled_forms : (forms : Nodes) → scoping.IsSettled forms
  settled_forms forms = scoping_proofs.IsSettled-always forms

  stands_once : (left right : Form) → StandsFor text left → StandsFor text right → left ≡ right
  stands_once left right h k =
      let same = read.one h.forms k.forms h.spelled k.spelled in
      (settled_forms k.forms).one left right (subst (λ (forms : Nodes). IsScoped forms left) same h.scoped) k.scoped

  scoped_apart : (form : Form) (fault : ScopeFault) → StandsFor text form → IsMisscoped text fault → ⊥
  scoped_apart form fault h k =
      let same = read.one h.forms k.forms h.spelled k.spelled in
      (settled_forms k.forms).apart form fault (subst (λ (forms : Nodes). IsScoped forms form) same h.scoped) k.refused

  misscoped_once : (left right : ScopeFault) → IsMisscoped text left → IsMisscoped text right → left ≡ right
  misscoped_once left right h k =
      let same = read.one h.forms k.forms h.spelled k.spelled in
      (settled_forms k.forms).one_refusal left right (subst (λ (forms : Nodes). scoping.IsRefused forms left) same h.refused) k.refused

  uncompiled_once : (left right : CompileFault) → IsNotCompiled text left → IsNotCompiled text right → left ≡ right
  uncompiled_once left right h k =
      let same : h.form ≡ k.form = stands_once h.form k.form h.program k.program in
      let e : Some left ≡ Some right = sym h.refused ∙ ap refusal_of same ∙ k.refused in cc

  one_refusal : (left right : BuildFault) → IsNoProgram text left → IsNoProgram text right → left ≡ right
  one_refusal (Parse a) (Parse b) h k = ap Parse (read.one_refusal a b h k)
  one_refusal (Parse a) (Scope b) h k = absurd (read.apart k.forms a k.spelled h)
  one_refusal (Parse a) (Compile b) h k = absurd (read.apart k.program.forms a k.program.spelled h)
  one_refusal (Parse a) (NoMemory _) h k = absurd k
  one_refusal (Scope a) (Parse b) h k = absurd (read.apart h.forms b h.spelled k)
  one_refusal (Scope a) (Scope b) h k = ap Scope (misscoped_once a b h k)
  one_refusal (Scope a) (Compile b) h k = absurd (scoped_apart k.form a k.program h)
  one_refusal (Scope a) (NoMemory _) h k = absurd k
  one_refusal (Compile a) (Parse b) h k = absurd (read.apart h.program.forms b h.program.spelled k)
  one_refusal (Compile a) (Scope b) h k = absurd (scoped_apart h.form b h.program k)
  one_refusal (Compile a) (Compile b) h k = ap Compile (uncompiled_once a b h k)
  one_refusal (Compile a) (NoMemory _) h k = absurd k
  one_refusal (NoMemory _) right h k = absurd h

  by_rule : (refusal : BuildFault) → IsNoProgram text refusal → runs_out_of_memory refusal ≡ false
  by_rule (NoMemory _) h = absurd h
  by_rule (Parse (parse.NoMemory _)) h = absurd h
  by_rule (Parse fault) h = refl
  by_rule (Scope (scope.NoMemory _)) h = absurd ((settled_forms h.forms).by_rule h.refused)
  by_rule (Scope fault) h = refl
  by_rule (Compile (compile.NoMemory no_memory)) h =
      absurd (deep_for (deep_form h.form) (too_long (form_count h.form)) (long_for _ (form_count h.form)) h.refused)
  by_rule (Compile fault) h = refl

  apart : (form : Form) (refusal : BuildFault) → IsBuiltFrom text form → IsNoProgram text refusal → ⊥
  apart form (Parse fault) h k = read.apart h.program.forms fault h.program.spelled k
  apart form (Scope fault) h k = scoped_apart form fault h.program k
  apart form (Compile fault) h k =
      let same : form ≡ k.form = stands_once form k.form h.program k.program in
      let e : Some fault ≡ None = sym k.refused ∙ ap refusal_of (sym same) ∙ h.compiled in cc
  apart form (NoMemory _) h k = k

  abbrev Either : Type 0
  Either = ((form : Form) × IsBuiltFrom text form) ⊎ ((refusal : BuildFault) × IsNoProgram text refusal)

  compiled_or : (form : Form) (refusal : Option CompileFault) → StandsFor text form → refusal_of form ≡ refusal → Either
  compiled_or form None h e = inl (form, record { program = h; compiled = e })
  compiled_or form (Some fault) h e = inr (Compile fault, record { form = form; program = h; refused = e })

  some : Either
  some = elim read.some [
    | inl spelled ↦ elim (settled_forms spelled.0).some [
      | inl scoped ↦
          compiled_or scoped.0 (refusal_of scoped.0) (record { forms = spelled.0; spelled = spelled.1; scoped = scoped.1 }) refl
      | inr refused ↦ inr (Scope refused.0, record { forms = spelled.0; spelled = spelled.1; refused = refused.1 })
    ]
    | inr refused ↦ inr (Parse refused.0, refused.1)
  ]

  settled_for : IsSettled text
  settled_for = record {
    one = λ left right h k. stands_once left right h.program k.program;
    one_refusal = one_refusal;
    by_rule = by_rule;
    apart = apart;
    some = some;
  }

pub settled_text : (text : List ℕ) → IsSettled text
settled_text text = settled_for text
