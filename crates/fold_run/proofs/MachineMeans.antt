-- What a machine answers to an acknowledgement, as the meaning of the program that its code simulates.
use Rattle.std.proofs.Common.{◌≡◌, ◌∙◌, ◌<◌, ℕ, true, false, Option, Some, None, List, [], ◌∷◌, length, map, slice_get, option_map, unwrap_or, ap, sym, subst, refl}
use Rattle.ccp_base.specs.declared.ack.Ack.{Ack}
use Rattle.std.proofs.lemmas.List.{length-map}
use Rattle.ccp_base.specs.declared.arithmetic.FaultKind.{FaultKind}
use Rattle.ccp_base.specs.declared.place.Place.{Place}
use Rattle.portus_core.specs.Epoch.{declared_env}
use Rattle.reg_code.specs.CodeStart.{started}
use Rattle.portus_core.specs.declared.env.Mean.{Mean}
use Rattle.portus_core.specs.declared.env.Mean.TheVariants as mean
use Rattle.portus_core.specs.declared.program.Decl.{Decl}
use Rattle.portus_core.specs.Programs.{Form}
use Rattle.reg_code.specs.declared.code.Start.{Start}
use Rattle.std.proofs.lemmas.Option.{slice_get_within}
use Rattle.portus_core.specs.OneAcknowledgement.{IsEnvOf, one_of}
use Rattle.reg_code.specs.declared.code.Code.{Code}
use Rattle.reg_code.specs.CodeStep.{IsKeptOf, Kept, CodeOutcome, quiet, reported, held, faulted, lost, one_by_code}
use Rattle.fold_machine.specs.declared.acked.Acked.{Acked}
use Rattle.fold_machine.specs.declared.acked.Acked.TheVariants as acked
use Rattle.fold_machine.specs.Heard.{answer_for, after_made, after_acknowledgement, heard_where, report_after}
use Rattle.fold_machine.specs.MachineState.{MachineState, Fits}
use Rattle.reg_compiler.specs.Simulation.{Simulates, env_of, missing_place, place_at, seen, register_start}
use Rattle.fold_run.specs.AnswerMeaning.{mean_of, HasItsPlace}

there : (places : List Place) (kind : FaultKind) (index : ℕ) (m : Mean) → option_map (λ place. mean.Fault kind place) (slice_get places index) ≡ Some m
    → (index < length places) × (m ≡ mean.Fault kind (place_at places index))
there places kind index m e = go (slice_get places index) refl e
  where
    go : (place : Option Place) → slice_get places index ≡ place → option_map (λ place. mean.Fault kind place) place ≡ Some m
        → (index < length places) × (m ≡ mean.Fault kind (place_at places index))
    go None found e = cc
    go (Some place) found e =
        let is : m ≡ mean.Fault kind place = cc in
        (slice_get_within places index place found, is ∙ ap (mean.Fault kind) (sym (ap (λ o. unwrap_or o missing_place) found)))

-- what an answer says of the meaning, if the last report has these fields
abbrev pub Tells : List Place → List ℕ → Mean → Acked → Type 0
Tells places report m a = (m ≡ mean_of places report a) × HasItsPlace places a

tells : (places : List Place) (o : CodeOutcome) (report : List ℕ) (m : Mean) (a : Acked) → Some a ≡ answer_for o → seen places o ≡ Some m → Tells places (report_after o report) m a
tells places quiet report m a is e =
    let same : a ≡ acked.Quiet = cc in
    subst (λ (x : Acked). Tells places report m x) (sym same) (let mean_is : m ≡ mean.Quiet = cc in (mean_is, tt))
tells places (reported fields) report m a is e =
    let same : a ≡ acked.Reported = cc in
    subst (λ (x : Acked). Tells places fields m x) (sym same) (let mean_is : m ≡ mean.Reported fields = cc in (mean_is, tt))
tells places held report m a is e =
    let same : a ≡ acked.Held = cc in
    subst (λ (x : Acked). Tells places report m x) (sym same) (let mean_is : m ≡ mean.Held = cc in (mean_is, tt))
tells places (faulted kind index) report m a is e =
    let same : a ≡ acked.Faulted kind index = cc in
    let found = there places kind index m e in
    subst (λ (x : Acked). Tells places report m x) (sym same) (found.1, found.0)
tells places lost report m a is e = let bad : ⊥ = cc in absurd bad

starts : (decls : List Decl) → map (λ (start : Start). start.value) (map register_start decls) ≡ map (λ (decl : Decl). decl.start) decls
starts [] = refl
starts (decl ∷ rest) = ap (λ values. decl.start ∷ values) (starts rest)

module _ (form : Form) (code : Code) (places : List Place) (s : Simulates form code places) where
  -- the registers of the code hold an env of the program
  pub env_shape : (kept : Kept) → IsKeptOf code kept → IsEnvOf form (env_of kept)
  env_shape kept k = record {
    fields = k.reports ∙ (ap length s.2.0 ∙ length-map form.fields register_start);
    controls = k.controls ∙ (ap length s.2.1 ∙ length-map form.controls register_start);
  }

  pub start_shape : env_of (started code [] 0 0 0) ≡ declared_env form 0 0 0
  start_shape = λ i. record {
    fields = (ap (map (λ (start : Start). start.value)) s.2.0 ∙ starts form.fields) i;
    controls = (ap (map (λ (start : Start). start.value)) s.2.1 ∙ starts form.controls) i;
    cwnd = 0;
    rate = 0;
    zero = 0;
  }

  module _ (m : MachineState) (fits : Fits m code) (going : m.is_stopped ≡ false) (ack : Ack) where
    made : after_acknowledgement code ack true m ≡ after_made (one_by_code code m.kept ack true) m
    made = ap (λ stopped. heard_where stopped code ack true m) going

    -- a machine that isn't stopped answers what the program means
    pub told : (a : Acked) → Some a ≡ (after_acknowledgement code ack true m).0 → (new : MachineState) → new ≡ (after_acknowledgement code ack true m).1
        → Tells places new.report (one_of form (env_of m.kept) ack true).0 a
    told a is new after =
        subst (λ (report : List ℕ). Tells places report (one_of form (env_of m.kept) ack true).0 a)
        (sym (ap (λ (x : MachineState). x.report) (after ∙ ap (λ (p : Option Acked × MachineState). p.1) made)))
        (tells places (one_by_code code m.kept ack true).outcome m.report (one_of form (env_of m.kept) ack true).0 a
        (is ∙ ap (λ (p : Option Acked × MachineState). p.0) made) (s.3 (env_of m.kept) ack true (env_shape m.kept fits.kept)).0)

    pub env_after : (new : MachineState) → new ≡ (after_acknowledgement code ack true m).1 → env_of new.kept ≡ (one_of form (env_of m.kept) ack true).1
    env_after new is = ap (λ (x : MachineState). env_of x.kept) (is ∙ ap (λ (p : Option Acked × MachineState). p.1) made)
        ∙ ap env_of (s.3 (env_of m.kept) ack true (env_shape m.kept fits.kept)).1
