use Rattle.std.proofs.Common.{suc, rules, arith, ◌≡◌, ◌+◌, Ok, [], ◌∷◌, ◌++◌, length, string_bytes, sym, subst, ℕ, List, ap, ◌∙◌, append_assoc}
use Rattle.std.proofs.lemmas.List.{length-append}
use Rattle.serde_json.specs.View.{view, members_view}
use Rattle.serde_json.specs.Events.{members_len}
use Rattle.portus_core.specs.ProgramForm.{form_of}
use Rattle.reg_compiler.specs.Sources.{sources_of}
use Rattle.scenario_json.specs.ScenePrograms.{named_program, programs_from, names_of}
use Rattle.scene_members.proofs.TableLemmas.{Entry}
use Rattle.reg_compiler.specs.declared.built.Built.{Built}
use Rattle.scene_core.specs.CompiledPrograms.{IsCompiled, AreCompiled}
use Rattle.scenario_json.specs.Cases.{AreNumberedFrom}
use Rattle.scenario_json.proofs.ProgramLemmas.{forms_pushed, numbered_pushed, compiled_pushed}
use Rattle.scenario_json.proofs.scene_programs.put_programs.Goals as goal

pub loop-name-preserved : goal.loop-name-preserved
loop-name-preserved c =
    let l = c.loop-name in
    let e : Entry = (c.in-Some.name.now, c.in-Some.value.now) in
    let left = c.next.new.self in
    let k = string_bytes e.0 in
    let built = c.in_ok-name.built in
    let step : l.name-iterator ≡ e ∷ left = c.in-Some.ensures.steps in
    let named : c.in_ok-name.name ≡ k = search rules in
    let builts : c.push.new.self ≡ l.builts ++ (length l.builts, built) ∷ [] = search rules in
    let names : c.push-in-loop-name.new.self ≡ l.names ++ c.in_ok-name.name ∷ [] = search rules in
    let names_at : c.push-in-loop-name.new.self ≡ l.names ++ k ∷ [] = names ∙ ap (λ n. l.names ++ n ∷ []) named in
    let count : length c.push-in-loop-name.new.self ≡ length l.names + 1 = ap length names_at ∙ length-append l.names (k ∷ []) in
    let built_count : length c.push.new.self ≡ length l.builts + 1 = ap length builts ∙ length-append l.builts ((length l.builts, built) ∷ []) in
    let is : named_program k (view e.1) ≡ Ok (form_of built.program) = search rules in
    let compiled : IsCompiled built = search rules in
    let fewer : members_len (members_view l.name-iterator) ≡ suc (members_len (members_view left)) = ap (λ es. members_len (members_view es)) step in (
      ap (λ bs. programs_from (sources_of bs) (members_view left)) builts
          ∙ sym (forms_pushed l.builts built k (view e.1) (members_view left) is)
          ∙ sym (ap (λ es. programs_from (sources_of l.builts) (members_view es)) step) ∙ l.invariant.0,
      ap (λ ns. ns ++ names_of (members_view left)) names_at ∙ append_assoc l.names (k ∷ []) (names_of (members_view left))
          ∙ sym (ap (λ es. l.names ++ names_of (members_view es)) step) ∙ l.invariant.1,
      subst (λ (bs : List (ℕ × Built)). AreNumberedFrom 0 bs) (sym builts) (numbered_pushed 0 l.builts (length l.builts, built) l.invariant.2 (omega arith)),
      omega (arith, count, built_count, l.invariant.3),
      omega (arith, count, fewer, l.invariant.4),
      subst (λ (bs : List (ℕ × Built)). AreCompiled bs) (sym builts) (compiled_pushed l.builts (length l.builts, built) l.invariant.5 compiled),
    )
