use Rattle.std.proofs.Common.{rules, arith, ◌≡◌, ◌+◌, ◌<◌, ℕ, List, [], ◌∷◌, ◌++◌, drop, length, sym, ap, ◌∙◌, subst}
use Rattle.std.proofs.lemmas.List.{length-append}
use Rattle.agent_core.specs.Kinds.{built_in_count}
use Rattle.portus_build.specs.Builtins.{builtins}
use Rattle.reg_compiler.specs.declared.built.Built.{Built}
use Rattle.scene_core.specs.CompiledPrograms.{AreCompiled}
use Rattle.scenario_json.specs.Cases.{AreNumberedFrom}
use Rattle.reg_compiler.specs.Sources.{sources_of}
use Rattle.scenario_json.specs.ScenePrograms.{built_ins_from}
use Rattle.scenario_json.proofs.ProgramLemmas.{built_in_pushed, numbered_pushed, compiled_pushed}
use Rattle.scenario_json.proofs.scene_programs.put_built_ins.Goals as goal

pub loop-number-preserved : goal.loop-number-preserved
loop-number-preserved c =
    let l = c.loop-number in
    let built = c.in_ok-built_in.field-0 in
    let one : ℕ × Built = (l.number, built) in
    let below : l.number < built_in_count = search rules in
    let pushed : c.push.new.self ≡ l.builts ++ one ∷ [] = search rules in
    let longer : length c.push.new.self ≡ length l.builts + 1 = ap length pushed ∙ length-append l.builts (one ∷ []) in (
      ap (λ bs. sources_of bs ++ built_ins_from (l.number + 1) (drop (l.number + 1) builtins)) pushed
          ∙ built_in_pushed l.builts l.number built below c.in_ok-built_in.ensures.form ∙ l.invariant.0,
      subst (λ (bs : List (ℕ × Built)). AreNumberedFrom 0 bs) (sym pushed) (numbered_pushed 0 l.builts one l.invariant.1 (omega (arith, l.invariant.2))),
      omega (arith, longer, l.invariant.2),
      omega (arith, below),
      subst (λ (bs : List (ℕ × Built)). AreCompiled bs) (sym pushed) (compiled_pushed l.builts one l.invariant.4 c.in_ok-built_in.ensures.compiled),
    )
