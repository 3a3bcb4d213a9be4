-- What is read of a scenario's programs, and the list of its built-in programs, grow at their ends.
use Rattle.std.proofs.Common.{◌≡◌, ℕ, zero, suc, ◌<◌, List, [], ◌∷◌, ◌++◌, Result, Ok, Err, IfOk, length, map, drop, get_or, refl, sym, ap, ◌∙◌, ◌+◌, arith, append_assoc}
use Rattle.std.proofs.lemmas.List.{length-map, map_push}
use Rattle.std.proofs.lemmas.List.Elements.{All-push}
use Rattle.serde_json.specs.Data.{Data, Members, member}
use Rattle.portus_core.specs.ProgramForm.{form_of}
use Rattle.portus_build.specs.Builtins.{BuiltIn, builtins, builtin_text}
use Rattle.portus_build.specs.TextWalk.{program_of}
use Rattle.portus_build.specs.declared.fault.BuildFault.{BuildFault}
use Rattle.reg_compiler.specs.CompiledCode.{code_of, places_of}
use Rattle.reg_compiler.specs.declared.built.Built.{Built}
use Rattle.ccp_base.specs.Chaining.{then_do}
use Rattle.scene_core.specs.CompiledPrograms.{IsCompiled, AreCompiled}
use Rattle.scenario_json.specs.Cases.{AreNumberedFrom}
use Rattle.reg_compiler.specs.Sources.{sources_of}
use Rattle.scenario_json.specs.ScenePrograms.{named_program, programs_from, built_in, built_ins_from}

-- a program that is built goes to the end, with the number of those before it
pub forms_pushed : (builts : List (ℕ × Built)) (built : Built) (name : List ℕ) (value : Data) (rest : Members)
    → named_program name value ≡ Ok (form_of built.program)
    → programs_from (sources_of builts) (member name value rest) ≡ programs_from (sources_of (builts ++ (length builts, built) ∷ [])) rest
forms_pushed builts built name value rest is =
    ap (λ r. then_do r (λ form. programs_from (sources_of builts ++ (length (sources_of builts), form) ∷ []) rest)) is
    ∙ ap (λ n. programs_from (sources_of builts ++ (n, form_of built.program) ∷ []) rest) (length-map builts (λ one. (one.0, form_of one.1.program)))
    ∙ ap (λ forms. programs_from forms rest) (sym (map_push (λ one. (one.0, form_of one.1.program)) builts (length builts, built)))

-- one more program with the next number
pub numbered_pushed : (k : ℕ) (programs : List (ℕ × Built)) (one : ℕ × Built) → AreNumberedFrom k programs → one.0 ≡ k + length programs
    → AreNumberedFrom k (programs ++ one ∷ [])
numbered_pushed k [] one numbered is = (omega (arith, is), tt)
numbered_pushed k (first ∷ rest) one numbered is = (numbered.0, numbered_pushed (k + 1) rest one numbered.1 (omega (arith, is)))

-- a program that is built of a text is compiled
pub built_compiled : (result : Result Built BuildFault) → IfOk result (λ b. b.code.code ≡ code_of (form_of b.program))
    → IfOk result (λ b. b.places ≡ places_of (form_of b.program)) → IfOk result IsCompiled
built_compiled (Ok b) code places = record { code = code; places = places }
built_compiled (Err e) code places = tt

-- one more program that is compiled
pub compiled_pushed : (programs : List (ℕ × Built)) (one : ℕ × Built) → AreCompiled programs → IsCompiled one.1 → AreCompiled (programs ++ one ∷ [])
compiled_pushed programs one compiled here = All-push (λ program. IsCompiled program.1) programs one compiled here

-- the programs from a number on: that of the number, and those after it
next_program : (programs : List BuiltIn) (from number : ℕ) → number < length programs
    → built_ins_from from (drop number programs)
    ≡ built_in from (program_of (get_or (map (λ program. program.text) programs) number [])) ++ built_ins_from (from + 1) (drop (number + 1) programs)
next_program [] from number below = absurd (omega (arith, below))
next_program (program ∷ rest) from zero below = refl
next_program (program ∷ rest) from (suc number) below =
    let one : suc (number + 1) ≡ suc number + 1 = omega arith in
    next_program rest from number (omega (arith, below))
    ∙ ap (λ n. built_in from (program_of (get_or (map (λ later. later.text) rest) number [])) ++ built_ins_from (from + 1) (drop n (program ∷ rest))) one

-- one more built-in program is put at the end
pub built_in_pushed : (builts : List (ℕ × Built)) (number : ℕ) (built : Built) → number < length builtins
    → built_in number (program_of (builtin_text number)) ≡ (number, form_of built.program) ∷ []
    → sources_of (builts ++ (number, built) ∷ []) ++ built_ins_from (number + 1) (drop (number + 1) builtins)
    ≡ sources_of builts ++ built_ins_from number (drop number builtins)
built_in_pushed builts number built below is =
    let later = built_ins_from (number + 1) (drop (number + 1) builtins) in
    ap (λ forms. forms ++ later) (map_push (λ one. (one.0, form_of one.1.program)) builts (number, built))
    ∙ append_assoc (sources_of builts) ((number, form_of built.program) ∷ []) later
    ∙ sym (ap (λ forms. sources_of builts ++ forms) (next_program builtins number number below ∙ ap (λ forms. forms ++ later) is))
