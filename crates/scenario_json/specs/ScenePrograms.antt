-- The programs of a scenario: the built-in ones, then those that it names, in byte order of their names.
use Rattle.std.specs.Prelude.{ℕ, ◌+◌, Option, Result, Ok, Err, List, [], ◌∷◌, ◌++◌, length}
use Rattle.serde_json.specs.Data.{Data, Members, no_members, member}
use Rattle.portus_core.specs.Programs.{Form}
use Rattle.reg_compiler.specs.Sources.{Sources}
use Rattle.portus_build.specs.Builtins.{BuiltIn, builtins}
use Rattle.portus_build.specs.TextWalk.{program_of}
use Rattle.portus_build.specs.declared.fault.BuildFault.{BuildFault}
use Rattle.ccp_base.specs.Chaining.{then_do}
use Rattle.scene_members.specs.declared.key.Key.TheVariants as key
use Rattle.scene_members.specs.NamedMembers.{named_members, named_text}
use Rattle.scene_faults.specs.declared.fault.SceneFault.{SceneFault}
use Rattle.scene_faults.specs.declared.fault.SceneFault.TheVariants.{Program}
use Rattle.scene_faults.specs.MemberFaults.{in_scene}

-- a program under its name, or its refusal
abbrev pub under_name : List ℕ → Result Form BuildFault → Result Form SceneFault
under_name name (Ok form) = Ok form
under_name name (Err fault) = Err (Program name fault)

abbrev pub named_program : List ℕ → Data → Result Form SceneFault
named_program name value =
    then_do (in_scene (named_text key.Programs name value)) (λ text. under_name name (program_of text))

-- the programs, after those that are done
abbrev pub programs_from : Sources → Members → Result Sources SceneFault
programs_from done no_members = Ok done
programs_from done (member name value rest) =
    then_do (named_program name value) (λ form. programs_from (done ++ (length done, form) ∷ []) rest)

-- a built-in program, if its text has this result; each text is that of a program
abbrev pub built_in : ℕ → Result Form BuildFault → Sources
built_in number (Ok form) = (number, form) ∷ []
built_in number (Err fault) = []

-- the programs of these texts, with the numbers from this one on
abbrev pub built_ins_from : ℕ → List BuiltIn → Sources
built_ins_from number [] = []
built_ins_from number (program ∷ rest) = built_in number (program_of program.text) ++ built_ins_from (number + 1) rest

abbrev pub built_ins : Sources
built_ins = built_ins_from 0 builtins

-- all programs of a scenario that names these
abbrev pub programs_in : Members → Result Sources SceneFault
programs_in members = programs_from built_ins members

-- the names of members, in order
abbrev pub names_of : Members → List (List ℕ)
names_of no_members = []
names_of (member name value rest) = name ∷ names_of rest

-- all programs with their numbers, and the names of those that the scenario names
abbrev pub all_programs : Option Data → Result (Sources × List (List ℕ)) SceneFault
all_programs programs =
    then_do (in_scene (named_members programs)) (λ named.
    then_do (programs_in named) (λ forms. Ok (forms, names_of named)))
