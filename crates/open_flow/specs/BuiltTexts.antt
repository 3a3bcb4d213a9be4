-- What a text is built into, and what the text stands for.
use Rattle.std.specs.Prelude.{◌≡◌, ℕ, Bool, true, false, Option, Some, None, Result, Ok, Err, List}
use Rattle.portus_core.specs.ProgramForm.{form_of}
use Rattle.reg_compiler.specs.declared.built.Built.{Built}
use Rattle.portus_build.specs.declared.fault.BuildFault.{BuildFault}
use Rattle.portus_build.specs.declared.fault.BuildFault.TheVariants.{NoMemory, Parse, Scope, Compile}
use Rattle.portus_build.specs.Settled.{runs_out_of_memory}
use Rattle.portus_build.specs.TextWalk.{program_of}
use Rattle.open_flow.specs.OpenWorld.{Installed}

-- the program of what was built, or the refusal
abbrev pub form_or_refusal : Result Built BuildFault → Installed
form_or_refusal (Ok built) = Ok (form_of built.program)
form_or_refusal (Err refusal) = Err refusal

abbrev pub was_built : Result Built BuildFault → Bool
was_built (Ok built) = true
was_built (Err refusal) = false

-- whether memory ran out
abbrev pub is_out_of_memory : Result Built BuildFault → Bool
is_out_of_memory (Ok built) = false
is_out_of_memory (Err refusal) = runs_out_of_memory refusal

-- whether memory ran out outside the steps of building
abbrev pub is_no_memory : BuildFault → Bool
is_no_memory (NoMemory _) = true
is_no_memory (Parse fault) = false
is_no_memory (Scope fault) = false
is_no_memory (Compile fault) = false

-- it is what the text stands for
abbrev pub Answers : List ℕ → Result Built BuildFault → Type 0
Answers text answer = program_of text ≡ form_or_refusal answer

abbrev pub built_of : Result Built BuildFault → Option Built
built_of (Ok built) = Some built
built_of (Err refusal) = None

-- an entry: a step, its text, and what the text is built into
pub record EntryState : Type 0 where
  pub step : ℕ
  pub text : List ℕ
  pub answer : Result Built BuildFault

-- the answer is what the text stands for, and memory didn't run out
pub record IsEntry (text : List ℕ) (answer : Result Built BuildFault) : Type 0 where
  pub answers : Answers text answer
  pub ruled : is_out_of_memory answer ≡ false
