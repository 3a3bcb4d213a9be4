-- What `check` makes of its input, and the inputs that it refuses.
use Rattle.std.specs.Prelude.{◌≡◌, ◌≤◌, ℕ, List, [], ◌∷◌, length}
use Rattle.portus_core.specs.Programs.{Form}
use Rattle.portus_core.specs.ProgramForm.{form_of}
use Rattle.reg_compiler.specs.declared.built.Built.{Built}
use Rattle.reg_compiler.specs.Counts.{lean}
use Rattle.portus_build.specs.Texts.{IsBuiltFrom, IsNoProgram}
use Rattle.campaign_report.specs.CheckText.{check_text}
use Rattle.run_ending.specs.declared.outcome.ModeOutput.{ModeOutput}
use Rattle.run_ending.specs.declared.refusal.Limit.TheVariants.{Input}
use Rattle.run_ending.specs.declared.refusal.Refusal.{Refusal}
use Rattle.run_ending.specs.declared.refusal.Refusal.TheVariants.{Program}
use Rattle.run_ending.specs.declared.stop.Stop.{Stop}
use Rattle.run_ending.specs.declared.stop.Stop.TheVariants as stop
use Rattle.ccp_run.specs.Rules.{Rules, reads_whole}

-- the input is a program's text, the program has this code, of at most its lean count of instructions, and the output
-- is its summary and listing
pub record IsCheckOutput (bytes : List ℕ) (output : ModeOutput) : Type 0 where
  pub built : Built
  pub program : IsBuiltFrom bytes (form_of built.program)
  pub lean_code : length built.code.code.instrs ≤ lean (form_of built.program)
  pub written : output.text ≡ check_text (form_of built.program) built.code.code
  pub kept : output.programs ≡ (0, built) ∷ []
  pub no_books : output.books ≡ []
  pub idle : output.ran ≡ 0

-- the input isn't the text of a program, and this is the program's refusal
abbrev pub IsNoCheck : List ℕ → Refusal → Type 0
IsNoCheck bytes (Program fault) = IsNoProgram bytes fault
IsNoCheck bytes _ = ⊥

-- bytes are the text of a program
abbrev pub IsProgramText : List ℕ → Type 0
IsProgramText bytes = (form : Form) × IsBuiltFrom bytes form

abbrev pub check_rules : Rules
check_rules = reads_whole Input IsProgramText IsCheckOutput IsNoCheck

-- why a text isn't built; out of memory is left open
abbrev pub StopsProgram : List ℕ → Stop → Type 0
StopsProgram text (stop.Refused refusal) = IsNoCheck text refusal
StopsProgram text stop.ReadFailed = ⊥
StopsProgram text (stop.NoMemory _) = Unit {0}
