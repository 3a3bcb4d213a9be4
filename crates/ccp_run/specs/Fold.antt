-- What `fold` makes of its input, and the inputs that it refuses.
use Rattle.std.specs.Prelude.{◌≡◌, ℕ, Option, Some, None, Result, Ok, Err, List, [], ◌∷◌, length}
use Rattle.ccp_base.specs.declared.ack.Ack.{Ack}
use Rattle.ccp_base.specs.declared.parts.Separator.TheVariants.{LineFeed}
use Rattle.ccp_base.specs.Parts.{parts_of}
use Rattle.portus_core.specs.Programs.{Form}
use Rattle.portus_core.specs.ProgramForm.{form_of}
use Rattle.portus_core.specs.Value.{Cause}
use Rattle.reg_compiler.specs.declared.built.Built.{Built}
use Rattle.portus_build.specs.declared.fault.BuildFault.{BuildFault}
use Rattle.portus_build.specs.Texts.{IsBuiltFrom, IsNoProgram}
use Rattle.ccp_base.specs.Text.{◌⧺◌}
use Rattle.report_lines.specs.EndLine.{end_line}
use Rattle.report_lines.specs.FaultLine.{fault_line}
use Rattle.report_lines.specs.ReportLine.{report_lines}
use Rattle.fold_run.specs.declared.acks.LineFault.{LineFault}
use Rattle.fold_run.specs.declared.acks.LineFault.TheVariants as lines
use Rattle.fold_run.specs.Acknowledgements.{acks_of_lines}
use Rattle.fold_run.specs.Fold.{fold_reports, fold_fault, fold_end}
use Rattle.fold_run.specs.Ran.{ran_of}
use Rattle.fold_run.specs.Separated.{Cut, cut_of}
use Rattle.run_ending.specs.declared.outcome.ModeOutput.{ModeOutput}
use Rattle.run_ending.specs.declared.refusal.Limit.TheVariants.{Input}
use Rattle.run_ending.specs.declared.refusal.Refusal.{Refusal}
use Rattle.run_ending.specs.declared.refusal.Refusal.TheVariants.{TooLong, NoSeparator, Program, Line, TooManyAcks, Scene, Frame, FrameCut}
use Rattle.ccp_run.specs.Rules.{Rules, reads_whole}

-- the acknowledgements of what stands below the separator, or the first fault among its lines
abbrev pub acks_below : Cut → Result (List Ack) LineFault
acks_below cut = acks_of_lines cut.next (parts_of LineFeed cut.rest)

-- bytes are an input of `fold`: a program and acknowledgements
pub record IsFold (bytes : List ℕ) (form : Form) (acks : List Ack) : Type 0 where
  pub cut : Cut
  pub at_separator : cut_of bytes ≡ Some cut
  pub program : IsBuiltFrom cut.program form
  pub lines : acks_below cut ≡ Ok acks

-- a fold has epoch 0 alone
abbrev pub stopping_line : Option (ℕ × Cause) → List ℕ
stopping_line None = []
stopping_line (Some fault) = fault_line 0 fault.0 fault.1.0 fault.1.1

-- the text of what a program means over acknowledgements: its reports, the fault that stopped it, and how it ends
abbrev pub folded_text : Form → List Ack → List ℕ
folded_text form acks =
    report_lines form.fields (fold_reports form acks) ⧺ stopping_line (fold_fault form acks)
    ⧺ end_line form.fields (length (fold_reports form acks)) (fold_end form acks)

-- the output is the text of the program's meaning, and the program's code runs that number of instructions
pub record IsFoldOutput (bytes : List ℕ) (output : ModeOutput) : Type 0 where
  pub form : Form
  pub acks : List Ack
  pub input : IsFold bytes form acks
  pub written : output.text ≡ folded_text form acks
  pub built : Built
  pub program : form_of built.program ≡ form
  pub kept : output.programs ≡ (0, built) ∷ []
  pub no_books : output.books ≡ []
  pub counted : output.ran ≡ ran_of built.code.code acks

-- the separator is there, and the text before it is no program
pub record HasNoProgram (bytes : List ℕ) (fault : BuildFault) : Type 0 where
  pub cut : Cut
  pub at_separator : cut_of bytes ≡ Some cut
  pub refused : IsNoProgram cut.program fault

-- the program is there, and the lines below it aren't acknowledgements
pub record HasBadLines (bytes : List ℕ) (fault : LineFault) : Type 0 where
  pub cut : Cut
  pub at_separator : cut_of bytes ≡ Some cut
  pub form : Form
  pub program : IsBuiltFrom cut.program form
  pub refused : acks_below cut ≡ Err fault

-- bytes are no input of `fold`, and this is the first refusal, in the order separator, program, lines
abbrev pub IsNoFold : List ℕ → Refusal → Type 0
IsNoFold bytes (TooLong limit) = ⊥
IsNoFold bytes NoSeparator = cut_of bytes ≡ None
IsNoFold bytes (Program fault) = HasNoProgram bytes fault
IsNoFold bytes (Line n) = HasBadLines bytes (lines.Line n)
IsNoFold bytes TooManyAcks = HasBadLines bytes lines.TooMany
IsNoFold bytes (Scene fault) = ⊥
IsNoFold bytes (Frame field place) = ⊥
IsNoFold bytes (FrameCut place) = ⊥

-- bytes are such an input
abbrev pub IsFoldInput : List ℕ → Type 0
IsFoldInput bytes = (form : Form) × (acks : List Ack) × IsFold bytes form acks

abbrev pub fold_rules : Rules
fold_rules = reads_whole Input IsFoldInput IsFoldOutput IsNoFold
