-- The program of a text, or its first refusal, found by one walk after another: over its bytes, its tokens and its
-- forms.
use Rattle.std.specs.Prelude.{ℕ, nat_lt, if◌then◌else◌, Option, Some, None, Result, Ok, Err, List, length, map}
use Rattle.ccp_base.specs.Limits.{most_text_bytes}
use Rattle.ccp_base.specs.declared.place.Place.{Place}
use Rattle.portus_core.specs.Programs.{Form}
use Rattle.portus_core.specs.Trees.{Node, collected}
use Rattle.portus_lexer.specs.declared.token.Token.{Token}
use Rattle.portus_lexer.specs.declared.within.Within.TheVariants.{Gap}
use Rattle.portus_lexer.specs.Places.{first_place}
use Rattle.portus_lexer.specs.Scanning.{scan}
use Rattle.portus_parser.specs.declared.fault.ParseFault.{ParseFault}
use Rattle.portus_parser.specs.declared.fault.ParseFault.TheVariants.{SourceTooLong, NotText}
use Rattle.portus_parser.specs.Readings.{read_lexemes, unread, lexeme_in}
use Rattle.scope_types.specs.declared.fault.ScopeFault.{ScopeFault}
use Rattle.scope_types.specs.ProgramWalk.{source_walk}
use Rattle.reg_compiler.specs.declared.fault.CompileFault.{CompileFault}
use Rattle.reg_compiler.specs.Refusal.{refusal_of}
use Rattle.portus_build.specs.Texts.{IsBuiltFrom, IsNoProgram}
use Rattle.portus_build.specs.declared.fault.BuildFault.{BuildFault}
use Rattle.portus_build.specs.declared.fault.BuildFault.TheVariants.{Parse, Scope, Compile}

-- the forms that a text's tokens are read as; the scan of a text without tokens ends at a stray byte
abbrev pub forms_in : List ℕ → Result (List Token) Place → Result (List Node) ParseFault
forms_in text (Ok tokens) = read_lexemes unread (map (lexeme_in text) tokens)
forms_in text (Err place) = Err (NotText place)

abbrev pub text_forms : List ℕ → Result (List Node) ParseFault
text_forms text =
    if nat_lt most_text_bytes (length text) then Err SourceTooLong else forms_in text (scan Gap first_place 0 text)

abbrev pub unless_refused : Form → Option CompileFault → Result Form BuildFault
unless_refused form None = Ok form
unless_refused form (Some fault) = Err (Compile fault)

abbrev pub compiled_form : Result Form ScopeFault → Result Form BuildFault
compiled_form (Ok form) = unless_refused form (refusal_of form)
compiled_form (Err fault) = Err (Scope fault)

abbrev pub scoped_form : Result (List Node) ParseFault → Result Form BuildFault
scoped_form (Ok forms) = compiled_form (source_walk (collected forms))
scoped_form (Err fault) = Err (Parse fault)

-- a text's program, or its first refusal
unfoldable pub program_of : List ℕ → Result Form BuildFault
program_of text = scoped_form (text_forms text)

abbrev pub ComesTo : List ℕ → Result Form BuildFault → Type 0
ComesTo text (Ok form) = IsBuiltFrom text form
ComesTo text (Err fault) = IsNoProgram text fault

-- the walks find each text's program or first refusal
abbrev pub WalksAreExact : Type 0
WalksAreExact = (text : List ℕ) → ComesTo text (program_of text)
