-- The walks over a text find its program or its first refusal.
use Rattle.std.proofs.Common.{◌≡◌, ◌∙◌, ℕ, ◌≤◌, Bool, true, false, if◌then◌else◌, nat_lt, Option, Some, None, Result, Ok, Err, List, length, map, ap, sym, refl}
use Rattle.std.proofs.lemmas.Bool.{ltb-true, ltb-false}
use Rattle.ccp_base.specs.Limits.{most_text_bytes}
use Rattle.ccp_base.specs.declared.place.Place.{Place}
use Rattle.portus_core.specs.Programs.{Form}
use Rattle.portus_core.specs.Trees.{Node, Nodes, collected}
use Rattle.portus_lexer.specs.declared.token.Token.{Token}
use Rattle.portus_lexer.specs.declared.within.Within.TheVariants.{Gap}
use Rattle.portus_lexer.specs.Places.{first_place}
use Rattle.portus_lexer.specs.Scanning.{scan}
use Rattle.portus_lexer.proofs.StrayScans.{stray_of-Err}
use Rattle.portus_parser.specs.declared.fault.ParseFault.{ParseFault}
use Rattle.portus_parser.specs.declared.fault.ParseFault.TheVariants.{SourceTooLong, NotText, Unexpected, BadNumeral, BadName, Nesting, Unclosed, NoMemory}
use Rattle.portus_parser.specs.Readings.{read_lexemes, unread, lexeme_in}
use Rattle.portus_parser.specs.Refusals as parsing
use Rattle.portus_parser.specs.Spelling.{Spells}
use Rattle.portus_parser.proofs.Exact.{Spells-tokens, RefusesLexemes-tokens}
use Rattle.portus_parser.proofs.FirstFaults.{fault_read, fault_read-unread}
use Rattle.portus_parser.proofs.Lexical.{is_lexical, lexical_if, lexical-refusal_of}
use Rattle.scope_types.specs.declared.fault.ScopeFault.{ScopeFault}
use Rattle.scope_types.specs.ProgramWalk.{source_walk}
use Rattle.scope_types.specs.WellScoped.{IsScoped}
use Rattle.scope_types.proofs.Agreement.{scoped_from}
use Rattle.reg_compiler.specs.declared.fault.CompileFault.{CompileFault}
use Rattle.reg_compiler.specs.Refusal.{refusal_of}
use Rattle.portus_build.specs.TextWalk.{forms_in, text_forms, unless_refused, compiled_form, scoped_form, program_of, WalksAreExact, ComesTo}

-- what the reading of a text ends with: the forms that it spells, or its first refusal
abbrev EndsAs : List ℕ → Result (List Node) ParseFault → Type 0
EndsAs text (Ok forms) = Spells text (collected forms)
EndsAs text (Err fault) = parsing.IsRefused text fault

-- ---- reading

lexical : (text : List ℕ) (fault : ParseFault) → parsing.RefusesLexemes text fault → is_lexical fault ≡ true → parsing.IsRefused text fault
lexical text SourceTooLong h is = absurd (cc)
lexical text (NotText place) h is = absurd (cc)
lexical text (Unexpected place) h is = h
lexical text (BadNumeral place) h is = h
lexical text (BadName place) h is = h
lexical text (Nesting place) h is = h
lexical text (Unclosed place) h is = h
lexical text (NoMemory _) h is = absurd (cc)

read_ends : (text : List ℕ) (tokens : List Token) → length text ≤ most_text_bytes → scan Gap first_place 0 text ≡ Ok tokens
    → (end : Result (List Node) ParseFault) → read_lexemes unread (map (lexeme_in text) tokens) ≡ end → EndsAs text end
read_ends text tokens short scanned (Ok forms) is = Spells-tokens text tokens forms short scanned is
read_ends text tokens short scanned (Err fault) is =
    let lexemes = map (lexeme_in text) tokens in
    let first : parsing.refusal_of lexemes ≡ Some fault = sym (fault_read-unread lexemes) ∙ ap fault_read is in
    lexical text fault (RefusesLexemes-tokens text tokens fault short scanned first) (sym (ap lexical_if first) ∙ lexical-refusal_of lexemes)

scan_ends : (text : List ℕ) → length text ≤ most_text_bytes → (scanned : Result (List Token) Place) → scan Gap first_place 0 text ≡ scanned
    → EndsAs text (forms_in text scanned)
scan_ends text short (Ok tokens) is = read_ends text tokens short is (read_lexemes unread (map (lexeme_in text) tokens)) refl
scan_ends text short (Err place) is = (short, stray_of-Err text place is)

text_ends : (text : List ℕ) (long : Bool) → nat_lt most_text_bytes (length text) ≡ long
    → EndsAs text (if long then Err SourceTooLong else forms_in text (scan Gap first_place 0 text))
text_ends text true is = ltb-true most_text_bytes (length text) is
text_ends text false is = scan_ends text (ltb-false most_text_bytes (length text) is) (scan Gap first_place 0 text) refl

-- ---- scoping and compiling

form_comes : (text : List ℕ) (forms : Nodes) (form : Form) → Spells text forms → IsScoped forms form
    → (refusal : Option CompileFault) → refusal_of form ≡ refusal → ComesTo text (unless_refused form refusal)
form_comes text forms form spelled scoped None is =
    record { program = record { forms = forms; spelled = spelled; scoped = scoped }; compiled = is }
form_comes text forms form spelled scoped (Some fault) is =
    record { form = form; program = record { forms = forms; spelled = spelled; scoped = scoped }; refused = is }

forms_come : (text : List ℕ) (forms : Nodes) → Spells text forms → (walk : Result Form ScopeFault) → source_walk forms ≡ walk
    → ComesTo text (compiled_form walk)
forms_come text forms spelled (Ok form) is = form_comes text forms form spelled (scoped_from forms form is) (refusal_of form) refl
forms_come text forms spelled (Err fault) is = record { forms = forms; spelled = spelled; refused = is }

text_comes : (text : List ℕ) (end : Result (List Node) ParseFault) → EndsAs text end → ComesTo text (scoped_form end)
text_comes text (Ok forms) spelled = forms_come text (collected forms) spelled (source_walk (collected forms)) refl
text_comes text (Err fault) refused = refused

-- the walks find each text's program or first refusal
pub walks_exact : WalksAreExact
unfolding program_of
walks_exact text = text_comes text (text_forms text) (text_ends text (nat_lt most_text_bytes (length text)) refl)
