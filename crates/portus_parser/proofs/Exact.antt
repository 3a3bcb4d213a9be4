-- What a reading ends with is what the text spells or its first refusal, of which each text has one.
use Rattle.std.specs.Prelude.{◌≡◌, ℕ, ◌<◌, ◌≤◌, true, Some, None, ◌⊎◌, Result, Ok, Err, IfOk, IfErr, List, [], length, map}
use Rattle.std.proofs.Common.{arith, refl, ap, sym, ◌∙◌, subst, append-nil, inl, inr}
use Rattle.std.proofs.lemmas.Bool.{cases_lt}
use Rattle.ccp_base.specs.Outside.{no_memory}
use Rattle.ccp_base.specs.declared.place.Place.{Place}
use Rattle.portus_core.specs.declared.tree.Source.{Source}
use Rattle.portus_core.specs.Trees.{Node, Nodes, node_of, collected}
use Rattle.portus_lexer.specs.declared.token.Token.{Token}
use Rattle.portus_lexer.specs.declared.within.Within.TheVariants.{Gap}
use Rattle.portus_lexer.specs.Places.{first_place}
use Rattle.portus_lexer.specs.declared.token.LexFault.{LexFault}
use Rattle.portus_lexer.specs.declared.token.LexFault.TheVariants as lex
use Rattle.portus_lexer.specs.Strays.{stray_of, HasCause}
use Rattle.portus_lexer.specs.Lexemes.{Lexeme, token_of, AreLexemesOf, AreTokens, ended}
use Rattle.portus_lexer.specs.Scanning.{scan}
use Rattle.portus_lexer.proofs.Uniqueness.{scan-lexemes}
use Rattle.portus_lexer.proofs.StrayScans.{stray_of-Ok, stray_of-Err}
use Rattle.portus_lexer.proofs.Laws.{AreTokens-from_scan}
use Rattle.portus_parser.specs.declared.fault.ParseFault.{ParseFault}
use Rattle.portus_parser.specs.declared.fault.ParseFault.TheVariants.{SourceTooLong, NotText, Unexpected, BadNumeral, BadName, Nesting, Unclosed, NoMemory}
use Rattle.portus_parser.specs.LexFaults.{lex_fault}
use Rattle.portus_parser.specs.Spelling.{Spells}
use Rattle.portus_parser.specs.Refusals.{refusal_of, RefusesLexemes, IsRefused}
use Rattle.portus_parser.specs.Readings.{read_lexemes, unread, lexeme_in, EndsReading}
use Rattle.portus_parser.specs.Outcomes.{RefusesAs, IsExact, IsSettled}
use Rattle.portus_parser.proofs.Joins.{lexemes-again, lexemes-unique}
use Rattle.portus_parser.proofs.Spelled.{listed, collected-listed, lexed}
use Rattle.portus_parser.proofs.Finishes.{SpellsParts-from_read}
use Rattle.portus_parser.proofs.FirstFaults.{fault_read, fault_read-unread}
use Rattle.portus_parser.proofs.Lexical.{is_lexical, lexical_if, lexical-refusal_of}

-- a text that spells forms has lexemes that are read as these forms
record ReadsForms (text : List ℕ) (forms : Nodes) : Type 0 where
  lexemes : List Lexeme
  divided : AreLexemesOf text lexemes
  reads : read_lexemes unread lexemes ≡ Ok (listed forms)

reads_forms : (text : List ℕ) (forms : Nodes) → Spells text forms → ReadsForms text forms
reads_forms text forms h =
    let l = lexed forms 0 first_place 0 (ended text) h.spelled in
    record {
      lexemes = l.lexemes;
      divided = l.divided;
      reads = ap (read_lexemes unread) (sym (append-nil l.lexemes)) ∙ l.reads [] [] [] refl;
    }

no_stray : (text : List ℕ) (lexemes : List Lexeme) → AreLexemesOf text lexemes → stray_of text ≡ None
no_stray text lexemes h = stray_of-Ok text (map token_of lexemes) (scan-lexemes text lexemes h)

reads_once : (text : List ℕ) (lexemes : List Lexeme) (forms : Nodes) → AreLexemesOf text lexemes → Spells text forms → read_lexemes unread lexemes ≡ Ok (listed forms)
reads_once text lexemes forms h spells =
    let r = reads_forms text forms spells in
    ap (read_lexemes unread) (lexemes-unique text lexemes r.lexemes h r.divided) ∙ r.reads

refuses_once : (text : List ℕ) (lexemes : List Lexeme) (fault : ParseFault) → AreLexemesOf text lexemes → RefusesLexemes text fault → fault_read (read_lexemes unread lexemes) ≡ Some fault
refuses_once text lexemes fault h refuses =
    fault_read-unread lexemes ∙ ap refusal_of (lexemes-unique text lexemes refuses.lexemes h refuses.divided) ∙ refuses.first

-- a text spells one list of forms
forms-unique : (text : List ℕ) (left right : Nodes) → Spells text left → Spells text right → left ≡ right
forms-unique text left right h k =
    let r = reads_forms text left h in
    let other = reads_once text r.lexemes right r.divided k in
    let same : Ok (listed left) ≡ Ok (listed right) = sym r.reads ∙ other in
    let lists : listed left ≡ listed right = cc in
    sym (collected-listed left) ∙ ap collected lists ∙ collected-listed right

-- out of memory says nothing
pub exact-memory : (text : List ℕ) → IsExact text (Err (NoMemory no_memory))
exact-memory text = record {
  found = tt;
  only = λ forms h. refl;
  refused = λ other. absurd (other refl);
  first = λ refusal h. inr refl;
}

first-long : (text : List ℕ) → 65536 < length text → (refusal : ParseFault) → IsRefused text refusal → RefusesAs (Err SourceTooLong) refusal
first-long text long SourceTooLong h = inl refl
first-long text long (NotText place) h = absurd (omega (arith, h.0))
first-long text long (Unexpected place) h = absurd (omega (arith, h.short))
first-long text long (BadNumeral place) h = absurd (omega (arith, h.short))
first-long text long (BadName place) h = absurd (omega (arith, h.short))
first-long text long (Nesting place) h = absurd (omega (arith, h.short))
first-long text long (Unclosed place) h = absurd (omega (arith, h.short))
first-long text long (NoMemory _) h = absurd h

strayed : {X : Type 0} (text : List ℕ) (place : Place) (lexemes : List Lexeme) → stray_of text ≡ Some place → AreLexemesOf text lexemes → X
strayed text place lexemes h k = let none = no_stray text lexemes k in absurd (cc)

first-stray : (text : List ℕ) (place : Place) → length text ≤ 65536 → stray_of text ≡ Some place → (refusal : ParseFault) → IsRefused text refusal → RefusesAs (Err (NotText place)) refusal
first-stray text place short stray SourceTooLong h = absurd (omega (arith, h))
first-stray text place short stray (NotText other) h = let same = h.1 in inl (cc)
first-stray text place short stray (Unexpected other) h = strayed text place h.lexemes stray h.divided
first-stray text place short stray (BadNumeral other) h = strayed text place h.lexemes stray h.divided
first-stray text place short stray (BadName other) h = strayed text place h.lexemes stray h.divided
first-stray text place short stray (Nesting other) h = strayed text place h.lexemes stray h.divided
first-stray text place short stray (Unclosed other) h = strayed text place h.lexemes stray h.divided
first-stray text place short stray (NoMemory _) h = absurd h

pub exact-stray : (text : List ℕ) (place : Place) → length text ≤ 65536 → stray_of text ≡ Some place → IsExact text (Err (NotText place))
exact-stray text place short stray = record {
  found = tt;
  only = λ forms h. let r = reads_forms text forms h in strayed text place r.lexemes stray r.divided;
  refused = λ other. (short, stray);
  first = first-stray text place short stray;
}

-- what a text of its length that has lexemes is refused by
first-lexical : (text : List ℕ) (lexemes : List Lexeme) → length text ≤ 65536 → AreLexemesOf text lexemes → (refusal : ParseFault) → IsRefused text refusal → fault_read (read_lexemes unread lexemes) ≡ Some refusal
first-lexical text lexemes short h SourceTooLong k = absurd (omega (arith, k))
first-lexical text lexemes short h (NotText place) k = strayed text place lexemes k.1 h
first-lexical text lexemes short h (Unexpected place) k = refuses_once text lexemes (Unexpected place) h k
first-lexical text lexemes short h (BadNumeral place) k = refuses_once text lexemes (BadNumeral place) h k
first-lexical text lexemes short h (BadName place) k = refuses_once text lexemes (BadName place) h k
first-lexical text lexemes short h (Nesting place) k = refuses_once text lexemes (Nesting place) h k
first-lexical text lexemes short h (Unclosed place) k = refuses_once text lexemes (Unclosed place) h k
first-lexical text lexemes short h (NoMemory _) k = absurd k

exact-found : (text : List ℕ) (lexemes : List Lexeme) (source : Source) → length text ≤ 65536 → AreLexemesOf text lexemes → read_lexemes unread lexemes ≡ Ok (map node_of source.forms.items) → IsExact text (Ok source)
exact-found text lexemes source short h k = record {
  found = record { short = short; spelled = SpellsParts-from_read lexemes first_place 0 (ended text) (map node_of source.forms.items) h k };
  only = λ forms spells.
      let other = reads_once text lexemes forms h spells in
      let same : map node_of source.forms.items ≡ listed forms = cc in
      ap collected same ∙ collected-listed forms;
  refused = tt;
  first = λ refusal refused. let first = first-lexical text lexemes short h refusal refused in let none = ap fault_read k in absurd (cc);
}

is_refused : (text : List ℕ) (lexemes : List Lexeme) → length text ≤ 65536 → AreLexemesOf text lexemes → (fault : ParseFault) → refusal_of lexemes ≡ Some fault → is_lexical fault ≡ true → IsRefused text fault
is_refused text lexemes short h SourceTooLong e lexical = absurd (cc)
is_refused text lexemes short h (NotText place) e lexical = absurd (cc)
is_refused text lexemes short h (Unexpected place) e lexical = record { short = short; lexemes = lexemes; divided = h; first = e }
is_refused text lexemes short h (BadNumeral place) e lexical = record { short = short; lexemes = lexemes; divided = h; first = e }
is_refused text lexemes short h (BadName place) e lexical = record { short = short; lexemes = lexemes; divided = h; first = e }
is_refused text lexemes short h (Nesting place) e lexical = record { short = short; lexemes = lexemes; divided = h; first = e }
is_refused text lexemes short h (Unclosed place) e lexical = record { short = short; lexemes = lexemes; divided = h; first = e }
is_refused text lexemes short h (NoMemory _) e lexical = absurd (cc)

exact-refused : (text : List ℕ) (lexemes : List Lexeme) (fault : ParseFault) → length text ≤ 65536 → AreLexemesOf text lexemes → read_lexemes unread lexemes ≡ Err fault → IsExact text (Err fault)
exact-refused text lexemes fault short h k =
    let is : refusal_of lexemes ≡ Some fault = sym (fault_read-unread lexemes) ∙ ap fault_read k in
    let lexical : is_lexical fault ≡ true = sym (ap lexical_if is) ∙ lexical-refusal_of lexemes in
    record {
      found = tt;
      only = λ forms spells. let other = reads_once text lexemes forms h spells in absurd (cc);
      refused = λ other. is_refused text lexemes short h fault is lexical;
      first = λ refusal refused.
          let first = first-lexical text lexemes short h refusal refused in
          let this = ap fault_read k in
          let same : fault ≡ refusal = cc in
          inl same;
    }

exact-ended : (text : List ℕ) (lexemes : List Lexeme) (outcome : Result Source ParseFault) → length text ≤ 65536 → AreLexemesOf text lexemes → IfOk outcome (λ source. read_lexemes unread lexemes ≡ Ok (map node_of source.forms.items)) → IfErr outcome (EndsReading (read_lexemes unread lexemes)) → IsExact text outcome
exact-ended text lexemes (Ok source) short h k e = exact-found text lexemes source short h k
exact-ended text lexemes (Err (NoMemory _)) short h k e = exact-memory text
exact-ended text lexemes (Err SourceTooLong) short h k e = exact-refused text lexemes SourceTooLong short h e
exact-ended text lexemes (Err (NotText place)) short h k e = exact-refused text lexemes (NotText place) short h e
exact-ended text lexemes (Err (Unexpected place)) short h k e = exact-refused text lexemes (Unexpected place) short h e
exact-ended text lexemes (Err (BadNumeral place)) short h k e = exact-refused text lexemes (BadNumeral place) short h e
exact-ended text lexemes (Err (BadName place)) short h k e = exact-refused text lexemes (BadName place) short h e
exact-ended text lexemes (Err (Nesting place)) short h k e = exact-refused text lexemes (Nesting place) short h e
exact-ended text lexemes (Err (Unclosed place)) short h k e = exact-refused text lexemes (Unclosed place) short h e

-- what a reading of a text's tokens ends with is exact
pub exact-read : (text : List ℕ) (tokens : List Token) (outcome : Result Source ParseFault) → length text ≤ 65536 → AreTokens text tokens → IfOk outcome (λ source. read_lexemes unread (map (lexeme_in text) tokens) ≡ Ok (map node_of source.forms.items)) → IfErr outcome (EndsReading (read_lexemes unread (map (lexeme_in text) tokens))) → IsExact text outcome
exact-read text tokens outcome short are k e =
    let again = lexemes-again text tokens are in
    exact-ended text are.lexemes outcome short are.divided
    (subst (λ (ls : List Lexeme). IfOk outcome (λ source. read_lexemes unread ls ≡ Ok (map node_of source.forms.items))) again k)
    (subst (λ (ls : List Lexeme). IfErr outcome (EndsReading (read_lexemes unread ls))) again e)

-- a text that has no tokens
pub exact-tokens : (text : List ℕ) (fault : LexFault) (refusal : ParseFault) → length text ≤ 65536 → HasCause text fault → refusal ≡ lex_fault fault → IsExact text (Err refusal)
exact-tokens text (lex.NotText place) refusal short h e = subst (λ (f : ParseFault). IsExact text (Err f)) (sym e) (exact-stray text place short h)
exact-tokens text (lex.NoMemory _) refusal short h e = subst (λ (f : ParseFault). IsExact text (Err f)) (sym e) (exact-memory text)

-- a refusal of lexemes is the text's first one
first-refused : (text : List ℕ) (refusal other : ParseFault) → RefusesLexemes text refusal → IsRefused text other → refusal ≡ other
first-refused text refusal other h k =
    let this = refuses_once text h.lexemes refusal h.divided h in
    let that = first-lexical text h.lexemes h.short h.divided other k in
    cc

unless : (fault other : ParseFault) → (fault ≡ NoMemory no_memory → ⊥) → RefusesAs (Err fault) other → fault ≡ other
unless fault other never h = elim h [ inl e ↦ e | inr e ↦ absurd (never e) ]

refusal-unique : (text : List ℕ) (left right : ParseFault) → IsRefused text left → IsRefused text right → left ≡ right
refusal-unique text SourceTooLong right h k = unless SourceTooLong right (λ e. cc) (first-long text h right k)
refusal-unique text (NotText place) right h k = unless (NotText place) right (λ e. cc) (first-stray text place h.0 h.1 right k)
refusal-unique text (Unexpected place) right h k = first-refused text (Unexpected place) right h k
refusal-unique text (BadNumeral place) right h k = first-refused text (BadNumeral place) right h k
refusal-unique text (BadName place) right h k = first-refused text (BadName place) right h k
refusal-unique text (Nesting place) right h k = first-refused text (Nesting place) right h k
refusal-unique text (Unclosed place) right h k = first-refused text (Unclosed place) right h k
refusal-unique text (NoMemory _) right h k = absurd h

spells-apart : (text : List ℕ) (forms : Nodes) (refusal : ParseFault) → Spells text forms → IsRefused text refusal → ⊥
spells-apart text forms refusal h k =
    let r = reads_forms text forms h in
    let first = first-lexical text r.lexemes h.short r.divided refusal k in
    let none = ap fault_read r.reads in
    cc

abbrev Settled : List ℕ → Type 0
Settled text = ((forms : Nodes) × Spells text forms) ⊎ ((refusal : ParseFault) × IsRefused text refusal)

settled_read : (text : List ℕ) (lexemes : List Lexeme) (outcome : Result (List Node) ParseFault) → length text ≤ 65536 → AreLexemesOf text lexemes → read_lexemes unread lexemes ≡ outcome → Settled text
settled_read text lexemes (Ok forms) short h e = inl (collected forms, record { short = short; spelled = SpellsParts-from_read lexemes first_place 0 (ended text) forms h e })
settled_read text lexemes (Err fault) short h e =
    let is : refusal_of lexemes ≡ Some fault = sym (fault_read-unread lexemes) ∙ ap fault_read e in
    inr (fault, is_refused text lexemes short h fault is (sym (ap lexical_if is) ∙ lexical-refusal_of lexemes))

settled_scan : (text : List ℕ) (outcome : Result (List Token) Place) → length text ≤ 65536 → scan Gap first_place 0 text ≡ outcome → Settled text
settled_scan text (Ok tokens) short e =
    let are = AreTokens-from_scan text tokens e in
    settled_read text are.lexemes (read_lexemes unread are.lexemes) short are.divided refl
settled_scan text (Err place) short e = inr (NotText place, (short, stray_of-Err text place e))

settled : (text : List ℕ) → Settled text
settled text = elim (cases_lt 65536 (length text)) [
  | inl long ↦ inr (SourceTooLong, long)
  | inr short ↦ settled_scan text (scan Gap first_place 0 text) short refl
]

pub IsSettled-always : (text : List ℕ) → IsSettled text
IsSettled-always text = record {
  one = forms-unique text;
  one_refusal = refusal-unique text;
  apart = spells-apart text;
  some = settled text;
}

-- what a text spells, and what it is refused by, from its tokens
pub Spells-tokens : (text : List ℕ) (tokens : List Token) (forms : List Node) → length text ≤ 65536 → scan Gap first_place 0 text ≡ Ok tokens → read_lexemes unread (map (lexeme_in text) tokens) ≡ Ok forms → Spells text (collected forms)
Spells-tokens text tokens forms short e k =
    let are = AreTokens-from_scan text tokens e in
    record { short = short; spelled = SpellsParts-from_read are.lexemes first_place 0 (ended text) forms are.divided (sym (ap (read_lexemes unread) (lexemes-again text tokens are)) ∙ k) }

pub RefusesLexemes-tokens : (text : List ℕ) (tokens : List Token) (fault : ParseFault) → length text ≤ 65536 → scan Gap first_place 0 text ≡ Ok tokens → refusal_of (map (lexeme_in text) tokens) ≡ Some fault → RefusesLexemes text fault
RefusesLexemes-tokens text tokens fault short e k =
    let are = AreTokens-from_scan text tokens e in
    record { short = short; lexemes = are.lexemes; divided = are.divided; first = sym (ap refusal_of (lexemes-again text tokens are)) ∙ k }
