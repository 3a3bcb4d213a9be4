-- What the tokens of a text are.
use Rattle.std.specs.Prelude.{◌≡◌, ℕ, ◌+◌, ◌<◌, ◌≤◌, Bool, true, false, not, ◌&&◌, ◌||◌, ◌==◌, IsTrue, if◌then◌else◌, List, [], ◌∷◌, ◌++◌, length, map, slice_range}
use Rattle.std.specs.List.{list_all, All}
use Rattle.ccp_base.specs.declared.place.Place.{Place}
use Rattle.portus_lexer.specs.declared.token.Token.{Token}
use Rattle.portus_lexer.specs.Bytes.{is_atom_byte}
use Rattle.portus_lexer.specs.Places.{first_place, place_after}

-- a space, tab, CR or LF
abbrev pub is_space : ℕ → Bool
is_space b = b == 32 || b == 9 || b == 13 || b == 10

-- whether bytes that begin in a comment or not are spaces, tabs, CR, LF and whole comments: `#` begins one, LF ends it
abbrev pub is_blank : Bool → List ℕ → Bool
is_blank commented [] = not commented
is_blank true (b ∷ rest) = is_blank (not (b == 10)) rest
is_blank false (b ∷ rest) = if b == 35 then is_blank true rest else is_space b && is_blank false rest

abbrev pub is_parenthesis : List ℕ → Bool
is_parenthesis [] = false
is_parenthesis (b ∷ []) = b == 40 || b == 41
is_parenthesis (b ∷ c ∷ rest) = false

abbrev pub is_atom : List ℕ → Bool
is_atom [] = false
is_atom (b ∷ rest) = is_atom_byte b && list_all is_atom_byte rest

-- whether an atom ends before these bytes
abbrev pub ends_atom : List ℕ → Bool
ends_atom [] = true
ends_atom (b ∷ rest) = not (is_atom_byte b)

-- a parenthesis, or an atom that is as long as it can be
abbrev pub is_lexeme : List ℕ → List ℕ → Bool
is_lexeme text others = is_parenthesis text || (is_atom text && ends_atom others)

-- a parenthesis or an atom: its place, the number of its first byte and its bytes
pub record Lexeme : Type 0 where
  pub place : Place
  pub start : ℕ
  pub text : List ℕ

abbrev pub token_of : Lexeme → Token
token_of lexeme = record { place = lexeme.place; start = lexeme.start; end = lexeme.start + length lexeme.text }

-- bytes begin with a blank text, or the rest of a comment and a blank text, and then this lexeme
pub record BeginsWithLexeme (commented : Bool) (at : Place) (number : ℕ) (bytes : List ℕ)
    (lexeme : Lexeme) : Type 0 where
  pub gap : List ℕ
  pub others : List ℕ
  pub whole : bytes ≡ gap ++ (lexeme.text ++ others)
  pub blank : IsTrue (is_blank commented gap)
  pub found : IsTrue (is_lexeme lexeme.text others)
  pub place : lexeme.place ≡ place_after at gap
  pub start : lexeme.start ≡ number + length gap

-- these are the lexemes of bytes that stand at this place and have this number
abbrev pub AreLexemes : Bool → Place → ℕ → List ℕ → List Lexeme → Type 0
AreLexemes commented at number bytes [] = IsTrue (is_blank commented bytes)
AreLexemes commented at number bytes (lexeme ∷ rest) =
    (begins : BeginsWithLexeme commented at number bytes lexeme)
    × AreLexemes false (place_after lexeme.place lexeme.text) (lexeme.start + length lexeme.text) begins.others rest

-- a text with LF at its end, so that each comment ends before a LF
abbrev pub ended : List ℕ → List ℕ
ended text = text ++ 10 ∷ []

abbrev pub AreLexemesOf : List ℕ → List Lexeme → Type 0
AreLexemesOf text lexemes = AreLexemes false first_place 0 (ended text) lexemes

-- a token's bytes
abbrev pub slice_of : List ℕ → Token → List ℕ
slice_of text token = slice_range text token.start token.end

abbrev pub lexeme_text : Lexeme → List ℕ
lexeme_text lexeme = lexeme.text

-- a token's span is within the text, and isn't empty
abbrev pub IsSpan : List ℕ → Token → Type 0
IsSpan text token = (token.start < token.end) × (token.end ≤ length text)

-- the tokens of a text: each has a lexeme's place and span, and its slice of the text is the lexeme
pub record AreTokens (text : List ℕ) (tokens : List Token) : Type 0 where
  pub lexemes : List Lexeme
  pub divided : AreLexemesOf text lexemes
  pub same : tokens ≡ map token_of lexemes
  pub spans : All (IsSpan text) tokens
  pub slices : map (slice_of text) tokens ≡ map lexeme_text lexemes
