-- The lexemes of bytes with one more byte or lexeme in front.
use Rattle.std.specs.Prelude.{◌≡◌, ℕ, ◌+◌, Bool, false, IsTrue, List, [], ◌∷◌, ◌++◌, length, map}
use Rattle.std.proofs.Common.{arith, refl, ap, ◌∙◌}
use Rattle.ccp_base.specs.declared.place.Place.{Place}
use Rattle.portus_lexer.specs.declared.token.Token.{Token}
use Rattle.portus_lexer.specs.Places.{place_past_byte, place_after}
use Rattle.portus_lexer.specs.Lexemes.{Lexeme, token_of, is_blank, is_lexeme, AreLexemes}

-- bytes have lexemes with these tokens
pub record Divides (commented : Bool) (at : Place) (number : ℕ) (bytes : List ℕ) (tokens : List Token) : Type 0 where
  pub lexemes : List Lexeme
  pub divided : AreLexemes commented at number bytes lexemes
  pub same : tokens ≡ map token_of lexemes

-- a byte that goes to the blank text in front
pub AreLexemes-byte : (commented next : Bool) (b : ℕ) (at : Place) (number : ℕ) (bytes : List ℕ) (lexemes : List Lexeme) → ((gap : List ℕ) → is_blank commented (b ∷ gap) ≡ is_blank next gap) → AreLexemes next (place_past_byte at b) (number + 1) bytes lexemes → AreLexemes commented at number (b ∷ bytes) lexemes
AreLexemes-byte commented next b at number bytes [] same h = same bytes ∙ h
AreLexemes-byte commented next b at number bytes (lexeme ∷ rest) same h =
    let begins = h.0 in (
      record {
        gap = b ∷ begins.gap;
        others = begins.others;
        whole = ap (λ xs. b ∷ xs) begins.whole;
        blank = same begins.gap ∙ begins.blank;
        found = begins.found;
        place = begins.place;
        start = omega (arith, begins.start);
      },
      h.1,
    )

pub Divides-byte : (commented next : Bool) (b : ℕ) (at : Place) (number : ℕ) (bytes : List ℕ) (tokens : List Token) → ((gap : List ℕ) → is_blank commented (b ∷ gap) ≡ is_blank next gap) → Divides next (place_past_byte at b) (number + 1) bytes tokens → Divides commented at number (b ∷ bytes) tokens
Divides-byte commented next b at number bytes tokens same h = record {
  lexemes = h.lexemes;
  divided = AreLexemes-byte commented next b at number bytes h.lexemes same h.divided;
  same = h.same;
}

-- a lexeme in front
pub Divides-lexeme : (at : Place) (number : ℕ) (text others : List ℕ) (tokens : List Token) → IsTrue (is_lexeme text others) → Divides false (place_after at text) (number + length text) others tokens → Divides false at number (text ++ others) (record { place = at; start = number; end = number + length text } ∷ tokens)
Divides-lexeme at number text others tokens found h = record {
  lexemes = record { place = at; start = number; text = text } ∷ h.lexemes;
  divided = (
    record {
      gap = [];
      others = others;
      whole = refl;
      blank = refl;
      found = found;
      place = refl;
      start = omega arith;
    },
    h.divided,
  );
  same = ap (λ ts. record { place = at; start = number; end = number + length text } ∷ ts) h.same;
}
