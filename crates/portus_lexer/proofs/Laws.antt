-- A scan finds the one list of tokens that a text has, or the first byte that may not stand where it does.
use Rattle.std.specs.Prelude.{◌≡◌, ℕ, false, Ok, List, map}
use Rattle.std.proofs.Common.{[], refl, sym, ◌∙◌, subst}
use Rattle.portus_lexer.specs.declared.token.Token.{Token}
use Rattle.portus_lexer.specs.declared.within.Within.TheVariants.{Gap}
use Rattle.portus_lexer.specs.Places.{first_place}
use Rattle.portus_lexer.specs.Lexemes.{Lexeme, token_of, AreLexemesOf, AreTokens, ended}
use Rattle.portus_lexer.specs.declared.token.LexFault.{LexFault}
use Rattle.portus_lexer.specs.declared.token.LexFault.TheVariants.{NotText, NoMemory}
use Rattle.portus_lexer.specs.Strays.{HasCause}
use Rattle.portus_lexer.specs.Scanning.{scan, EndsScan}
use Rattle.portus_lexer.proofs.StrayScans.{stray_of-Ok, stray_of-Err}
use Rattle.portus_lexer.proofs.Scans.{sound}
use Rattle.portus_lexer.proofs.Uniqueness.{scan-lexemes}
use Rattle.portus_lexer.proofs.Slices.{slices, spans}

-- the lexemes of a text give its tokens
pub AreTokens-from_lexemes : (text : List ℕ) (lexemes : List Lexeme) → AreLexemesOf text lexemes → AreTokens text (map token_of lexemes)
AreTokens-from_lexemes text lexemes h = record {
  lexemes = lexemes;
  divided = h;
  same = refl;
  spans = spans lexemes false first_place 0 [] (ended text) text h refl refl;
  slices = slices lexemes false first_place 0 [] (ended text) text h refl refl;
}

-- a scan finds the tokens of a text
pub AreTokens-from_scan : (text : List ℕ) (tokens : List Token) → scan Gap first_place 0 text ≡ Ok tokens → AreTokens text tokens
AreTokens-from_scan text tokens h =
    let d = sound text Gap first_place 0 tokens h in
    subst (AreTokens text) (sym d.same) (AreTokens-from_lexemes text d.lexemes d.divided)

-- a text has one list of tokens
pub AreTokens-only : (text : List ℕ) (tokens others : List Token) → scan Gap first_place 0 text ≡ Ok tokens → AreTokens text others → others ≡ tokens
AreTokens-only text tokens others h are = let e = scan-lexemes text are.lexemes are.divided in let f : map token_of are.lexemes ≡ tokens = cc in are.same ∙ f

pub HasCause-from_scan : (text : List ℕ) (fault : LexFault) → EndsScan (scan Gap first_place 0 text) fault → HasCause text fault
HasCause-from_scan text (NotText place) h = stray_of-Err text place h
HasCause-from_scan text (NoMemory _) h = tt

pub ruleset exact = (AreTokens-from_scan, stray_of-Ok, HasCause-from_scan)
