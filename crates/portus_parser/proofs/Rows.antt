-- Small texts with what they spell or are refused by, worked out by hand.
use Rattle.std.specs.Prelude.{ℕ, [], ◌∷◌, codes}
use Rattle.std.proofs.Common.{refl, lit≤}
use Rattle.ccp_base.specs.declared.place.Place.{Place}
use Rattle.portus_core.specs.Trees.{word, list, none, more}
use Rattle.portus_lexer.specs.declared.token.Token.{Token}
use Rattle.portus_parser.specs.declared.fault.ParseFault.TheVariants.{Unexpected, BadNumeral, Unclosed}
use Rattle.portus_parser.specs.Spelling.{Spells}
use Rattle.portus_parser.specs.Refusals.{IsRefused}
use Rattle.portus_parser.proofs.Exact.{Spells-tokens, RefusesLexemes-tokens}

abbrev at : ℕ → Place
at column = record { line = 1; column = column }

abbrev token : ℕ → ℕ → ℕ → Token
token column start end = record { place = at column; start = start; end = end }

unclosed : IsRefused (codes "(def") (Unclosed (at 1))
unclosed = RefusesLexemes-tokens (codes "(def") (token 1 0 1 ∷ token 2 1 4 ∷ []) (Unclosed (at 1)) (lit≤ tt) refl refl

unexpected : IsRefused (codes "(def) )") (Unexpected (at 7))
unexpected = RefusesLexemes-tokens (codes "(def) )") (token 1 0 1 ∷ token 2 1 4 ∷ token 5 4 5 ∷ token 7 6 7 ∷ []) (Unexpected (at 7)) (lit≤ tt) refl refl

too_large : IsRefused (codes "(def) (when true (:= x 18446744073709551616))") (BadNumeral (at 24))
too_large =
    RefusesLexemes-tokens (codes "(def) (when true (:= x 18446744073709551616))")
    (token 1 0 1 ∷ token 2 1 4 ∷ token 5 4 5 ∷ token 7 6 7 ∷ token 8 7 11 ∷ token 13 12 16 ∷ token 18 17 18 ∷ token 19 18 20 ∷ token 22 21 22 ∷ token 24 23 43 ∷ token 44 43 44 ∷ token 45 44 45 ∷ [])
    (BadNumeral (at 24)) (lit≤ tt) refl refl

comment : Spells (codes "(def) # x") (more (list (at 1) (more (word (at 2) (codes "def")) none)) none)
comment = Spells-tokens (codes "(def) # x") (token 1 0 1 ∷ token 2 1 4 ∷ token 5 4 5 ∷ []) (list (at 1) (more (word (at 2) (codes "def")) none) ∷ []) (lit≤ tt) refl refl
