-- A byte that is allowed outside comments belongs to an atom, or is a space, a parenthesis or `#`.
use Rattle.std.specs.Prelude.{◌≡◌, ℕ, Bool, true, false, ◌||◌, ◌==◌}
use Rattle.std.proofs.Common.{arith, inl, inr, subst, sym}
use Rattle.std.proofs.lemmas.Bool.Decides.{nat_tests}
use Rattle.std.proofs.lemmas.Bool.{eqb-true, or_cases}
use Rattle.portus_lexer.specs.Bytes.{is_allowed, is_atom_byte}
use Rattle.portus_lexer.specs.Lexemes.{is_space}

-- an allowed byte that belongs to no atom
pub data Mark : ℕ → Type 0 where
  space : Mark 32
  tab : Mark 9
  carriage_return : Mark 13
  line_feed : Mark 10
  opening : Mark 40
  closing : Mark 41
  hash : Mark 35

pub is_allowed-atom_byte : (b : ℕ) → is_atom_byte b ≡ true → is_allowed b ≡ true
is_allowed-atom_byte b h = grind (arith, nat_tests)

either : (b x : ℕ) (test : Bool) → Mark x → (test ≡ true → Mark b) → (test || b == x) ≡ true → Mark b
either b x test at_x before h = elim (or_cases test (b == x) h) [ inl e ↦ before e | inr e ↦ subst Mark (sym (eqb-true b x e)) at_x ]

only : (b x : ℕ) → Mark x → (b == x) ≡ true → Mark b
only b x at_x h = subst Mark (sym (eqb-true b x h)) at_x

pub Mark-space : (b : ℕ) → is_space b ≡ true → Mark b
Mark-space b =
    either b 10 (b == 32 || b == 9 || b == 13) line_feed
    (either b 13 (b == 32 || b == 9) carriage_return (either b 9 (b == 32) tab (only b 32 space)))

pub is_marked : (b : ℕ) → is_allowed b ≡ true → is_atom_byte b ≡ false → (is_space b || b == 40 || b == 41 || b == 35) ≡ true
is_marked b allowed other = grind (arith, nat_tests)

pub Mark-allowed : (b : ℕ) → is_allowed b ≡ true → is_atom_byte b ≡ false → Mark b
Mark-allowed b allowed other =
    either b 35 (is_space b || b == 40 || b == 41) hash
    (either b 41 (is_space b || b == 40) closing (either b 40 (is_space b) opening (Mark-space b)))
    (is_marked b allowed other)
