-- Each name of the table of primitives is found at its number, and has bytes of names alone.
use Rattle.std.proofs.Common.{◌≡◌, ℕ, zero, suc, ◌+◌, ◌<◌, Bool, true, false, ◌&&◌, ◌||◌, ◌==◌, leb, Option, Some, None, List, [], ◌∷◌, length, map, slice_index_or, refl, ap, subst, arith}
use Rattle.std.specs.List.{list_all}
use Rattle.std.specs.Option.{option_map_or}
use Rattle.std.proofs.lemmas.Bool.{and_parts, eqb-true}
use Rattle.ccp_base.specs.Limits.{primitive_count}
use Rattle.ccp_base.specs.PrimitiveNames.{PrimitiveName, primitive_names, value_named}
use Rattle.fold_run.specs.Items.{primitive_word}

-- a byte of a name: a small letter, or a low line
abbrev pub is_name_byte : ℕ → Bool
is_name_byte byte = (leb 97 byte && leb byte 122) || (byte == 95)

-- a name is found at its number
pub record IsNamed (number : ℕ) (name : List ℕ) : Type 0 where
  pub found : value_named name ≡ Some number
  pub bytes : list_all is_name_byte name ≡ true

-- ---- tested over the table

abbrev is_at : ℕ → Option ℕ → Bool
is_at number found = option_map_or (λ n. n == number) found false

abbrev are_named : ℕ → List PrimitiveName → Bool
are_named number [] = true
are_named number (known ∷ rest) =
    (is_at number (value_named known.1) && list_all is_name_byte known.1) && are_named (number + 1) rest

found_at : (number : ℕ) (found : Option ℕ) → is_at number found ≡ true → found ≡ Some number
found_at number None is = cc
found_at number (Some n) is = ap (λ k. Some k) (eqb-true n number is)

-- ---- for each name

-- each name of a table that begins with this number
pub record AreNamed (number : ℕ) (names : List PrimitiveName) : Type 0 where
  pub each : are_named number names ≡ true

pub all_named : AreNamed 0 primitive_names
all_named = record { each = refl }

module _ {number : ℕ} {known : PrimitiveName} {rest : List PrimitiveName} (are : AreNamed number (known ∷ rest)) where
  pub first_named : IsNamed number known.1
  first_named =
      let both = (and_parts (is_at number (value_named known.1) && list_all is_name_byte known.1) (are_named (number + 1) rest) are.each).0 in
      let parts = and_parts (is_at number (value_named known.1)) (list_all is_name_byte known.1) both in
      record { found = found_at number (value_named known.1) parts.0; bytes = parts.1 }

  pub rest_named : AreNamed (number + 1) rest
  rest_named = record { each = (and_parts (is_at number (value_named known.1) && list_all is_name_byte known.1) (are_named (number + 1) rest) are.each).1 }

named_from : (number : ℕ) (names : List PrimitiveName) → AreNamed number names → (n : ℕ) → n < length names
    → IsNamed (number + n) (slice_index_or (map (λ known. known.1) names) n [])
named_from number [] are n below = absurd (omega (arith, below))
named_from number (known ∷ rest) are zero below =
    subst (λ (k : ℕ). IsNamed k known.1) (omega arith) (first_named are)
named_from number (known ∷ rest) are (suc n) below =
    subst (λ (k : ℕ). IsNamed k (slice_index_or (map (λ known. known.1) rest) n [])) (omega arith)
    (named_from (number + 1) rest (rest_named are) n (omega (arith, below)))

pub word_named : (n : ℕ) → n < primitive_count → IsNamed n (primitive_word n)
word_named n below =
    let whole : 0 + n ≡ n = omega arith in
    subst (λ (k : ℕ). IsNamed k (primitive_word n)) whole (named_from 0 primitive_names all_named n below)
