-- What the first word of a text gives, by its name and its equals sign.
use Rattle.std.proofs.Common.{◌≡◌, ℕ, ◌+◌, ◌<◌, true, false, Some, None, List, [], ◌∷◌, ◌++◌, length, take, drop, ap, ap₂, sym, subst, ◌∙◌, arith, cond}
use Rattle.std.specs.List.{list_all}
use Rattle.std.proofs.Math.Seq.{take-append_seam, drop-append-add}
use Rattle.std.proofs.lemmas.Bool.{and_parts}
use Rattle.std.proofs.lemmas.Bool.Decides.{nat_tests}
use Rattle.ccp_base.specs.declared.parts.Separator.TheVariants.{Blank}
use Rattle.ccp_base.specs.Limits.{primitive_count}
use Rattle.ccp_base.specs.Numerals.{numeral_of}
use Rattle.ccp_base.specs.Parts.{separates}
use Rattle.ccp_base.specs.PrimitiveNames.{value_named}
use Rattle.fold_run.specs.AckLine.{with_line_value}
use Rattle.fold_run.specs.FirstPart.{first_of, after_separator, equals_from}
use Rattle.fold_run.specs.Items.{primitive_word, GivesNumeral}
use Rattle.fold_run.proofs.FirstWord.{is_equals, word-at, after-at}
use Rattle.fold_run.proofs.NameLemmas.{is_name_byte, word_named}

-- the bytes before the equals sign are the name of a primitive
pub gives-at : (text : List ℕ) (at n : ℕ) (rest : List ℕ) → equals_from 0 text ≡ Some at → value_named (take at text) ≡ Some n → drop (at + 1) text ≡ rest → GivesNumeral text n rest
gives-at text at n rest is known left = record {
  word = λ values. word-at values text at is ∙ ap₂ (λ name xs. with_line_value values name (numeral_of (first_of Blank xs))) known left;
  after = after-at text at is ∙ ap (after_separator Blank) left;
}

-- a name has no equals sign and no blank
not_equals : (byte : ℕ) → is_name_byte byte ≡ true → is_equals byte ≡ false
not_equals byte is = grind (arith, nat_tests)

not_blank : (byte : ℕ) → is_name_byte byte ≡ true → separates Blank byte ≡ false
not_blank byte is = grind (arith, nat_tests)

equals_after : (at : ℕ) (name rest : List ℕ) → list_all is_name_byte name ≡ true → equals_from at (name ++ 61 ∷ rest) ≡ Some (at + length name)
equals_after at [] rest are = ap (λ n. Some n) (omega arith)
equals_after at (byte ∷ name) rest are =
    let parts = and_parts (is_name_byte byte) (list_all is_name_byte name) are in
    let later = equals_from (at + 1) (name ++ 61 ∷ rest) in
    ap (λ b. cond b (Some at) (cond (separates Blank byte) None later)) (not_equals byte parts.0)
    ∙ ap (λ b. cond b None later) (not_blank byte parts.0)
    ∙ equals_after (at + 1) name rest parts.1
    ∙ ap (λ n. Some n) (omega arith)

-- each name is found at its number
own : (n : ℕ) → n < primitive_count → (rest : List ℕ) → GivesNumeral (primitive_word n ++ 61 ∷ rest) n rest
own n below rest =
    let name : List ℕ = primitive_word n in
    let is = word_named n below in
    let whole : 0 + length name ≡ length name = omega arith in
    gives-at (name ++ 61 ∷ rest) (length name) n rest (equals_after 0 name rest is.bytes ∙ ap (λ k. Some k) whole)
    (ap value_named (take-append_seam name (61 ∷ rest)) ∙ is.found) (drop-append-add name (61 ∷ rest) 1)

-- a text that begins with a name and an equals sign
pub gives-named : (text : List ℕ) (n : ℕ) (rest : List ℕ) → n < primitive_count → text ≡ primitive_word n ++ 61 ∷ rest → GivesNumeral text n rest
gives-named text n rest below same = subst (λ (xs : List ℕ). GivesNumeral xs n rest) (sym same) (own n below rest)
