-- The first word of a text: the words after it, and its name and numeral.
use Rattle.std.proofs.Common.{◌≡◌, ◌≢◌, ℕ, zero, suc, ◌+◌, ◌<◌, ◌≤◌, Bool, true, false, not, nat_lt, Option, Some, None, option_map, List, [], ◌∷◌, length, take, drop, position, slice_index, refl, ap, sym, subst, ◌∙◌, ◌⊎◌, inl, inr, arith, cond, eqb, add-one}
use Rattle.std.proofs.lemmas.Bool.Decides.{nat_tests}
use Rattle.std.proofs.lemmas.Slice.Eq.{bytes_eq-Decides}
use Rattle.std.proofs.lemmas.Bool.{false_from_ne_true}
use Rattle.std.specs.Str.{bytes_eq}
use Rattle.std.specs.List.{position_or_len}
use Rattle.std.specs.Option.{option_and_then}
use Rattle.ccp_base.specs.Numerals.{numeral_of}
use Rattle.ccp_base.specs.declared.parts.Separator.{Separator}
use Rattle.ccp_base.specs.declared.parts.Separator.TheVariants.{Blank}
use Rattle.ccp_base.specs.Parts.{separates, parts_of}
use Rattle.ccp_base.specs.PrimitiveNames.{PrimitiveName, primitive_names, value_named}
use Rattle.fold_run.specs.declared.line_values.LineValues.{LineValues}
use Rattle.fold_run.specs.FirstPart.{first_of, after_separator, equals_from}
use Rattle.fold_run.specs.AckLine.{with_line_value, with_named_value, with_one_word, with_each_word}
use Rattle.fold_run.proofs.FirstLine.{parts-first}

-- the words after the first one
pub words_step : (values : LineValues) (text : List ℕ) → 0 < length text → with_each_word (Some values) (parts_of Blank text) ≡ with_each_word (with_one_word values (first_of Blank text)) (parts_of Blank (after_separator Blank text))
words_step values text some = ap (with_each_word (Some values)) (parts-first Blank text some)

pub after_shorter : (s : Separator) (text : List ℕ) → 0 < length text → length (after_separator s text) < length text
after_shorter s [] some = absurd (omega arith)
after_shorter s (byte ∷ []) some = elim (separates s byte) as (λ b. length {A = ℕ} (cond b [] []) < 1) [ true ↦ omega arith | false ↦ omega arith ]
after_shorter s (byte ∷ x ∷ rest) some =
    let later = after_shorter s (x ∷ rest) (omega arith) in
    elim (separates s byte) as (λ b. length (cond b (x ∷ rest) (after_separator s (x ∷ rest))) < length (byte ∷ x ∷ rest)) [ true ↦ omega arith | false ↦ omega (arith, later) ]

-- the test that finds the equals sign
abbrev pub is_equals : ℕ → Bool
is_equals byte = eqb byte 61

-- a search for the first item that passes, past one item
module _ {X : Type 0} (p : X → Bool) (x : X) (xs : List X) where
  pub here : p x ≡ true → position p (x ∷ xs) ≡ Some 0
  here is =
      let first : position_or_len p (x ∷ xs) ≡ 0 = ap (λ b. cond (not b) (1 + position_or_len p xs) 0) is in
      let test : nat_lt (position_or_len p (x ∷ xs)) (length (x ∷ xs)) ≡ true = grind (arith, nat_tests, first) in
      ap (λ b. cond b (Some (position_or_len p (x ∷ xs))) None) test ∙ ap (λ n. Some n) first

  pub past : p x ≡ false → position p (x ∷ xs) ≡ option_map (λ n. 1 + n) (position p xs)
  past is =
      let first : position_or_len p (x ∷ xs) ≡ 1 + position_or_len p xs = ap (λ b. cond (not b) (1 + position_or_len p xs) 0) is in
      go first (nat_lt (position_or_len p xs) (length xs)) refl
    where
      go : position_or_len p (x ∷ xs) ≡ 1 + position_or_len p xs → (b : Bool) → nat_lt (position_or_len p xs) (length xs) ≡ b → position p (x ∷ xs) ≡ option_map (λ n. 1 + n) (position p xs)
      go first true within =
          let test : nat_lt (position_or_len p (x ∷ xs)) (length (x ∷ xs)) ≡ true = grind (arith, nat_tests, first, within) in
          ap (λ b. cond b (Some (position_or_len p (x ∷ xs))) None) test ∙ ap (λ n. Some n) first
          ∙ sym (ap (λ b. option_map (λ n. 1 + n) (cond b (Some (position_or_len p xs)) None)) within)
      go first false within =
          let test : nat_lt (position_or_len p (x ∷ xs)) (length (x ∷ xs)) ≡ false = grind (arith, nat_tests, first, within) in
          ap (λ b. cond b (Some (position_or_len p (x ∷ xs))) None) test
          ∙ sym (ap (λ b. option_map (λ n. 1 + n) (cond b (Some (position_or_len p xs)) None)) within)

-- the first word of a text is a name of this length, an equals sign and more
pub record IsItem (text : List ℕ) (n : ℕ) : Type 0 where
  pub equals : position is_equals (first_of Blank text) ≡ Some n
  pub name : take n (first_of Blank text) ≡ take n text
  pub value : drop (suc n) (first_of Blank text) ≡ first_of Blank (drop (suc n) text)
  pub after : after_separator Blank text ≡ after_separator Blank (drop (suc n) text)

not_blank : (byte : ℕ) → is_equals byte ≡ true → separates Blank byte ≡ false
not_blank byte is = grind (arith, nat_tests)

item-from : (at : ℕ) (text : List ℕ) (found : ℕ) → equals_from at text ≡ Some found → (n : ℕ) × (found ≡ at + n) × IsItem text n
item-from at [] found is = cc
item-from at (byte ∷ rest) found is = go (item-from (at + 1) rest found) (is_equals byte) (separates Blank byte) refl refl is
  where
    front : separates Blank byte ≡ false → first_of Blank (byte ∷ rest) ≡ byte ∷ first_of Blank rest
    front other = ap (λ b. cond b [] (byte ∷ first_of Blank rest)) other

    behind : separates Blank byte ≡ false → after_separator Blank (byte ∷ rest) ≡ after_separator Blank rest
    behind other = ap (λ b. cond b rest (after_separator Blank rest)) other

    later : separates Blank byte ≡ false → is_equals byte ≡ false → (n : ℕ) × (found ≡ (at + 1) + n) × IsItem rest n → (n : ℕ) × (found ≡ at + n) × IsItem (byte ∷ rest) n
    later other different (n, place, item) = (
      suc n,
      omega (arith, place),
      record {
        equals = ap (position is_equals) (front other) ∙ past is_equals byte (first_of Blank rest) different ∙ ap (option_map (λ k. 1 + k)) item.equals ∙ ap (λ k. Some k) (omega arith);
        name = ap (take (suc n)) (front other) ∙ ap (λ xs. byte ∷ xs) item.name;
        value = ap (drop (suc (suc n))) (front other) ∙ item.value;
        after = behind other ∙ item.after;
      },
    )

    go : (equals_from (at + 1) rest ≡ Some found → (n : ℕ) × (found ≡ (at + 1) + n) × IsItem rest n) → (e b : Bool) → is_equals byte ≡ e → separates Blank byte ≡ b → cond e (Some at) (cond b None (equals_from (at + 1) rest)) ≡ Some found → (n : ℕ) × (found ≡ at + n) × IsItem (byte ∷ rest) n
    go again true b equal blank is =
        let other = not_blank byte equal in
        let place : found ≡ at = cc in (
          0,
          omega (arith, place),
          record {
            equals = ap (position is_equals) (front other) ∙ here is_equals byte (first_of Blank rest) equal;
            name = refl;
            value = ap (drop 1) (front other);
            after = behind other;
          },
        )
    go again false true equal blank is = cc
    go again false false equal blank is = later blank equal (again is)

-- the equals sign of the first word
pub item-at : (text : List ℕ) (n : ℕ) → equals_from 0 text ≡ Some n → IsItem text n
item-at text n is = go (item-from 0 text n is)
  where
    go : (k : ℕ) × (n ≡ 0 + k) × IsItem text k → IsItem text n
    go (k, place, item) = let same : k ≡ n = omega (arith, place) in subst (λ (m : ℕ). IsItem text m) same item

-- a word without an equals sign
pub no-item : (at : ℕ) (text : List ℕ) → equals_from at text ≡ None → position is_equals (first_of Blank text) ≡ None
no-item at [] is = refl
no-item at (byte ∷ rest) is = go (no-item (at + 1) rest) (is_equals byte) (separates Blank byte) refl refl is
  where
    go : (equals_from (at + 1) rest ≡ None → position is_equals (first_of Blank rest) ≡ None) → (e b : Bool) → is_equals byte ≡ e → separates Blank byte ≡ b → cond e (Some at) (cond b None (equals_from (at + 1) rest)) ≡ None → position is_equals (first_of Blank (byte ∷ rest)) ≡ None
    go again true b equal blank is = cc
    go again false true equal blank is = ap (λ b. position is_equals (cond b [] (byte ∷ first_of Blank rest))) blank
    go again false false equal blank is =
        ap (λ b. position is_equals (cond b [] (byte ∷ first_of Blank rest))) blank
        ∙ past is_equals byte (first_of Blank rest) equal
        ∙ ap (option_map (λ k. 1 + k)) (again is)

item-of : (values : LineValues) (word : List ℕ) (n : ℕ) → position is_equals word ≡ Some n → with_named_value values word ≡ with_line_value values (value_named (take n word)) (numeral_of (drop (n + 1) word))
item-of values word n is = ap (option_and_then (λ at. with_line_value values (value_named (take at word)) (numeral_of (drop (at + 1) word)))) is

word-of : (values : LineValues) (word : List ℕ) (n : ℕ) → position is_equals word ≡ Some n → with_one_word values word ≡ with_named_value values word
word-of values [] n is = cc
word-of values (byte ∷ rest) n is = refl

-- what the first word of a text gives
pub word-at : (values : LineValues) (text : List ℕ) (n : ℕ) → equals_from 0 text ≡ Some n → with_one_word values (first_of Blank text) ≡ with_line_value values (value_named (take n text)) (numeral_of (first_of Blank (drop (n + 1) text)))
word-at values text n is =
    let item = item-at text n is in
    word-of values (first_of Blank text) n item.equals
    ∙ item-of values (first_of Blank text) n item.equals
    ∙ ap (λ name. with_line_value values (value_named name) (numeral_of (drop (n + 1) (first_of Blank text)))) item.name
    ∙ ap (λ k. with_line_value values (value_named (take n text)) (numeral_of (drop k (first_of Blank text)))) (add-one n)
    ∙ ap (λ xs. with_line_value values (value_named (take n text)) (numeral_of xs)) item.value
    ∙ ap (λ k. with_line_value values (value_named (take n text)) (numeral_of (first_of Blank (drop k text)))) (sym (add-one n))

pub after-at : (text : List ℕ) (n : ℕ) → equals_from 0 text ≡ Some n → after_separator Blank text ≡ after_separator Blank (drop (n + 1) text)
after-at text n is = (item-at text n is).after ∙ ap (λ k. after_separator Blank (drop k text)) (sym (add-one n))

-- a word without an equals sign gives nothing
pub word-none : (values : LineValues) (text : List ℕ) → 0 < length text → separates Blank (slice_index text 0) ≡ false → equals_from 0 text ≡ None → with_one_word values (first_of Blank text) ≡ None
word-none values [] some other is = absurd (omega arith)
word-none values (byte ∷ rest) some other is =
    ap (with_one_word values) front
    ∙ ap (option_and_then (λ at. with_line_value values (value_named (take at (byte ∷ first_of Blank rest))) (numeral_of (drop (at + 1) (byte ∷ first_of Blank rest))))) (sym (ap (position is_equals) front) ∙ no-item 0 (byte ∷ rest) is)
  where
    front : first_of Blank (byte ∷ rest) ≡ byte ∷ first_of Blank rest
    front = ap (λ b. cond b [] (byte ∷ first_of Blank rest)) other

-- ---- the first equals sign of a text

abbrev has_blank : List ℕ → Bool
has_blank [] = false
has_blank (byte ∷ rest) = cond (separates Blank byte) true (has_blank rest)

abbrev plain_names : List PrimitiveName → Bool
plain_names [] = true
plain_names (known ∷ rest) = cond (has_blank known.1) false (plain_names rest)

named-plain : (name : List ℕ) (names : List PrimitiveName) (n : ℕ) → plain_names names ≡ true → position (λ known. bytes_eq name known.1) names ≡ Some n → has_blank name ≡ false
named-plain name [] n plain is = cc
named-plain name (known ∷ rest) n plain is = go (named-plain name rest) (bytes_eq name known.1) refl (has_blank known.1) refl plain (position (λ known. bytes_eq name known.1) rest) refl
  where
    go : ((n : ℕ) → plain_names rest ≡ true → position (λ known. bytes_eq name known.1) rest ≡ Some n → has_blank name ≡ false)
        → (same : Bool) → bytes_eq name known.1 ≡ same → (blank : Bool) → has_blank known.1 ≡ blank → cond blank false (plain_names rest) ≡ true
        → (later : Option ℕ) → position (λ known. bytes_eq name known.1) rest ≡ later → has_blank name ≡ false
    go again same equal true blank plain later found = cc
    go again true equal false blank plain later found = ap has_blank ((bytes_eq-Decides name known.1).0 equal) ∙ blank
    go again false equal false blank plain None found =
        let e = past (λ (k : PrimitiveName). bytes_eq name k.1) known rest equal ∙ ap (option_map (λ n. 1 + n)) found in
        cc
    go again false equal false blank plain (Some m) found = again m plain found

-- no primitive has a blank in its name
known-plain : (name : List ℕ) (n : ℕ) → value_named name ≡ Some n → has_blank name ≡ false
known-plain name n is = named-plain name primitive_names n refl is

first-equals : (i : ℕ) (text : List ℕ) (at : ℕ) → at < length text → ((k : ℕ) → 0 ≤ k → k < at → is_equals (slice_index text k) ≢ true) → is_equals (slice_index text at) ≡ true
    → (equals_from i text ≡ Some (i + at)) ⊎ ((equals_from i text ≡ None) × (has_blank (take at text) ≡ true))
first-equals i [] at within before is = absurd (omega arith)
first-equals i (byte ∷ rest) zero within before is =
    inl (ap (λ b. cond b (Some i) (cond (separates Blank byte) None (equals_from (i + 1) rest))) is ∙ ap (λ k. Some k) (omega arith))
first-equals i (byte ∷ rest) (suc at) within before is =
    go (false_from_ne_true (is_equals byte) (before 0 (omega arith) (omega arith))) (separates Blank byte) refl
    (first-equals (i + 1) rest at (omega arith) (λ k low high. before (suc k) (omega arith) (omega arith)) is)
  where
    go : is_equals byte ≡ false → (blank : Bool) → separates Blank byte ≡ blank
        → (equals_from (i + 1) rest ≡ Some ((i + 1) + at)) ⊎ ((equals_from (i + 1) rest ≡ None) × (has_blank (take at rest) ≡ true))
        → (equals_from i (byte ∷ rest) ≡ Some (i + suc at)) ⊎ ((equals_from i (byte ∷ rest) ≡ None) × (has_blank (take (suc at) (byte ∷ rest)) ≡ true))
    go other true blank later = inr (
      ap (λ b. cond b (Some i) (cond (separates Blank byte) None (equals_from (i + 1) rest))) other ∙ ap (λ b. cond b None (equals_from (i + 1) rest)) blank,
      ap (λ b. cond b true (has_blank (take at rest))) blank,
    )
    go other false blank (inl found) = inl (
        ap (λ b. cond b (Some i) (cond (separates Blank byte) None (equals_from (i + 1) rest))) other ∙ ap (λ b. cond b None (equals_from (i + 1) rest)) blank
        ∙ found ∙ ap (λ k. Some k) (omega arith))
    go other false blank (inr none) = inr (
      ap (λ b. cond b (Some i) (cond (separates Blank byte) None (equals_from (i + 1) rest))) other ∙ ap (λ b. cond b None (equals_from (i + 1) rest)) blank ∙ none.0,
      ap (λ b. cond b true (has_blank (take at rest))) blank ∙ none.1,
    )

-- a text without an equals sign
pub no-equals : (i : ℕ) (text : List ℕ) → ((k : ℕ) → 0 ≤ k → k < length text → is_equals (slice_index text k) ≢ true) → equals_from i text ≡ None
no-equals i [] none = refl
no-equals i (byte ∷ rest) none =
    go (false_from_ne_true (is_equals byte) (none 0 (omega arith) (omega arith))) (separates Blank byte) refl (no-equals (i + 1) rest (λ k low high. none (suc k) (omega arith) (omega arith)))
  where
    go : is_equals byte ≡ false → (blank : Bool) → separates Blank byte ≡ blank → equals_from (i + 1) rest ≡ None → equals_from i (byte ∷ rest) ≡ None
    go other true blank later = ap (λ b. cond b (Some i) (cond (separates Blank byte) None (equals_from (i + 1) rest))) other ∙ ap (λ b. cond b None (equals_from (i + 1) rest)) blank
    go other false blank later = ap (λ b. cond b (Some i) (cond (separates Blank byte) None (equals_from (i + 1) rest))) other ∙ ap (λ b. cond b None (equals_from (i + 1) rest)) blank ∙ later

module _ (text : List ℕ) (at : ℕ) (within : at < length text) (before : (k : ℕ) → 0 ≤ k → k < at → is_equals (slice_index text k) ≢ true) (is : is_equals (slice_index text at) ≡ true) where
  -- the bytes before the first equals sign are the name of the first word, if a value has that name
  pub equals-known : (n : ℕ) → value_named (take at text) ≡ Some n → equals_from 0 text ≡ Some at
  equals-known n known = go (first-equals 0 text at within before is)
    where
      go : (equals_from 0 text ≡ Some (0 + at)) ⊎ ((equals_from 0 text ≡ None) × (has_blank (take at text) ≡ true)) → equals_from 0 text ≡ Some at
      go (inl found) = found ∙ ap (λ k. Some k) (omega arith)
      go (inr none) = let plain = known-plain (take at text) n known in cc

  -- if no value has that name, the first word gives nothing
  pub equals-unknown : (values : LineValues) → separates Blank (slice_index text 0) ≡ false → value_named (take at text) ≡ None → with_one_word values (first_of Blank text) ≡ None
  equals-unknown values other unknown = go (first-equals 0 text at within before is)
    where
      go : (equals_from 0 text ≡ Some (0 + at)) ⊎ ((equals_from 0 text ≡ None) × (has_blank (take at text) ≡ true)) → with_one_word values (first_of Blank text) ≡ None
      go (inl found) =
          word-at values text at (found ∙ ap (λ k. Some k) (omega arith))
          ∙ ap (λ name. with_line_value values name (numeral_of (first_of Blank (drop (at + 1) text)))) unknown
      go (inr none) = word-none values text (omega arith) other none.0
