-- What a line says that is a name, an equals sign and digits alone.
use Rattle.std.proofs.Common.{◌≡◌, ℕ, zero, suc, ◌+◌, ◌-◌, ◌*◌, ◌^◌, ◌<◌, Bool, true, false, not, ◌&&◌, ◌||◌, cond, nat_lt, eqb, Some, None, Ok, List, [], ◌∷◌, ◌++◌, length, replicate, slice_set, slice_index_or, refl, ap, ap₂, sym, subst, ◌∙◌, arith, length-append}
use Rattle.std.specs.List.{list_all}
use Rattle.std.proofs.lemmas.Bool.{and_parts}
use Rattle.std.proofs.lemmas.Bool.Decides.{nat_tests}
use Rattle.std.proofs.lemmas.List.{get_or-replicate}
use Rattle.ccp_base.specs.declared.ack.Ack.{Ack}
use Rattle.ccp_base.specs.declared.parts.Separator.TheVariants.{LineFeed, Blank}
use Rattle.ccp_base.specs.Acknowledgement.{is_flag}
use Rattle.ccp_base.specs.Limits.{primitive_count}
use Rattle.ccp_base.specs.Numerals.{is_digit, value_after, numeral_of}
use Rattle.ccp_base.specs.Parts.{separates, parts_of, without_last}
use Rattle.fold_run.specs.declared.line_values.LineValues.{LineValues}
use Rattle.fold_run.specs.AckLine.{refused, given, no_values, with_number, with_line_value, with_one_word, with_each_word, given_or_refused, is_blank_at, begins_word, read_ack_line}
use Rattle.fold_run.specs.Acknowledgements.{with_line, with_lines}
use Rattle.fold_run.specs.FirstPart.{first_of, after_separator}
use Rattle.fold_run.specs.Items.{primitive_word}
use Rattle.fold_run.specs.OneValue.{with_ack, ack_with, GivesOne}
use Rattle.fold_run.proofs.FirstLine.{parts-first}
use Rattle.fold_run.proofs.FirstWord.{after_shorter}
use Rattle.fold_run.proofs.ItemLemmas.{gives-named}
use Rattle.fold_run.proofs.LineLemmas.{line_begun}
use Rattle.fold_run.proofs.NameLemmas.{is_name_byte, word_named}

-- ---- plain bytes

-- a byte past the blanks and the ends of lines
abbrev is_plain : ℕ → Bool
is_plain byte = nat_lt 32 byte

plain-name : (byte : ℕ) → is_name_byte byte ≡ true → is_plain byte ≡ true
plain-name byte is = grind (arith, nat_tests)

plain-digit : (byte : ℕ) → is_digit byte ≡ true → is_plain byte ≡ true
plain-digit byte is = grind (arith, nat_tests)

not-blank : (byte : ℕ) → is_plain byte ≡ true → separates Blank byte ≡ false
not-blank byte is = grind (arith, nat_tests)

not-return : (byte : ℕ) → nat_lt 32 byte ≡ true → eqb byte 13 ≡ false
not-return byte is = grind (arith, nat_tests)

not-feed : (byte : ℕ) → is_name_byte byte ≡ true → separates LineFeed byte ≡ false
not-feed byte is = grind (arith, nat_tests)

plain-digits : (digits : List ℕ) → list_all is_digit digits ≡ true → list_all is_plain digits ≡ true
plain-digits [] are = refl
plain-digits (byte ∷ rest) are =
    let parts = and_parts (is_digit byte) (list_all is_digit rest) are in
    ap (λ b. b && list_all is_plain rest) (plain-digit byte parts.0) ∙ plain-digits rest parts.1

-- a name, an equals sign and digits
plain-item : (name digits : List ℕ) → list_all is_name_byte name ≡ true → list_all is_digit digits ≡ true → list_all is_plain (name ++ 61 ∷ digits) ≡ true
plain-item [] digits named are = plain-digits digits are
plain-item (byte ∷ name) digits named are =
    let parts = and_parts (is_name_byte byte) (list_all is_name_byte name) named in
    ap (λ b. b && list_all is_plain (name ++ 61 ∷ digits)) (plain-name byte parts.0) ∙ plain-item name digits parts.1 are

-- ---- a line of plain bytes

-- it is one word
one-word : (line : List ℕ) → list_all is_plain line ≡ true → (first_of Blank line ≡ line) × (after_separator Blank line ≡ [])
one-word [] are = (refl, refl)
one-word (byte ∷ rest) are =
    let parts = and_parts (is_plain byte) (list_all is_plain rest) are in
    let other = not-blank byte parts.0 in
    let later = one-word rest parts.1 in (
      ap (λ b. cond b [] (byte ∷ first_of Blank rest)) other ∙ ap (λ xs. byte ∷ xs) later.0,
      ap (λ b. cond b rest (after_separator Blank rest)) other ∙ later.1,
    )

-- no place of it has a blank
no-blank : (line : List ℕ) (n : ℕ) → list_all is_plain line ≡ true → is_blank_at line n ≡ false
no-blank [] n are = refl
no-blank (byte ∷ rest) zero are = not-blank byte (and_parts (is_plain byte) (list_all is_plain rest) are).0
no-blank (byte ∷ rest) (suc n) are = no-blank rest n (and_parts (is_plain byte) (list_all is_plain rest) are).1

begins : (line : List ℕ) → 0 < length line → list_all is_plain line ≡ true → begins_word line ≡ true
begins [] some are = absurd (omega arith)
begins (byte ∷ rest) some are = ap not (not-blank byte (and_parts (is_plain byte) (list_all is_plain rest) are).0)

-- it has no CR at its end
no-return : (line : List ℕ) → list_all is_plain line ≡ true → without_last 13 line ≡ line
no-return [] are = refl
no-return (x ∷ []) are = ap (λ b. cond b [] (x ∷ [])) (not-return x (and_parts (is_plain x) true are).0)
no-return (x ∷ y ∷ rest) are = ap (λ xs. x ∷ xs) (no-return (y ∷ rest) (and_parts (is_plain x) (list_all is_plain (y ∷ rest)) are).1)

-- ---- the digits of a numeral

all-digits : (number : ℕ) (digits : List ℕ) (value : ℕ) → value_after (Some number) digits ≡ Some value → list_all is_digit digits ≡ true
all-digits number [] value is = refl
all-digits number (byte ∷ rest) value is =
    go (all-digits (number * 10 + (byte - 48)) rest value) (is_digit byte) refl (nat_lt (number * 10 + (byte - 48)) (2 ^ 64)) is
  where
    go : (value_after (Some (number * 10 + (byte - 48))) rest ≡ Some value → list_all is_digit rest ≡ true)
        → (digit : Bool) → is_digit byte ≡ digit → (fits : Bool) → value_after (cond (digit && fits) (Some (number * 10 + (byte - 48))) None) rest ≡ Some value
        → list_all is_digit (byte ∷ rest) ≡ true
    go again false other fits is = cc
    go again true digit false is = cc
    go again true digit true is = ap (λ b. b && list_all is_digit rest) digit ∙ again is

numeral-digits : (digits : List ℕ) (value : ℕ) → numeral_of digits ≡ Some value → list_all is_digit digits ≡ true
numeral-digits [] value is = refl
numeral-digits (byte ∷ rest) value is = all-digits 0 (byte ∷ rest) value is

-- ---- the values of a line of one word

untaken : (named above flag : Bool) → named ≡ false → flag ≡ false → (named || (above && flag)) ≡ false
untaken true above flag none plain = cc
untaken false true flag none plain = plain
untaken false false flag none plain = refl

-- a name, an equals sign and digits
abbrev item : ℕ → List ℕ → List ℕ
item n digits = primitive_word n ++ 61 ∷ digits

-- the values with this one alone
abbrev only : ℕ → ℕ → LineValues
only n value = record { numbers = slice_set (replicate primitive_count 0) n value; named = slice_set (replicate primitive_count false) n true }

first-value : (n value : ℕ) → n < primitive_count → is_flag n ≡ false → with_number no_values n value ≡ Some (only n value)
first-value n value below plain =
    ap (λ b. cond b None (Some (only n value)))
    (untaken (slice_index_or (replicate primitive_count false) n false) (nat_lt 1 value) (is_flag n) (get_or-replicate primitive_count n false false below) plain)

module _ (n value : ℕ) (below : n < primitive_count) (plain : is_flag n ≡ false) (digits : List ℕ) (is : numeral_of digits ≡ Some value) where
  item-plain : list_all is_plain (item n digits) ≡ true
  item-plain = plain-item (primitive_word n) digits (word_named n below).bytes (numeral-digits digits value is)

  item-some : 0 < length (item n digits)
  item-some = let count = length-append (primitive_word n) (61 ∷ digits) in omega (arith, count)

  item-value : with_one_word no_values (item n digits) ≡ Some (only n value)
  item-value =
      ap (with_one_word no_values) (sym (one-word (item n digits) item-plain).0)
      ∙ (gives-named (item n digits) n digits below refl).word no_values
      ∙ ap (λ xs. with_line_value no_values (Some n) (numeral_of xs)) (one-word digits (plain-digits digits (numeral-digits digits value is))).0
      ∙ ap (with_line_value no_values (Some n)) is
      ∙ first-value n value below plain

  item-words : parts_of Blank (item n digits) ≡ (item n digits) ∷ []
  item-words =
      parts-first Blank (item n digits) item-some
      ∙ ap₂ (λ word rest. word ∷ parts_of Blank rest) (one-word (item n digits) item-plain).0 (one-word (item n digits) item-plain).1

  -- what the line says
  item-said : read_ack_line (without_last 13 (item n digits)) ≡ given (ack_with n value)
  item-said =
      ap read_ack_line (no-return (item n digits) item-plain)
      ∙ line_begun (item n digits) (begins (item n digits) item-some item-plain)
      ∙ ap (λ b. cond b refused (given_or_refused (with_each_word (Some no_values) (parts_of Blank (item n digits))))) (no-blank (item n digits) (length (item n digits) - 1) item-plain)
      ∙ ap (λ words. given_or_refused (with_each_word (Some no_values) words)) item-words
      ∙ ap (λ values. given_or_refused (with_each_word values [])) item-value

-- ---- the first line of a text

-- the line ends behind the equals sign
behind-name : (name rest : List ℕ) → list_all is_name_byte name ≡ true
    → (first_of LineFeed (name ++ 61 ∷ rest) ≡ name ++ 61 ∷ first_of LineFeed rest) × (after_separator LineFeed (name ++ 61 ∷ rest) ≡ after_separator LineFeed rest)
behind-name [] rest named = (refl, refl)
behind-name (byte ∷ name) rest named =
    let parts = and_parts (is_name_byte byte) (list_all is_name_byte name) named in
    let other = not-feed byte parts.0 in
    let later = behind-name name rest parts.1 in (
      ap (λ b. cond b [] (byte ∷ first_of LineFeed (name ++ 61 ∷ rest))) other ∙ ap (λ xs. byte ∷ xs) later.0,
      ap (λ b. cond b (name ++ 61 ∷ rest) (after_separator LineFeed (name ++ 61 ∷ rest))) other ∙ later.1,
    )

-- a text that begins with a name, an equals sign and a line that is a numeral
pub gives-one : (text : List ℕ) (n value : ℕ) (numeral rest : List ℕ) → n < primitive_count → is_flag n ≡ false → text ≡ primitive_word n ++ 61 ∷ numeral
    → numeral_of (first_of LineFeed numeral) ≡ Some value → rest ≡ after_separator LineFeed numeral → GivesOne text n value rest
gives-one text n value numeral rest below plain whole is behind =
    let name : List ℕ = primitive_word n in
    let front = behind-name name numeral (word_named n below).bytes in
    let after : rest ≡ after_separator LineFeed text = behind ∙ sym front.1 ∙ ap (after_separator LineFeed) (sym whole) in
    let count = ap length whole ∙ length-append name (61 ∷ numeral) in
    let some : 0 < length text = omega (arith, count) in
    record {
      said =
          ap (λ xs. read_ack_line (without_last 13 (first_of LineFeed xs))) whole
          ∙ ap (λ xs. read_ack_line (without_last 13 xs)) front.0
          ∙ item-said n value below plain (first_of LineFeed numeral) is;
      after = after;
      shorter = subst (λ (xs : List ℕ). length xs < length text) (sym after) (after_shorter LineFeed text some);
    }

-- the lines of a text whose first one gives one value
pub one_line : (number : ℕ) (acks : List Ack) (text : List ℕ) (n value : ℕ) (rest : List ℕ) → GivesOne text n value rest
    → with_lines number (Ok acks) (parts_of LineFeed text) ≡ with_lines (number + 1) (with_ack acks (ack_with n value)) (parts_of LineFeed rest)
one_line number acks text n value rest gives =
    let shorter : length rest < length text = gives.shorter in
    let some : 0 < length text = omega (arith, shorter) in
    ap (with_lines number (Ok acks)) (parts-first LineFeed text some)
    ∙ ap₂ (λ told xs. with_lines (number + 1) (with_line number acks told) (parts_of LineFeed xs)) gives.said (sym gives.after)
