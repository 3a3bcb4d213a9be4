-- The lines of acknowledgements are read by `fold` as these acknowledgements.
use Rattle.std.proofs.Common.{◌≡◌, ℕ, zero, suc, ◌+◌, ◌-◌, ◌<◌, ◌≤◌, ◌^◌, Bool, true, false, not, ◌&&◌, ◌||◌, ◌==◌, nat_lt, Option, Some, None, Ok, Err, List, [], ◌∷◌, ◌++◌, length, take, drop, position, replicate, get_or, set, slice_get, decimal, refl, ap, sym, subst, ◌∙◌, arith, cond, length-append, append-nil, append_assoc}
use Rattle.std.specs.List.{All, list_all, position_or_len}
use Rattle.std.specs.Option.{option_and_then, option_map_or}
use Rattle.std.proofs.Math.Seq.{take-append_seam, drop-append-add}
use Rattle.std.proofs.lemmas.Bool.{and_parts, and_from, or_parts, eqb-true, and_right, not-true}
use Rattle.std.proofs.lemmas.Bool.Decides.{nat_tests}
use Rattle.std.proofs.lemmas.List.{get_or-set_other}
use Rattle.std.proofs.lemmas.List.Elements.{All-weaker}
use Rattle.std.proofs.lemmas.List.Folds.{list_all-append}
use Rattle.std.proofs.lemmas.List.Sums.{AllPass-from_list_all, list_all-from_AllPass}
use Rattle.ccp_base.specs.declared.ack.Ack.{Ack}
use Rattle.ccp_base.specs.declared.parts.Separator.{Separator}
use Rattle.ccp_base.specs.declared.parts.Separator.TheVariants.{LineFeed, Blank}
use Rattle.ccp_base.specs.Acknowledgement.{primitives, prim, bool_number, flag_number, is_flag, ack_of}
use Rattle.ccp_base.specs.Limits.{most_acks, primitive_count}
use Rattle.ccp_base.specs.Numerals.{is_digit, numeral_of}
use Rattle.ccp_base.specs.Parts.{separates, parts_of, with_first, without_last}
use Rattle.ccp_base.specs.PrimitiveNames.{PrimitiveName, primitive_names, value_named}
use Rattle.ccp_base.proofs.PartLemmas.{without_last-other}
use Rattle.fold_run.specs.declared.acks.LineFault.TheVariants.{TooMany}
use Rattle.fold_run.specs.declared.line_values.LineValues.{LineValues}
use Rattle.fold_run.specs.AckLine.{AckLine, nothing, given, refused, no_values, with_line_value, with_named_value, with_one_word, with_each_word, given_or_refused, begins_blank, ends_blank, read_ack_line}
use Rattle.fold_run.specs.Acknowledgements.{with_line, with_lines}
use Rattle.fold_run.proofs.NameLemmas.{IsNamed, AreNamed, is_name_byte, all_named, first_named, rest_named}
use Rattle.reply_frames.proofs.BodyLaws.{true-back}
use Rattle.campaign_report.specs.AcksText.{now_number, is_shown, gap, items_text, ack_line, ack_lines}
use Rattle.ccp_base.proofs.DecimalLemmas.{decimal-digits, numeral_of-decimal}
use Rattle.run_audit.proofs.Pieces.{IsPlain, plain-append, plain-of, ended-part}
use Rattle.ccp_run.specs.TextLaws.{IsOf64Bits, ReadsAcksBack}

-- ---- bytes of a word

-- a byte that stands in a word: no separator, and not the CR that may end a line
abbrev in_word : ℕ → Bool
in_word byte = not (separates Blank byte) && (not (separates LineFeed byte) && not (byte == 13))

in_word_parts : (byte : ℕ) → in_word byte ≡ true → (not (separates Blank byte) ≡ true) × (not (separates LineFeed byte) ≡ true) × (not (byte == 13) ≡ true)
in_word_parts byte is =
    let both = and_parts (not (separates Blank byte)) (not (separates LineFeed byte) && not (byte == 13)) is in
    let rest = and_parts (not (separates LineFeed byte)) (not (byte == 13)) both.1 in
    (both.0, rest.0, rest.1)

word_byte : (s : Separator) (byte : ℕ) → in_word byte ≡ true → not (separates s byte) ≡ true
word_byte Blank byte is = (in_word_parts byte is).0
word_byte LineFeed byte is = (in_word_parts byte is).1

digit_in_word : (byte : ℕ) → is_digit byte ≡ true → in_word byte ≡ true
digit_in_word byte is =
    and_from (not (separates Blank byte)) (not (separates LineFeed byte) && not (byte == 13)) (grind (arith, nat_tests, is))
    (and_from (not (separates LineFeed byte)) (not (byte == 13)) (grind (arith, nat_tests, is)) (grind (arith, nat_tests, is)))

-- a text of such bytes
abbrev IsWord : List ℕ → Type 0
IsWord text = list_all in_word text ≡ true

word-append : (x y : List ℕ) → IsWord x → IsWord y → IsWord (x ++ y)
word-append x y these those = list_all-append in_word x y ∙ and_from (list_all in_word x) (list_all in_word y) these those

word-digits : (text : List ℕ) → list_all is_digit text ≡ true → IsWord text
word-digits text is =
    list_all-from_AllPass in_word text (All-weaker (λ b. is_digit b ≡ true) (λ b. in_word b ≡ true) digit_in_word text (AllPass-from_list_all is_digit text is))

plain_word : (s : Separator) (text : List ℕ) → IsWord text → IsPlain s text
plain_word s text is = plain-of s in_word text (word_byte s) is

-- ---- texts that begin and end with bytes of words

record IsTight (text : List ℕ) : Type 0 where
  first : ℕ
  back : List ℕ
  front : List ℕ
  last : ℕ
  begins : text ≡ first ∷ back
  ends : text ≡ front ++ last ∷ []
  first_in : in_word first ≡ true
  last_in : in_word last ≡ true

record HasLast (text : List ℕ) : Type 0 where
  front : List ℕ
  last : ℕ
  ends : text ≡ front ++ last ∷ []
  last_in : in_word last ≡ true

last_of : (byte : ℕ) (text : List ℕ) → IsWord (byte ∷ text) → HasLast (byte ∷ text)
last_of byte [] is = record { front = []; last = byte; ends = refl; last_in = (and_parts (in_word byte) true is).0 }
last_of byte (next ∷ text) is =
    let later = last_of next text (and_parts (in_word byte) (list_all in_word (next ∷ text)) is).1 in
    record { front = byte ∷ later.front; last = later.last; ends = ap (λ t. byte ∷ t) later.ends; last_in = later.last_in }

tight_word : (text : List ℕ) → 0 < length text → IsWord text → IsTight text
tight_word [] some is = absurd (omega (arith, some))
tight_word (byte ∷ text) some is =
    let last = last_of byte text is in
    record {
      first = byte;
      back = text;
      front = last.front;
      last = last.last;
      begins = refl;
      ends = last.ends;
      first_in = (and_parts (in_word byte) (list_all in_word text) is).0;
      last_in = last.last_in;
    }

tight-append : (left right : List ℕ) → IsTight left → IsTight right → IsTight (left ++ 32 ∷ right)
tight-append left right l r = record {
  first = l.first;
  back = l.back ++ 32 ∷ right;
  front = left ++ 32 ∷ r.front;
  last = r.last;
  begins = ap (λ t. t ++ 32 ∷ right) l.begins;
  ends = ap (λ t. left ++ 32 ∷ t) r.ends ∙ sym (append_assoc left (32 ∷ r.front) (r.last ∷ []));
  first_in = l.first_in;
  last_in = r.last_in;
}

at_end : (front : List ℕ) (last : ℕ) → slice_get (front ++ last ∷ []) (length front) ≡ Some last
at_end [] last = refl
at_end (byte ∷ front) last = at_end front last

module _ (text : List ℕ) (tight : IsTight text) where
  not_all_blank : list_all (separates Blank) text ≡ false
  not_all_blank =
      ap (list_all (separates Blank)) tight.begins
      ∙ ap (λ b. b && list_all (separates Blank) tight.back) (not-true (separates Blank tight.first) (word_byte Blank tight.first tight.first_in))

  begins_plain : begins_blank text ≡ false
  begins_plain =
      ap (λ (t : List ℕ). option_map_or (separates Blank) (slice_get t 0) false) tight.begins
      ∙ not-true (separates Blank tight.first) (word_byte Blank tight.first tight.first_in)

  ends_plain : ends_blank text ≡ false
  ends_plain =
      let count : length (tight.front ++ tight.last ∷ []) - 1 ≡ length tight.front = omega (arith, length-append tight.front (tight.last ∷ [])) in
      ap ends_blank tight.ends
      ∙ ap (λ (n : ℕ). option_map_or (separates Blank) (slice_get (tight.front ++ tight.last ∷ []) n) false) count
      ∙ ap (λ (o : Option ℕ). option_map_or (separates Blank) o false) (at_end tight.front tight.last)
      ∙ not-true (separates Blank tight.last) (word_byte Blank tight.last tight.last_in)

  no_return : without_last 13 text ≡ text
  no_return =
      let other : (tight.last == 13) ≡ false = not-true (tight.last == 13) (in_word_parts tight.last tight.last_in).2 in
      sym (without_last-other 13 text tight.front tight.last tight.ends (grind (arith, nat_tests, other)))

  -- such a line says what its words say
  told : read_ack_line text ≡ given_or_refused (with_each_word (Some no_values) (parts_of Blank text))
  told =
      let said : AckLine = given_or_refused (with_each_word (Some no_values) (parts_of Blank text)) in
      ap (λ (b : Bool). cond b nothing (cond (begins_blank text || ends_blank text) refused said)) not_all_blank
      ∙ ap (λ (b : Bool). cond (b || ends_blank text) refused said) begins_plain
      ∙ ap (λ (b : Bool). cond b refused said) ends_plain

-- ---- names

-- a byte of a name stands in a word, and is no equals sign
name_in_word : (byte : ℕ) → is_name_byte byte ≡ true → in_word byte ≡ true
name_in_word byte is =
    and_from (not (separates Blank byte)) (not (separates LineFeed byte) && not (byte == 13)) (grind (arith, nat_tests, is))
    (and_from (not (separates LineFeed byte)) (not (byte == 13)) (grind (arith, nat_tests, is)) (grind (arith, nat_tests, is)))

word-name : (name : List ℕ) → list_all is_name_byte name ≡ true → IsWord name
word-name name are =
    list_all-from_AllPass in_word name (All-weaker (λ b. is_name_byte b ≡ true) (λ b. in_word b ≡ true) name_in_word name (AllPass-from_list_all is_name_byte name are))

no-equals : (name : List ℕ) → list_all is_name_byte name ≡ true → list_all (λ byte. not (byte == 61)) name ≡ true
no-equals [] are = refl
no-equals (b ∷ name) are =
    let parts = and_parts (is_name_byte b) (list_all is_name_byte name) are in
    and_from (not (b == 61)) (list_all (λ byte. not (byte == 61)) name) (grind (arith, nat_tests, parts.0)) (no-equals name parts.1)

-- ---- words of a line

abbrev word_text : List ℕ → ℕ → List ℕ
word_text name value = name ++ 61 ∷ decimal value

some_bytes : (name rest : List ℕ) → 0 < length (name ++ 61 ∷ rest)
some_bytes name rest = omega (arith, length-append name (61 ∷ rest))

module _ (ack : Ack) where
  -- the words that are shown, from the primitive with this number on
  abbrev words_from : ℕ → List PrimitiveName → List (List ℕ)
  words_from number [] = []
  words_from number (known ∷ rest) =
      cond (is_shown number (prim number ack)) (word_text known.1 (prim number ack) ∷ words_from (number + 1) rest) (words_from (number + 1) rest)

  word_is : (number : ℕ) (known : PrimitiveName) → IsNamed number known.1 → IsWord (word_text known.1 (prim number ack))
  word_is number known is =
      word-append known.1 (61 ∷ decimal (prim number ack)) (word-name known.1 is.bytes) (word-digits (decimal (prim number ack)) (decimal-digits (prim number ack)))

  last_part : (text : List ℕ) → 0 < length text → IsPlain Blank text → parts_of Blank text ≡ text ∷ []
  last_part [] some plain = absurd (omega (arith, some))
  last_part (byte ∷ []) some plain =
      let parts = and_parts (not (separates Blank byte)) true plain.plain in
      ap (λ (b : Bool). cond b ([] ∷ []) ((byte ∷ []) ∷ [])) (not-true (separates Blank byte) parts.0)
  last_part (byte ∷ next ∷ text) some plain =
      let parts = and_parts (not (separates Blank byte)) (list_all (λ b. not (separates Blank b)) (next ∷ text)) plain.plain in
      ap (λ (b : Bool). cond b ([] ∷ parts_of Blank (next ∷ text)) (with_first byte (parts_of Blank (next ∷ text)))) (not-true (separates Blank byte) parts.0)
      ∙ ap (with_first byte) (last_part (next ∷ text) (omega arith) (record { plain = parts.1 }))

  -- the parts of a word and the items after it
  parts_after : (number : ℕ) (names : List PrimitiveName) → AreNamed number names → (word : List ℕ) → 0 < length word → IsPlain Blank word
      → parts_of Blank (word ++ items_text true number names ack) ≡ word ∷ words_from number names
  parts_after number [] are word some plain = ap (parts_of Blank) (append-nil word) ∙ last_part word some plain
  parts_after number (known ∷ rest) are word some plain =
      go (parts_after (number + 1) rest (rest_named are)) (is_shown number (prim number ack))
    where
      next : List ℕ
      next = word_text known.1 (prim number ack)

      go : ((w : List ℕ) → 0 < length w → IsPlain Blank w → parts_of Blank (w ++ items_text true (number + 1) rest ack) ≡ w ∷ words_from (number + 1) rest)
          → (b : Bool) → parts_of Blank (word ++ (cond b (gap true ++ (known.1 ++ (61 ∷ decimal (prim number ack)))) [] ++ items_text true (number + 1) rest ack))
          ≡ word ∷ cond b (next ∷ words_from (number + 1) rest) (words_from (number + 1) rest)
      go later true =
          ended-part Blank word 32 (next ++ items_text true (number + 1) rest ack) plain refl
          ∙ ap (λ ws. word ∷ ws) (later next (some_bytes known.1 (decimal (prim number ack))) (plain_word Blank next (word_is number known (first_named are))))
      go later false = later word some plain

  -- the parts of the items
  parts_all : (number : ℕ) (names : List PrimitiveName) → AreNamed number names → parts_of Blank (items_text false number names ack) ≡ words_from number names
  parts_all number [] are = refl
  parts_all number (known ∷ rest) are = go (parts_all (number + 1) rest (rest_named are)) (is_shown number (prim number ack))
    where
      next : List ℕ
      next = word_text known.1 (prim number ack)

      go : parts_of Blank (items_text false (number + 1) rest ack) ≡ words_from (number + 1) rest
          → (b : Bool) → parts_of Blank (cond b (gap false ++ (known.1 ++ (61 ∷ decimal (prim number ack)))) [] ++ items_text b (number + 1) rest ack)
          ≡ cond b (next ∷ words_from (number + 1) rest) (words_from (number + 1) rest)
      go later true = parts_after (number + 1) rest (rest_named are) next (some_bytes known.1 (decimal (prim number ack))) (plain_word Blank next (word_is number known (first_named are)))
      go later false = later

  -- a word and the items after it are tight
  tight_after : (number : ℕ) (names : List PrimitiveName) → AreNamed number names → (word : List ℕ) → IsTight word → IsTight (word ++ items_text true number names ack)
  tight_after number [] are word tight = subst (λ (t : List ℕ). IsTight t) (sym (append-nil word)) tight
  tight_after number (known ∷ rest) are word tight =
      go (tight_after (number + 1) rest (rest_named are)) (is_shown number (prim number ack))
    where
      next : List ℕ
      next = word_text known.1 (prim number ack)

      go : ((w : List ℕ) → IsTight w → IsTight (w ++ items_text true (number + 1) rest ack))
          → (b : Bool) → IsTight (word ++ (cond b (gap true ++ (known.1 ++ (61 ∷ decimal (prim number ack)))) [] ++ items_text true (number + 1) rest ack))
      go later true =
          tight-append word (next ++ items_text true (number + 1) rest ack) tight
          (later next (tight_word next (some_bytes known.1 (decimal (prim number ack))) (word_is number known (first_named are))))
      go later false = later word tight

  -- the items are tight, since `now` is among them
  tight_all : (number : ℕ) (names : List PrimitiveName) → AreNamed number names → number ≤ now_number → now_number < number + length names → IsTight (items_text false number names ack)
  tight_all number [] are begun there = absurd (omega (arith, begun, there))
  tight_all number (known ∷ rest) are begun there =
      go (tight_all (number + 1) rest (rest_named are)) (is_shown number (prim number ack)) refl
    where
      next : List ℕ
      next = word_text known.1 (prim number ack)

      go : (number + 1 ≤ now_number → now_number < (number + 1) + length rest → IsTight (items_text false (number + 1) rest ack))
          → (b : Bool) → is_shown number (prim number ack) ≡ b
          → IsTight (cond b (gap false ++ (known.1 ++ (61 ∷ decimal (prim number ack)))) [] ++ items_text b (number + 1) rest ack)
      go later true is = tight_after (number + 1) rest (rest_named are) next (tight_word next (some_bytes known.1 (decimal (prim number ack))) (word_is number known (first_named are)))
      go later false is =
          let other : (number == now_number) ≡ false = (or_parts (number == now_number) (nat_lt 0 (prim number ack)) is).0 in
          let below : number + 1 ≤ now_number = grind (arith, nat_tests, other, begun) in
          later below (omega (arith, there))

  -- no line ends within the items
  plain_items : (follows : Bool) (number : ℕ) (names : List PrimitiveName) → AreNamed number names → IsPlain LineFeed (items_text follows number names ack)
  plain_items follows number [] are = record { plain = refl }
  plain_items follows number (known ∷ rest) are =
      plain-append (one (is_shown number (prim number ack))) (plain_items (follows || is_shown number (prim number ack)) (number + 1) rest (rest_named are))
    where
      before : (f : Bool) → IsPlain LineFeed (gap f)
      before true = record { plain = refl }
      before false = record { plain = refl }

      one : (b : Bool) → IsPlain LineFeed (cond b (gap follows ++ (known.1 ++ (61 ∷ decimal (prim number ack)))) [])
      one true = plain-append (before follows) (plain_word LineFeed (word_text known.1 (prim number ack)) (word_is number known (first_named are)))
      one false = record { plain = refl }

-- ---- the item of a word

equals_at : (name rest : List ℕ) → list_all (λ byte. not (byte == 61)) name ≡ true → position_or_len (λ byte. byte == 61) (name ++ 61 ∷ rest) ≡ length name
equals_at [] rest plain = refl
equals_at (byte ∷ name) rest plain =
    let parts = and_parts (not (byte == 61)) (list_all (λ b. not (b == 61)) name) plain in
    let later : position_or_len (λ b. b == 61) (name ++ 61 ∷ rest) ≡ length name = equals_at name rest parts.1 in
    ap (λ (b : Bool). cond b (1 + position_or_len (λ b. b == 61) (name ++ 61 ∷ rest)) 0) parts.0 ∙ omega (arith, later)

found_at : (name rest : List ℕ) → list_all (λ byte. not (byte == 61)) name ≡ true → position (λ byte. byte == 61) (name ++ 61 ∷ rest) ≡ Some (length name)
found_at name rest plain =
    let at = equals_at name rest plain in
    let count = length-append name (61 ∷ rest) in
    let within : nat_lt (length name) (length (name ++ 61 ∷ rest)) ≡ true = grind (arith, nat_tests, count) in
    ap (λ (n : ℕ). cond (nat_lt n (length (name ++ 61 ∷ rest))) (Some n) None) at
    ∙ ap (λ (b : Bool). cond b (Some (length name)) None) within

as_item : (values : LineValues) (name rest : List ℕ) → with_one_word values (name ++ 61 ∷ rest) ≡ with_named_value values (name ++ 61 ∷ rest)
as_item values [] rest = refl
as_item values (byte ∷ name) rest = refl

-- ---- values so far

-- the first items of a list, and this one in place of the others
abbrev front : {A : Type 0} → A → ℕ → List A → List A
front d n [] = []
front d zero (x ∷ xs) = d ∷ front d zero xs
front d (suc n) (x ∷ xs) = x ∷ front d n xs

set-front : {A : Type 0} (d : A) (n : ℕ) (xs : List A) → set (front d n xs) n (get_or xs n d) ≡ front d (suc n) xs
set-front d n [] = refl
set-front d zero (x ∷ xs) = refl
set-front d (suc n) (x ∷ xs) = ap (λ l. x ∷ l) (set-front d n xs)

keep-front : {A : Type 0} (d : A) (n : ℕ) (xs : List A) → get_or xs n d ≡ d → front d n xs ≡ front d (suc n) xs
keep-front d n [] is = refl
keep-front {A} d zero (x ∷ xs) is = ap (λ (y : A). y ∷ front d zero xs) (sym is)
keep-front d (suc n) (x ∷ xs) is = ap (λ l. x ∷ l) (keep-front d n xs is)

module _ (ack : Ack) (fits : IsOf64Bits ack) where
  fits_at : (number : ℕ) → number < primitive_count → prim number ack < 2 ^ 64
  fits_at number below = fits number 0 below

  flag_within : (number : ℕ) → (nat_lt 1 (prim number ack) && is_flag number) ≡ false
  flag_within number = go (is_flag number) refl
    where
      bool_within : (b : Bool) → (nat_lt 1 (bool_number b) && true) ≡ false
      bool_within true = refl
      bool_within false = refl

      go : (b : Bool) → is_flag number ≡ b → (nat_lt 1 (prim number ack) && b) ≡ false
      go true is = ap (λ (n : ℕ). nat_lt 1 (prim n ack) && true) (eqb-true number flag_number is) ∙ bool_within ack.was_timeout
      go false is = and_right (nat_lt 1 (prim number ack)) false refl

  -- the values of all primitives below this number
  record HasValues (number : ℕ) (values : LineValues) : Type 0 where
    numbers : values.numbers ≡ front 0 number (primitives ack)
    unnamed : (n : ℕ) → number ≤ n → get_or values.named n false ≡ false

  abbrev next : ℕ → LineValues → LineValues
  next number values = record { numbers = set values.numbers number (prim number ack); named = set values.named number true }

  has_next : (number : ℕ) (values : LineValues) → HasValues number values → HasValues (number + 1) (next number values)
  has_next number values has = record {
    numbers =
        ap (λ (ns : List ℕ). set ns number (prim number ack)) has.numbers
        ∙ set-front 0 number (primitives ack)
        ∙ ap (λ (n : ℕ). front 0 n (primitives ack)) (let e : suc number ≡ number + 1 = omega arith in e);
    unnamed = λ n above.
        get_or-set_other values.named number n true false (λ e. let bad : ⊥ = omega (arith, e, above) in bad)
        ∙ has.unnamed n (omega (arith, above));
  }

  has_same : (number : ℕ) (values : LineValues) → prim number ack ≡ 0 → HasValues number values → HasValues (number + 1) values
  has_same number values is has = record {
    numbers =
        has.numbers ∙ keep-front 0 number (primitives ack) is
        ∙ ap (λ (n : ℕ). front 0 n (primitives ack)) (let e : suc number ≡ number + 1 = omega arith in e);
    unnamed = λ n above. has.unnamed n (omega (arith, above));
  }

  with_shown : (number : ℕ) (known : PrimitiveName) (values : LineValues) → number < primitive_count → IsNamed number known.1 → HasValues number values
      → with_one_word values (word_text known.1 (prim number ack)) ≡ Some (next number values)
  with_shown number known values below is has =
      let name : List ℕ = known.1 in
      let value : ℕ = prim number ack in
      let digits : List ℕ = decimal value in
      as_item values name digits
      ∙ ap (option_and_then (λ at. with_line_value values (value_named (take at (name ++ 61 ∷ digits))) (numeral_of (drop (at + 1) (name ++ 61 ∷ digits))))) (found_at name digits (no-equals name is.bytes))
      ∙ ap (λ (t : List ℕ). with_line_value values (value_named t) (numeral_of (drop (length name + 1) (name ++ 61 ∷ digits)))) (take-append_seam name (61 ∷ digits))
      ∙ ap (λ (t : List ℕ). with_line_value values (value_named name) (numeral_of t)) (drop-append-add name (61 ∷ digits) 1)
      ∙ ap (λ (o : Option ℕ). with_line_value values o (numeral_of digits)) is.found
      ∙ ap (λ (o : Option ℕ). with_line_value values (Some number) o) (numeral_of-decimal value (fits_at number below))
      ∙ ap (λ (b : Bool). cond (b || (nat_lt 1 value && is_flag number)) None (Some (next number values))) (has.unnamed number (omega arith))
      ∙ ap (λ (b : Bool). cond b None (Some (next number values))) (flag_within number)

  record ComesTo (words : List (List ℕ)) (values : LineValues) : Type 0 where
    final : LineValues
    come : with_each_word (Some values) words ≡ Some final
    has : HasValues primitive_count final

  read_words : (number : ℕ) (names : List PrimitiveName) → number + length names ≡ primitive_count → AreNamed number names
      → (values : LineValues) → HasValues number values → ComesTo (words_from ack number names) values
  read_words number [] count are values has =
      let e : number ≡ primitive_count = omega (arith, count) in
      record { final = values; come = refl; has = subst (λ (n : ℕ). HasValues n values) e has }
  read_words number (known ∷ rest) count are values has =
      go (read_words (number + 1) rest (omega (arith, count)) (rest_named are)) (is_shown number (prim number ack)) refl
    where
      word : List ℕ
      word = word_text known.1 (prim number ack)

      go : ((vs : LineValues) → HasValues (number + 1) vs → ComesTo (words_from ack (number + 1) rest) vs)
          → (b : Bool) → is_shown number (prim number ack) ≡ b → ComesTo (cond b (word ∷ words_from ack (number + 1) rest) (words_from ack (number + 1) rest)) values
      go later true is =
          let come = later (next number values) (has_next number values has) in
          record {
            final = come.final;
            come = ap (λ (o : Option LineValues). with_each_word o (words_from ack (number + 1) rest)) (with_shown number known values (omega (arith, count)) (first_named are) has) ∙ come.come;
            has = come.has;
          }
      go later false is =
          let none : nat_lt 0 (prim number ack) ≡ false = (or_parts (number == now_number) (nat_lt 0 (prim number ack)) is).1 in
          let zero_is : prim number ack ≡ 0 = grind (arith, nat_tests, none) in
          later values (has_same number values zero_is has)

  -- ---- a line

  abbrev line : List ℕ
  line = items_text false 0 primitive_names ack

  tight_line : IsTight line
  tight_line = tight_all ack 0 primitive_names all_named (omega arith) (omega arith)

  none_named : (n k : ℕ) → get_or (replicate n false) k false ≡ false
  none_named zero k = refl
  none_named (suc n) zero = refl
  none_named (suc n) (suc k) = none_named n k

  as_ack : ack_of (primitives ack) ≡ ack
  as_ack = λ i. record ack { was_timeout = true-back ack.was_timeout i }

  said : read_ack_line (without_last 13 line) ≡ given ack
  said =
      let come = read_words 0 primitive_names refl all_named no_values (record { numbers = refl; unnamed = λ n above. none_named primitive_count n }) in
      ap read_ack_line (no_return line tight_line)
      ∙ told line tight_line
      ∙ ap (λ (ws : List (List ℕ)). given_or_refused (with_each_word (Some no_values) ws)) (parts_all ack 0 primitive_names all_named)
      ∙ ap given_or_refused come.come
      ∙ ap (λ (ns : List ℕ). given (ack_of ns)) come.has.numbers
      ∙ ap given as_ack

  first_line : (more : List ℕ) → parts_of LineFeed (ack_line ack ++ more) ≡ line ∷ parts_of LineFeed more
  first_line more =
      ap (parts_of LineFeed) (append_assoc line (10 ∷ []) more)
      ∙ ended-part LineFeed line 10 more (plain_items ack false 0 primitive_names all_named) refl

-- ---- all lines

read_lines : (number : ℕ) (before acks : List Ack) → length (before ++ acks) ≤ most_acks → All IsOf64Bits acks
    → with_lines number (Ok before) (parts_of LineFeed (ack_lines acks)) ≡ Ok (before ++ acks)
read_lines number before [] few fit = ap Ok (sym (append-nil before))
read_lines number before (ack ∷ rest) few fit =
    let fits : IsOf64Bits ack = fit 0 ack (omega arith) in
    let joined = append_assoc before (ack ∷ []) rest in
    let count = length-append before (ack ∷ rest) in
    let within : nat_lt (length before) most_acks ≡ true = grind (arith, nat_tests, count, few) in
    let lines : List (List ℕ) = parts_of LineFeed (ack_lines rest) in
    ap (with_lines number (Ok before)) (first_line ack fits (ack_lines rest))
    ∙ ap (λ (told : AckLine). with_lines (number + 1) (with_line number before told) lines) (said ack fits)
    ∙ ap (λ (b : Bool). with_lines (number + 1) (cond b (Ok (before ++ ack ∷ [])) (Err TooMany)) lines) within
    ∙ read_lines (number + 1) (before ++ ack ∷ []) rest (subst (λ (xs : List Ack). length xs ≤ most_acks) (sym joined) few) (λ k d h. fit (suc k) d (omega (arith, h)))
    ∙ ap Ok joined

pub read_back : ReadsAcksBack
read_back acks next few fit = read_lines next [] acks few fit
