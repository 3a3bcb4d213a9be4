-- The parts of frames are read exactly, and so is what is made of them.
use Rattle.std.proofs.Common.{◌≡◌, ℕ, zero, suc, ◌+◌, ◌-◌, ◌*◌, ◌/◌, ◌%◌, ◌≤◌, ◌<◌, Bool, true, false, cond, ltb, leb, List, [], ◌∷◌, ◌++◌, length, take, drop, replicate, Result, Ok, Err, refl, sym, ap, ◌∙◌, append_assoc, arith, length-append, ◌⊎◌, inl, inr}
use Rattle.std.specs.Prelude.{◌&&◌}
use Rattle.std.specs.Int.{Width, byte_len, from_le_bytes}
use Rattle.std.proofs.lemmas.Bool.{ltb-true, ltb-false, le-ltb, le-leb, and_from}
use Rattle.std.proofs.lemmas.List.{append-nil, take-append-drop, length-take-le, take_at, drop_at, length-replicate}
use Rattle.reply_frames.specs.declared.fault.BadKind.{BadKind}
use Rattle.reply_frames.specs.declared.fault.Stop.{Stop}
use Rattle.reply_frames.specs.declared.fault.Stop.TheVariants.{Cut, Bad}
use Rattle.reply_frames.specs.Parts.{Read, ◌>>=◌, byte_at, number_at, limited_at, exactly_at, repeated_at}
use Rattle.reply_frames.specs.Whole.{AreBytes}
use Rattle.reply_frames.proofs.Exact.{Takes, Completes, Refuses, IsExact}

pub AreBytes-append : (first next : List ℕ) → AreBytes first → AreBytes next → AreBytes (first ++ next)
AreBytes-append [] next a b = b
AreBytes-append (byte ∷ first) next a b = (a.0, AreBytes-append first next a.1 b)

AreBytes-zeros : (n : ℕ) → AreBytes (replicate n 0)
AreBytes-zeros zero = tt
AreBytes-zeros (suc n) = (omega arith, AreBytes-zeros n)

right_nil : (front rest : List ℕ) → [] ≡ front ++ rest → rest ≡ []
right_nil [] rest e = sym e
right_nil (byte ∷ front) rest e = absurd cc

not_nil : (front : List ℕ) (byte : ℕ) (after : List ℕ) → [] ≡ front ++ byte ∷ after → ⊥
not_nil [] byte after e = cc
not_nil (first ∷ front) byte after e = cc

pub bind_ok : {A B : Type 0} (read : Result A Stop) (next : A → Result B Stop) (y : B) → (read >>= next) ≡ Ok y → (x : A) × (read ≡ Ok x) × (next x ≡ Ok y)
bind_ok (Ok x) next y e = (x, refl, e)
bind_ok (Err stop) next y e = absurd cc

bind_err : {A B : Type 0} (read : Result A Stop) (next : A → Result B Stop) (stop : Stop) → (read >>= next) ≡ Err stop → (read ≡ Err stop) ⊎ ((x : A) × (read ≡ Ok x) × (next x ≡ Err stop))
bind_err (Ok x) next stop e = inr (x, refl, e)
bind_err (Err other) next stop e = inl (let same : other ≡ stop = cc in ap Err same)

abbrev both : {A B : Type 0} → (List ℕ → Read A) → (A × List ℕ → Read B) → List ℕ → Read B
both part next bytes = part bytes >>= next

-- what is left of `both` after the first part
both-taken : {A B : Type 0} (part : List ℕ → Read A) (next : A × List ℕ → Read B) (bytes : List ℕ) (x : A) (rest : List ℕ) (t : Takes part bytes x rest) (front other : List ℕ) → both part next ((t.front ++ front) ++ other) ≡ next (x, front ++ other)
both-taken part next bytes x rest t front other = ap (both part next) (append_assoc t.front front other) ∙ ap (λ read. read >>= next) (t.again (front ++ other))

-- bytes that are one whole part, and more
whole-more : {A : Type 0} (part : List ℕ → Read A) (exact : IsExact part) (bytes : List ℕ) (x : A) (more : List ℕ) → part bytes ≡ Ok (x, []) → part (bytes ++ more) ≡ Ok (x, more)
whole-more part exact bytes x more e =
    let t = exact.taken bytes x [] e in
    ap (λ front. part (front ++ more)) (t.parts ∙ append-nil t.front) ∙ t.again more

both-cut_first : {A B : Type 0} (part : List ℕ → Read A) (next : A × List ℕ → Read B) (exact : IsExact part) (exact_next : (x : A) → IsExact (λ rest. next (x, rest))) (bytes : List ℕ) (c : Completes part bytes) (read : Read B)
    → next (c.value, []) ≡ read → Completes (both part next) bytes
both-cut_first part next exact exact_next bytes c (Ok (y, rest)) e =
    let t = (exact_next c.value).taken [] y rest e in
    let nil : rest ≡ [] = right_nil t.front rest t.parts in
    record { more = c.more; are_bytes = c.are_bytes; value = y; whole = ap (λ read. read >>= next) c.whole ∙ e ∙ ap (λ rest. Ok (y, rest)) nil }
both-cut_first part next exact exact_next bytes c (Err Cut) e =
    let c' = (exact_next c.value).cut [] e in
    record {
      more = c.more ++ c'.more;
      are_bytes = AreBytes-append c.more c'.more c.are_bytes c'.are_bytes;
      value = c'.value;
      whole = ap (both part next) (sym (append_assoc bytes c.more c'.more)) ∙ ap (λ read. read >>= next) (whole-more part exact (bytes ++ c.more) c.value c'.more c.whole) ∙ c'.whole;
    }
both-cut_first part next exact exact_next bytes c (Err (Bad field left)) e =
    let r = (exact_next c.value).bad [] field left e in
    absurd (not_nil r.front r.byte r.after r.parts)

both-cut_next : {A B : Type 0} (part : List ℕ → Read A) (next : A × List ℕ → Read B) (bytes : List ℕ) (x : A) (rest : List ℕ) → Takes part bytes x rest → Completes (λ rest. next (x, rest)) rest → Completes (both part next) bytes
both-cut_next part next bytes x rest t c = record {
  more = c.more;
  are_bytes = c.are_bytes;
  value = c.value;
  whole = ap (λ bytes. both part next (bytes ++ c.more)) t.parts ∙ both-taken part next bytes x rest t rest c.more ∙ c.whole;
}

both-bad_first : {A B : Type 0} (part : List ℕ → Read A) (next : A × List ℕ → Read B) (bytes : List ℕ) (field : BadKind) (left : ℕ) → Refuses part bytes field left → Refuses (both part next) bytes field left
both-bad_first part next bytes field left r = record {
  front = r.front;
  byte = r.byte;
  after = r.after;
  parts = r.parts;
  left_is = r.left_is;
  cut = ap (λ read. read >>= next) r.cut;
  again = λ other. ap (λ read. read >>= next) (r.again other);
}

both-bad_next : {A B : Type 0} (part : List ℕ → Read A) (next : A × List ℕ → Read B) (bytes : List ℕ) (x : A) (rest : List ℕ) (field : BadKind) (left : ℕ) → Takes part bytes x rest → Refuses (λ rest. next (x, rest)) rest field left → Refuses (both part next) bytes field left
both-bad_next part next bytes x rest field left t r = record {
  front = t.front ++ r.front;
  byte = r.byte;
  after = r.after;
  parts = t.parts ∙ ap (λ xs. t.front ++ xs) r.parts ∙ sym (append_assoc t.front r.front (r.byte ∷ r.after));
  left_is = r.left_is;
  cut = ap (λ read. read >>= next) (t.again r.front) ∙ r.cut;
  again = λ other. both-taken part next bytes x rest t r.front (r.byte ∷ other) ∙ r.again other;
}

-- one part after the other
pub exact-then : {A B : Type 0} (part : List ℕ → Read A) (next : A × List ℕ → Read B) → IsExact part → ((x : A) → IsExact (λ rest. next (x, rest))) → IsExact (λ bytes. part bytes >>= next)
exact-then part next exact exact_next = record {
  taken = λ bytes y rest e.
      let b = bind_ok (part bytes) next (y, rest) e in
      let t = exact.taken bytes b.0.0 b.0.1 b.1 in
      let u = (exact_next b.0.0).taken b.0.1 y rest b.2 in
      record {
        front = t.front ++ u.front;
        parts = t.parts ∙ ap (λ xs. t.front ++ xs) u.parts ∙ sym (append_assoc t.front u.front rest);
        again = λ other. both-taken part next bytes b.0.0 b.0.1 t u.front other ∙ u.again other;
      };
  cut = λ bytes e.
      elim (bind_err (part bytes) next Cut e) [
        | inl first ↦ both-cut_first part next exact exact_next bytes (exact.cut bytes first) (next ((exact.cut bytes first).value, [])) refl
        | inr b ↦ both-cut_next part next bytes b.0.0 b.0.1 (exact.taken bytes b.0.0 b.0.1 b.1) ((exact_next b.0.0).cut b.0.1 b.2)
      ];
  bad = λ bytes field left e.
      elim (bind_err (part bytes) next (Bad field left) e) [
        | inl first ↦ both-bad_first part next bytes field left (exact.bad bytes field left first)
        | inr b ↦ both-bad_next part next bytes b.0.0 b.0.1 field left (exact.taken bytes b.0.0 b.0.1 b.1) ((exact_next b.0.0).bad b.0.1 field left b.2)
      ];
}

-- no bytes at all
pub exact-ok : {A : Type 0} (value : A) → IsExact (λ bytes. Ok (value, bytes))
exact-ok {A = A} value = record {
  taken = λ bytes y rest e. let pair : ◌≡◌ {A = A × List ℕ} (value, bytes) (y, rest) = cc in record { front = []; parts = ap (λ (p : A × List ℕ). p.1) pair; again = λ other. ap (λ (p : A × List ℕ). Ok (p.0, other)) pair };
  cut = λ bytes e. absurd cc;
  bad = λ bytes field left e. absurd cc;
}

pub exact-if : {A : Type 0} (b : Bool) (one other : List ℕ → Read A) → IsExact one → IsExact other → IsExact (λ bytes. cond b (one bytes) (other bytes))
exact-if true one other exact exact' = exact
exact-if false one other exact exact' = exact'

-- ---- a byte

pub byte-ok : (field : BadKind) (b : Bool) (byte : ℕ) (bytes : List ℕ) (value : ℕ) (rest : List ℕ) (stop : Stop) → cond {A = Read ℕ} b (Ok (byte, bytes)) (Err stop) ≡ Ok (value, rest) → (b ≡ true) × (byte ≡ value) × (bytes ≡ rest)
byte-ok field true byte bytes value rest stop e =
    let pair : ◌≡◌ {A = ℕ × List ℕ} (byte, bytes) (value, rest) = cc in
    (refl, ap (λ (p : ℕ × List ℕ). p.0) pair, ap (λ (p : ℕ × List ℕ). p.1) pair)
byte-ok field false byte bytes value rest stop e = absurd cc

byte-err : (b : Bool) (byte : ℕ) (bytes : List ℕ) (stop stop' : Stop) → cond {A = Read ℕ} b (Ok (byte, bytes)) (Err stop) ≡ Err stop' → (b ≡ false) × (stop ≡ stop')
byte-err true byte bytes stop stop' e = absurd cc
byte-err false byte bytes stop stop' e = (refl, cc)

abbrev pub within : ℕ → ℕ → ℕ → Bool
within least most byte = leb least byte && leb byte most

pub byte-within : (field : BadKind) (least most byte : ℕ) (bytes : List ℕ) → within least most byte ≡ true → byte_at field least most (byte ∷ bytes) ≡ Ok (byte, bytes)
byte-within field least most byte bytes e = ap (λ b. cond b (Ok (byte, bytes)) (Err (Bad field (length (byte ∷ bytes))))) e

byte-outside : (field : BadKind) (least most byte : ℕ) (bytes : List ℕ) → within least most byte ≡ false → byte_at field least most (byte ∷ bytes) ≡ Err (Bad field (length (byte ∷ bytes)))
byte-outside field least most byte bytes e = ap (λ b. cond b (Ok (byte, bytes)) (Err (Bad field (length (byte ∷ bytes))))) e

byte-taken : (field : BadKind) (least most : ℕ) (bytes : List ℕ) (value : ℕ) (rest : List ℕ) → byte_at field least most bytes ≡ Ok (value, rest) → Takes (byte_at field least most) bytes value rest
byte-taken field least most [] value rest e = absurd cc
byte-taken field least most (byte ∷ bytes) value rest e =
    let b = byte-ok field (within least most byte) byte bytes value rest (Bad field (length (byte ∷ bytes))) e in
    record {
      front = byte ∷ [];
      parts = ap (λ xs. byte ∷ xs) b.2;
      again = λ other. byte-within field least most byte other b.0 ∙ ap (λ v. Ok (v, other)) b.1;
    }

byte-cut : (field : BadKind) (least most : ℕ) → least ≤ most → least < 256 → (bytes : List ℕ) → byte_at field least most bytes ≡ Err Cut → Completes (byte_at field least most) bytes
byte-cut field least most some small [] e = record {
  more = least ∷ [];
  are_bytes = (small, tt);
  value = least;
  whole = byte-within field least most least [] (and_from (leb least least) (leb least most) (le-leb least least (omega arith)) (le-leb least most some));
}
byte-cut field least most some small (byte ∷ bytes) e =
    let b = byte-err (within least most byte) byte bytes (Bad field (length (byte ∷ bytes))) Cut e in
    let same : Bad field (length (byte ∷ bytes)) ≡ Cut = b.1 in
    absurd cc

byte-bad : (field : BadKind) (least most : ℕ) (bytes : List ℕ) (field' : BadKind) (left : ℕ) → byte_at field least most bytes ≡ Err (Bad field' left) → Refuses (byte_at field least most) bytes field' left
byte-bad field least most [] field' left e = absurd cc
byte-bad field least most (byte ∷ bytes) field' left e =
    let b = byte-err (within least most byte) byte bytes (Bad field (length (byte ∷ bytes))) (Bad field' left) e in
    let same : Bad field (length (byte ∷ bytes)) ≡ Bad field' left = b.1 in
    let one : field ≡ field' = cc in
    let count : length (byte ∷ bytes) ≡ left = cc in
    record {
      front = [];
      byte = byte;
      after = bytes;
      parts = refl;
      left_is = sym count;
      cut = refl;
      again = λ other. byte-outside field least most byte other b.0 ∙ ap (λ f. Err (Bad f (length (byte ∷ other)))) one;
    }

pub exact-byte : (field : BadKind) (least most : ℕ) → least ≤ most → least < 256 → IsExact (byte_at field least most)
exact-byte field least most some small = record {
  taken = byte-taken field least most;
  cut = byte-cut field least most some small;
  bad = byte-bad field least most;
}

-- ---- a number of any value

pub front-ok : {A : Type 0} (b : Bool) (x y : A) → cond b (Err Cut) (Ok x) ≡ Ok y → (b ≡ false) × (x ≡ y)
front-ok true x y e = absurd cc
front-ok false x y e = (refl, cc)

front-err : {A : Type 0} (b : Bool) (x : A) (stop : Stop) → cond b (Err Cut) (Ok x) ≡ Err stop → (b ≡ true) × (Cut ≡ stop)
front-err true x stop e = (refl, cc)
front-err false x stop e = absurd cc

abbrev pub front_at : ℕ → (List ℕ → ℕ) → List ℕ → Read ℕ
front_at n number bytes = cond (ltb (length bytes) n) (Err Cut) (Ok (number (take n bytes), drop n bytes))

pub front-there : (n : ℕ) (number : List ℕ → ℕ) (front other : List ℕ) → length front ≡ n → front_at n number (front ++ other) ≡ Ok (number front, other)
front-there n number front other len =
    let long : ltb (length (front ++ other)) n ≡ false = le-ltb _ _ (omega (arith, length-append front other)) in
    rw (long, take_at front other n len, drop_at front other n len) refl

exact-front : (n : ℕ) (number : List ℕ → ℕ) → IsExact (front_at n number)
exact-front n number = record {
  taken = λ bytes value rest e.
      let f = front-ok (ltb (length bytes) n) (number (take n bytes), drop n bytes) (value, rest) e in
      let long : n ≤ length bytes = ltb-false _ _ f.0 in
      let value_is : number (take n bytes) ≡ value = ap (λ (p : ℕ × List ℕ). p.0) f.1 in
      let rest_is : drop n bytes ≡ rest = ap (λ (p : ℕ × List ℕ). p.1) f.1 in
      record {
        front = take n bytes;
        parts = sym (take-append-drop n bytes) ∙ ap (λ xs. take n bytes ++ xs) rest_is;
        again = λ other. front-there n number (take n bytes) other (length-take-le n bytes long) ∙ ap (λ v. Ok (v, other)) value_is;
      };
  cut = λ bytes e.
      let f = front-err (ltb (length bytes) n) (number (take n bytes), drop n bytes) Cut e in
      let short : length bytes < n = ltb-true _ _ f.0 in
      let zeros : List ℕ = replicate (n - length bytes) 0 in
      let len : length (bytes ++ zeros) ≡ n = omega (arith, length-append bytes zeros, length-replicate {A = ℕ} (n - length bytes) 0) in
      record {
        more = zeros;
        are_bytes = AreBytes-zeros (n - length bytes);
        value = number (bytes ++ zeros);
        whole = ap (front_at n number) (sym (append-nil (bytes ++ zeros))) ∙ front-there n number (bytes ++ zeros) [] len;
      };
  bad = λ bytes field left e.
      let f = front-err (ltb (length bytes) n) (number (take n bytes), drop n bytes) (Bad field left) e in
      let same : Cut ≡ Bad field left = f.1 in
      absurd cc;
}

pub exact-number : (w : Width) → IsExact (number_at w)
exact-number w = exact-front (byte_len w) (from_le_bytes w)

-- ---- numbers within a limit, one number alone, parts of one form

pub exact-limited : (field : BadKind) (width most : ℕ) → IsExact (limited_at field width most)
unfolding limited_at
exact-limited field zero most = exact-ok 0
exact-limited field (suc width) most =
    exact-then (byte_at field 0 most) (λ low. limited_at field width ((most - low.0) / 256) low.1 >>= λ high. Ok (low.0 + 256 * high.0, high.1))
    (exact-byte field 0 most (omega arith) (omega arith))
    (λ low. exact-then (limited_at field width ((most - low) / 256)) (λ high. Ok (low + 256 * high.0, high.1)) (exact-limited field width ((most - low) / 256)) (λ high. exact-ok (low + 256 * high)))

pub exact-exactly : (field : BadKind) (width number : ℕ) → IsExact (exactly_at field width number)
unfolding exactly_at
exact-exactly field zero number = exact-ok 0
exact-exactly field (suc width) number =
    exact-then (byte_at field (number % 256) (number % 256)) (λ low. exactly_at field width (number / 256) low.1 >>= λ high. Ok (low.0 + 256 * high.0, high.1))
    (exact-byte field (number % 256) (number % 256) (omega arith) (omega arith))
    (λ low. exact-then (exactly_at field width (number / 256)) (λ high. Ok (low + 256 * high.0, high.1)) (exact-exactly field width (number / 256)) (λ high. exact-ok (low + 256 * high)))

pub exact-repeated : {A : Type 0} (part : List ℕ → Read A) → IsExact part → (count : ℕ) → IsExact (repeated_at part count)
unfolding repeated_at
exact-repeated part exact zero = exact-ok []
exact-repeated part exact (suc count) =
    exact-then part (λ first. repeated_at part count first.1 >>= λ others. Ok (first.0 ∷ others.0, others.1)) exact
    (λ first. exact-then (repeated_at part count) (λ others. Ok (first ∷ others.0, others.1)) (exact-repeated part exact count) (λ others. exact-ok (first ∷ others)))
