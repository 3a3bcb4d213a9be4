-- A part of a frame is read from what it is written as, and from nothing else. The two directions of a part, and of
-- what is made of parts.
use Rattle.std.proofs.Common.{◌≡◌, ℕ, zero, suc, ◌+◌, ◌-◌, ◌*◌, ◌/◌, ◌%◌, ◌^◌, ◌≤◌, ◌<◌, leb, ltb, List, [], ◌∷◌, ◌++◌, length, get_or, take, drop, Ok, refl, sym, ap, subst, ◌∙◌, append_assoc, arith, inl, inr}
use Rattle.std.specs.List.{flat_map, AllByRecursion}
use Rattle.std.specs.Int.{w16, w32, w64, to_le_bytes, from_le_bytes}
use Rattle.std.proofs.lemmas.Bool.{cases_lt, ltb-false, leb-true, le-leb, and_parts, and_from}
use Rattle.std.proofs.lemmas.List.{take-append-drop, length-take, get_or-drop, get_or-take, get_or_past}
use Rattle.std.proofs.lemmas.List.Concat.{flat_map-cons}
use Rattle.std.proofs.lemmas.Nat.{le_bytes_2, le_bytes_4, le_bytes_8, from_le_bytes-to_le_bytes_2, from_le_bytes-to_le_bytes_4, from_le_bytes-to_le_bytes_8}
use Rattle.reply_frames.specs.declared.fault.BadKind.{BadKind}
use Rattle.reply_frames.specs.declared.fault.Stop.TheVariants as stops
use Rattle.reply_frames.specs.Parts.{Read, ◌>>=◌, byte_at, number_at, limited_at, exactly_at, repeated_at}
use Rattle.reply_frames.proofs.ExactParts.{within, byte-within, byte-ok, bind_ok, front-ok, front-there}

-- each of these is a byte
abbrev pub AllBytes : List ℕ → Type 0
AllBytes bytes = (i : ℕ) → get_or bytes i 0 < 256

AllBytes-rest : (byte : ℕ) (bytes : List ℕ) → AllBytes (byte ∷ bytes) → AllBytes bytes
AllBytes-rest byte bytes fits i = fits (suc i)

pub AllBytes-drop : (n : ℕ) (bytes : List ℕ) → AllBytes bytes → AllBytes (drop n bytes)
AllBytes-drop n bytes fits i = rw get_or-drop (fits (n + i))

pub AllBytes-take : (n : ℕ) (bytes : List ℕ) → AllBytes bytes → AllBytes (take n bytes)
AllBytes-take n bytes fits i =
    elim (cases_lt i n) [
      | inl lt ↦ rw (get_or-take n bytes i 0 lt) (fits i)
      | inr le ↦ rw (get_or_past (take n bytes) i 0 (omega (arith, length-take n bytes))) (omega arith)
    ]

-- what a part took from the front
pub record IsSpelled (bytes text rest : List ℕ) : Type 0 where
  pub parts : bytes ≡ text ++ rest
  pub rest_fits : AllBytes rest

pub spelled-then : (a x b y c : List ℕ) → IsSpelled a x b → IsSpelled b y c → IsSpelled a (x ++ y) c
spelled-then a x b y c p q = record { parts = p.parts ∙ ap (λ xs. x ++ xs) q.parts ∙ sym (append_assoc x y c); rest_fits = q.rest_fits }

abbrev pub pair : {A : Type 0} → A → List ℕ → A × List ℕ
pair x rest = (x, rest)

pub ok-pair : {A : Type 0} (x y : A × List ℕ) → ◌≡◌ {A = Read A} (Ok x) (Ok y) → x ≡ y
ok-pair x y e = cc

pub byte-again : (field : BadKind) (least most byte : ℕ) (rest : List ℕ) → least ≤ byte → byte ≤ most → byte_at field least most (byte ∷ rest) ≡ Ok (byte, rest)
byte-again field least most byte rest low high = byte-within field least most byte rest (and_from (leb least byte) (leb byte most) (le-leb least byte low) (le-leb byte most high))

pub byte-is : (field : BadKind) (least most : ℕ) (bytes : List ℕ) (x : ℕ × List ℕ) → AllBytes bytes → byte_at field least most bytes ≡ Ok x → IsSpelled bytes (x.0 ∷ []) x.1 × (least ≤ x.0) × (x.0 ≤ most)
byte-is field least most [] x fits e = absurd cc
byte-is field least most (byte ∷ bytes) x fits e =
    let b = byte-ok field (within least most byte) byte bytes x.0 x.1 (stops.Bad field (length (byte ∷ bytes))) e in
    let bounds = and_parts (leb least byte) (leb byte most) b.0 in
    let low : least ≤ byte = leb-true least byte bounds.0 in
    let high : byte ≤ most = leb-true byte most bounds.1 in
    (record { parts = ap (λ v. v ∷ bytes) b.1 ∙ ap (λ xs. x.0 ∷ xs) b.2; rest_fits = rw (← b.2) (AllBytes-rest byte bytes fits) }, omega (arith, b.1), omega (arith, b.1))

pub number32-again : (n : ℕ) (rest : List ℕ) → n < 2 ^ 32 → number_at w32 (to_le_bytes w32 n ++ rest) ≡ Ok (n, rest)
number32-again n rest lt = front-there 4 (from_le_bytes w32) (to_le_bytes w32 n) rest refl ∙ ap (λ v. Ok (v, rest)) (from_le_bytes-to_le_bytes_4 n lt)

pub number64-again : (n : ℕ) (rest : List ℕ) → n < 2 ^ 64 → number_at w64 (to_le_bytes w64 n ++ rest) ≡ Ok (n, rest)
number64-again n rest lt = front-there 8 (from_le_bytes w64) (to_le_bytes w64 n) rest refl ∙ ap (λ v. Ok (v, rest)) (from_le_bytes-to_le_bytes_8 n lt)

pub number32-is : (bytes : List ℕ) (x : ℕ × List ℕ) → AllBytes bytes → number_at w32 bytes ≡ Ok x → IsSpelled bytes (to_le_bytes w32 x.0) x.1 × (x.0 < 2 ^ 32)
number32-is bytes x fits e =
    let f = front-ok (ltb (length bytes) 4) (pair (from_le_bytes w32 (take 4 bytes)) (drop 4 bytes)) x e in
    let long : 4 ≤ length bytes = ltb-false _ _ f.0 in
    let front_fits = AllBytes-take 4 bytes fits in
    let front : to_le_bytes w32 (from_le_bytes w32 (take 4 bytes)) ≡ take 4 bytes = le_bytes_4 (take 4 bytes) _ (omega (arith, length-take 4 bytes)) front_fits refl in
    let below : from_le_bytes w32 (take 4 bytes) < 2 ^ 32 = omega (arith, front_fits 0, front_fits 1, front_fits 2, front_fits 3) in
    subst (λ (x : ℕ × List ℕ). IsSpelled bytes (to_le_bytes w32 x.0) x.1 × (x.0 < 2 ^ 32)) f.1
    (record { parts = sym (take-append-drop 4 bytes) ∙ ap (λ xs. xs ++ drop 4 bytes) (sym front); rest_fits = AllBytes-drop 4 bytes fits }, below)

pub number64-is : (bytes : List ℕ) (x : ℕ × List ℕ) → AllBytes bytes → number_at w64 bytes ≡ Ok x → IsSpelled bytes (to_le_bytes w64 x.0) x.1 × (x.0 < 2 ^ 64)
number64-is bytes x fits e =
    let f = front-ok (ltb (length bytes) 8) (pair (from_le_bytes w64 (take 8 bytes)) (drop 8 bytes)) x e in
    let long : 8 ≤ length bytes = ltb-false _ _ f.0 in
    let front_fits = AllBytes-take 8 bytes fits in
    let front : to_le_bytes w64 (from_le_bytes w64 (take 8 bytes)) ≡ take 8 bytes = le_bytes_8 (take 8 bytes) _ (omega (arith, length-take 8 bytes)) front_fits refl in
    let below : from_le_bytes w64 (take 8 bytes) < 2 ^ 64 = omega (arith, front_fits 0, front_fits 1, front_fits 2, front_fits 3, front_fits 4, front_fits 5, front_fits 6, front_fits 7) in
    subst (λ (x : ℕ × List ℕ). IsSpelled bytes (to_le_bytes w64 x.0) x.1 × (x.0 < 2 ^ 64)) f.1
    (record { parts = sym (take-append-drop 8 bytes) ∙ ap (λ xs. xs ++ drop 8 bytes) (sym front); rest_fits = AllBytes-drop 8 bytes fits }, below)

-- the digits of a number in base 256, the lowest first
abbrev pub low_digits : ℕ → ℕ → List ℕ
low_digits zero n = []
low_digits (suc width) n = (n % 256) ∷ low_digits width (n / 256)

pub le_bytes-digits : (n : ℕ) → to_le_bytes w32 n ≡ low_digits 4 n
le_bytes-digits n =
    let second : n / 65536 % 256 ≡ n / 256 / 256 % 256 = ap (λ k. k % 256) (omega arith) in
    let third : n / 16777216 % 256 ≡ n / 256 / 256 / 256 % 256 = ap (λ k. k % 256) (omega arith) in
    ap (λ x. (n % 256) ∷ (n / 256 % 256) ∷ x ∷ (n / 16777216 % 256) ∷ []) second ∙ ap (λ x. (n % 256) ∷ (n / 256 % 256) ∷ (n / 256 / 256 % 256) ∷ x ∷ []) third

pub exactly-is : (field : BadKind) (width n : ℕ) (bytes : List ℕ) (x : ℕ × List ℕ) → AllBytes bytes → exactly_at field width n bytes ≡ Ok x → IsSpelled bytes (low_digits width n) x.1
unfolding exactly_at
exactly-is field zero n bytes x fits e = subst (λ (x : ℕ × List ℕ). IsSpelled bytes [] x.1) (ok-pair (pair 0 bytes) x e) (record { parts = refl; rest_fits = fits })
exactly-is field (suc width) n bytes x fits e =
    let a = bind_ok (byte_at field (n % 256) (n % 256) bytes) (λ low. exactly_at field width (n / 256) low.1 >>= λ high. Ok (low.0 + 256 * high.0, high.1)) x e in
    let b = bind_ok (exactly_at field width (n / 256) a.0.1) (λ high. Ok (a.0.0 + 256 * high.0, high.1)) x a.2 in
    let low = byte-is field (n % 256) (n % 256) bytes a.0 fits a.1 in
    let digit : a.0.0 ≡ n % 256 = omega (arith, low.1, low.2) in
    let first : IsSpelled bytes ((n % 256) ∷ []) a.0.1 = rw digit at low.0 in
    let others = exactly-is field width (n / 256) a.0.1 b.0 first.rest_fits b.1 in
    let both : IsSpelled bytes (low_digits (suc width) n) b.0.1 = spelled-then bytes ((n % 256) ∷ []) a.0.1 (low_digits width (n / 256)) b.0.1 first others in
    subst (λ (x : ℕ × List ℕ). IsSpelled bytes (low_digits (suc width) n) x.1) (ok-pair (pair (a.0.0 + 256 * b.0.0) b.0.1) x b.2) both

-- from these bytes the part is read as x, whatever follows them
pub record Writes {A : Type 0} (part : List ℕ → Read A) (x : A) (text : List ℕ) : Type 0 where
  pub again : (rest : List ℕ) → part (text ++ rest) ≡ Ok (x, rest)

pub writes-then : {A B : Type 0} (part : List ℕ → Read A) (next : A × List ℕ → Read B) (x : A) (y : B) (text text' : List ℕ) → Writes part x text → Writes (λ rest. next (x, rest)) y text' → Writes (λ bytes. part bytes >>= next) y (text ++ text')
writes-then part next x y text text' one other = record {
  again = λ rest. ap (λ bytes. part bytes >>= next) (append_assoc text text' rest) ∙ ap (λ read. read >>= next) (one.again (text' ++ rest)) ∙ other.again rest;
}

-- the last of several parts
pub writes-last : {A B : Type 0} (part : List ℕ → Read A) (made : A → B) (x : A) (text : List ℕ) → Writes part x text → Writes (λ bytes. part bytes >>= λ r. Ok (made r.0, r.1)) (made x) text
writes-last part made x text one = record { again = λ rest. ap (λ read. read >>= λ r. Ok (made r.0, r.1)) (one.again rest) }

-- what is read is valid, and was written so
abbrev pub IsReadBy : {A : Type 0} → (List ℕ → Read A) → (A → List ℕ) → (A → Type 0) → Type 0
IsReadBy {A} part text Valid = (bytes : List ℕ) (x : A × List ℕ) → AllBytes bytes → part bytes ≡ Ok x → IsSpelled bytes (text x.0) x.1 × Valid x.0

-- the value was read from a front of the bytes, and both have this property
pub record Was {B : Type 0} (Q : B → List ℕ → Type 0) (bytes : List ℕ) (y : B × List ℕ) : Type 0 where
  pub text : List ℕ
  pub spelled : IsSpelled bytes text y.1
  pub holds : Q y.0 text

abbrev pub IsRead : {B : Type 0} → (List ℕ → Read B) → (B → List ℕ → Type 0) → Type 0
IsRead {B} part Q = (bytes : List ℕ) (y : B × List ℕ) → AllBytes bytes → part bytes ≡ Ok y → Was Q bytes y

pub read-then : {A B : Type 0} (part : List ℕ → Read A) (next : A × List ℕ → Read B) (text : A → List ℕ) (Valid : A → Type 0) (Q : B → List ℕ → Type 0)
    → IsReadBy part text Valid → ((x : A) → Valid x → IsRead (λ rest. next (x, rest)) (λ y text'. Q y (text x ++ text'))) → IsRead (λ bytes. part bytes >>= next) Q
read-then part next text Valid Q one others bytes y fits e =
    let b = bind_ok (part bytes) next y e in
    let first = one bytes b.0 fits b.1 in
    let rest = others b.0.0 first.1 b.0.1 y first.0.rest_fits b.2 in
    record { text = text b.0.0 ++ rest.text; spelled = spelled-then bytes (text b.0.0) b.0.1 rest.text y.1 first.0 rest.spelled; holds = rest.holds }

pub read-last : {A B : Type 0} (part : List ℕ → Read A) (made : A → B) (text : A → List ℕ) (Valid : A → Type 0) (Q : B → List ℕ → Type 0)
    → IsReadBy part text Valid → ((x : A) → Valid x → Q (made x) (text x)) → IsRead (λ bytes. part bytes >>= λ r. Ok (made r.0, r.1)) Q
read-last {B = B} part made text Valid Q one is bytes y fits e =
    let b = bind_ok (part bytes) (λ r. Ok (made r.0, r.1)) y e in
    let first = one bytes b.0 fits b.1 in
    let here : Was Q bytes (pair (made b.0.0) b.0.1) = record { text = text b.0.0; spelled = first.0; holds = is b.0.0 first.1 } in
    subst (λ (y : B × List ℕ). Was Q bytes y) (ok-pair (pair (made b.0.0) b.0.1) y b.2) here

abbrev pub IsWritten : {A : Type 0} → (A → List ℕ) → (A → Type 0) → A → List ℕ → Type 0
IsWritten text Valid x text' = (text' ≡ text x) × Valid x

pub read-by : {A : Type 0} (part : List ℕ → Read A) (text : A → List ℕ) (Valid : A → Type 0) → IsRead part (IsWritten text Valid) → IsReadBy part text Valid
read-by part text Valid read bytes x fits e =
    let w = read bytes x fits e in
    (subst (λ text. IsSpelled bytes text x.1) w.holds.0 w.spelled, w.holds.1)

-- ---- bytes and numbers

pub byte-reads : (field : BadKind) (least most : ℕ) → IsReadBy (byte_at field least most) (λ n. n ∷ []) (λ n. (least ≤ n) × (n ≤ most))
byte-reads field least most bytes x fits e = let b = byte-is field least most bytes x fits e in (b.0, (b.1, b.2))

pub byte-writes : (field : BadKind) (least most n : ℕ) → least ≤ n → n ≤ most → Writes (byte_at field least most) n (n ∷ [])
byte-writes field least most n low high = record { again = λ rest. byte-again field least most n rest low high }

pub number16-reads : IsReadBy (number_at w16) (to_le_bytes w16) (λ n. n < 2 ^ 16)
number16-reads bytes x fits e =
    let f = front-ok (ltb (length bytes) 2) (pair (from_le_bytes w16 (take 2 bytes)) (drop 2 bytes)) x e in
    let long : 2 ≤ length bytes = ltb-false _ _ f.0 in
    let front_fits = AllBytes-take 2 bytes fits in
    let front : to_le_bytes w16 (from_le_bytes w16 (take 2 bytes)) ≡ take 2 bytes = le_bytes_2 (take 2 bytes) _ (omega (arith, length-take 2 bytes)) front_fits refl in
    let below : from_le_bytes w16 (take 2 bytes) < 2 ^ 16 = omega (arith, front_fits 0, front_fits 1) in
    subst (λ (x : ℕ × List ℕ). IsSpelled bytes (to_le_bytes w16 x.0) x.1 × (x.0 < 2 ^ 16)) f.1
    (record { parts = sym (take-append-drop 2 bytes) ∙ ap (λ xs. xs ++ drop 2 bytes) (sym front); rest_fits = AllBytes-drop 2 bytes fits }, below)

pub number16-writes : (n : ℕ) → n < 2 ^ 16 → Writes (number_at w16) n (to_le_bytes w16 n)
number16-writes n lt = record { again = λ rest. front-there 2 (from_le_bytes w16) (to_le_bytes w16 n) rest refl ∙ ap (λ v. Ok (v, rest)) (from_le_bytes-to_le_bytes_2 n lt) }

-- ---- numbers within a limit

-- the number has at most this many bytes
abbrev pub HasWidth : ℕ → ℕ → Type 0
HasWidth zero n = n ≡ 0
HasWidth (suc width) n = HasWidth width (n / 256)

limited-again : (field : BadKind) (width most n : ℕ) (rest : List ℕ) → HasWidth width n → n ≤ most → limited_at field width most (low_digits width n ++ rest) ≡ Ok (n, rest)
unfolding limited_at
limited-again field zero most n rest short le = ap (λ k. Ok (k, rest)) (sym short)
limited-again field (suc width) most n rest short le =
    let high : n / 256 ≤ (most - n % 256) / 256 = omega arith in
    let sum : n % 256 + 256 * (n / 256) ≡ n = omega arith in
    ap (λ (read : Read ℕ). read >>= λ low. limited_at field width ((most - low.0) / 256) low.1 >>= λ high. Ok (low.0 + 256 * high.0, high.1))
    (byte-again field 0 most (n % 256) (low_digits width (n / 256) ++ rest) (omega arith) (omega arith))
    ∙ ap (λ (read : Read ℕ). read >>= λ high. Ok (n % 256 + 256 * high.0, high.1)) (limited-again field width ((most - n % 256) / 256) (n / 256) rest short high)
    ∙ ap (λ k. Ok (k, rest)) sum

pub limited-writes : (field : BadKind) (width most n : ℕ) → HasWidth width n → n ≤ most → Writes (limited_at field width most) n (low_digits width n)
limited-writes field width most n short le = record { again = λ rest. limited-again field width most n rest short le }

pub limited-reads : (field : BadKind) (width most : ℕ) → IsReadBy (limited_at field width most) (low_digits width) (λ n. n ≤ most)
unfolding limited_at
limited-reads field zero most bytes x fits e =
    subst (λ (x : ℕ × List ℕ). IsSpelled bytes [] x.1 × (x.0 ≤ most)) (ok-pair (pair 0 bytes) x e) (record { parts = refl; rest_fits = fits }, omega arith)
limited-reads field (suc width) most bytes x fits e =
    let a = bind_ok (byte_at field 0 most bytes) (λ low. limited_at field width ((most - low.0) / 256) low.1 >>= λ high. Ok (low.0 + 256 * high.0, high.1)) x e in
    let b = bind_ok (limited_at field width ((most - a.0.0) / 256) a.0.1) (λ high. Ok (a.0.0 + 256 * high.0, high.1)) x a.2 in
    let low = byte-is field 0 most bytes a.0 fits a.1 in
    let high = limited-reads field width ((most - a.0.0) / 256) a.0.1 b.0 low.0.rest_fits b.1 in
    let n : ℕ = a.0.0 + 256 * b.0.0 in
    let small : a.0.0 < 256 = subst (λ xs. AllBytes xs) low.0.parts fits 0 in
    let digit : a.0.0 ≡ n % 256 = omega arith in
    let others : b.0.0 ≡ n / 256 = omega arith in
    let both = spelled-then bytes (a.0.0 ∷ []) a.0.1 (low_digits width b.0.0) b.0.1 low.0 high.0 in
    let text : a.0.0 ∷ low_digits width b.0.0 ≡ low_digits (suc width) n = ap (λ d. d ∷ low_digits width b.0.0) digit ∙ ap (λ k. (n % 256) ∷ low_digits width k) others in
    let le : n ≤ most = omega (arith, low.2, high.1) in
    subst (λ (x : ℕ × List ℕ). IsSpelled bytes (low_digits (suc width) x.0) x.1 × (x.0 ≤ most)) (ok-pair (pair n b.0.1) x b.2)
    (subst (λ text. IsSpelled bytes text b.0.1) text both, le)

-- ---- several parts of one form

repeated-again : {A : Type 0} (part : List ℕ → Read A) (text : A → List ℕ) (Valid : A → Type 0) → ((x : A) → Valid x → Writes part x (text x)) → (xs : List A) (rest : List ℕ) → AllByRecursion Valid xs → repeated_at part (length xs) (flat_map text xs ++ rest) ≡ Ok (xs, rest)
unfolding repeated_at
repeated-again part text Valid one [] rest valid = refl
repeated-again {A = A} part text Valid one (x ∷ xs) rest valid =
    let regrouped : flat_map text (x ∷ xs) ++ rest ≡ text x ++ (flat_map text xs ++ rest) = ap (λ ys. ys ++ rest) (flat_map-cons text x xs) ∙ append_assoc (text x) (flat_map text xs) rest in
    ap (repeated_at part (suc (length xs))) regrouped
    ∙ ap (λ (read : Read A). read >>= λ first. repeated_at part (length xs) first.1 >>= λ others. Ok (first.0 ∷ others.0, others.1)) ((one x valid.0).again (flat_map text xs ++ rest))
    ∙ ap (λ (read : Read (List A)). read >>= λ others. Ok (x ∷ others.0, others.1)) (repeated-again part text Valid one xs rest valid.1)

pub repeated-writes : {A : Type 0} (part : List ℕ → Read A) (text : A → List ℕ) (Valid : A → Type 0) → ((x : A) → Valid x → Writes part x (text x)) → (xs : List A) → AllByRecursion Valid xs → Writes (repeated_at part (length xs)) xs (flat_map text xs)
repeated-writes part text Valid one xs valid = record { again = λ rest. repeated-again part text Valid one xs rest valid }

abbrev pub AreSo : {A : Type 0} → (A → Type 0) → ℕ → List A → Type 0
AreSo Valid count xs = (length xs ≡ count) × AllByRecursion Valid xs

pub repeated-reads : {A : Type 0} (part : List ℕ → Read A) (text : A → List ℕ) (Valid : A → Type 0) → IsReadBy part text Valid → (count : ℕ) → IsReadBy (repeated_at part count) (flat_map text) (AreSo Valid count)
unfolding repeated_at
repeated-reads {A = A} part text Valid one zero bytes x fits e =
    let none : IsSpelled bytes [] bytes × AreSo Valid 0 [] = (record { parts = refl; rest_fits = fits }, (refl, tt)) in
    subst (λ (x : List A × List ℕ). IsSpelled bytes (flat_map text x.0) x.1 × AreSo Valid 0 x.0) (ok-pair (pair [] bytes) x e) none
repeated-reads {A = A} part text Valid one (suc count) bytes x fits e =
    let a = bind_ok (part bytes) (λ first. repeated_at part count first.1 >>= λ others. Ok (first.0 ∷ others.0, others.1)) x e in
    let b = bind_ok (repeated_at part count a.0.1) (λ others. Ok (a.0.0 ∷ others.0, others.1)) x a.2 in
    let first = one bytes a.0 fits a.1 in
    let others = repeated-reads part text Valid one count a.0.1 b.0 first.0.rest_fits b.1 in
    let made : List A × List ℕ = (a.0.0 ∷ b.0.0, b.0.1) in
    let both : IsSpelled bytes (flat_map text (a.0.0 ∷ b.0.0)) b.0.1 = subst (λ text. IsSpelled bytes text b.0.1) (sym (flat_map-cons text a.0.0 b.0.0)) (spelled-then bytes (text a.0.0) a.0.1 (flat_map text b.0.0) b.0.1 first.0 others.0) in
    let so : AreSo Valid (suc count) (a.0.0 ∷ b.0.0) = (ap suc others.1.0, (first.1, others.1.1)) in
    subst (λ (x : List A × List ℕ). IsSpelled bytes (flat_map text x.0) x.1 × AreSo Valid (suc count) x.0) (ok-pair made x b.2) (both, so)
