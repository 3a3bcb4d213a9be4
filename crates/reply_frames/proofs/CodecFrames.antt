-- Each part of a frame, and the frames of every kind, are read from what they are written as, and from nothing else.
use Rattle.std.proofs.Common.{◌≡◌, ℕ, zero, suc, ◌+◌, ◌-◌, ◌*◌, ◌/◌, ◌%◌, ◌^◌, ◌≤◌, ◌<◌, Bool, true, false, cond, eqb, List, [], ◌∷◌, ◌++◌, length, Ok, refl, sym, ap, subst, ◌∙◌, append_assoc, arith}
use Rattle.std.specs.List.{flat_map, AllByRecursion}
use Rattle.std.specs.Int.{w16, w32, w64, to_le_bytes}
use Rattle.std.proofs.lemmas.Bool.{eqb-true, eqb-false}
use Rattle.ccp_base.specs.Acknowledgement.{flag_number}
use Rattle.ccp_base.specs.Limits.{most_operation}
use Rattle.ccp_base.specs.FieldReg.{Pair}
use Rattle.reply_frames.specs.declared.fault.BadKind.{BadKind}
use Rattle.reply_frames.specs.declared.fault.BadKind.TheVariants as bad
use Rattle.reply_frames.specs.declared.outline.FrameKind.{FrameKind}
use Rattle.reply_frames.specs.declared.outline.FrameKind.TheVariants as kinds
use Rattle.reply_frames.specs.declared.outline.Version.{Version}
use Rattle.reply_frames.specs.declared.outline.Version.TheVariants.{One, Two}
use Rattle.reply_frames.specs.declared.outline.Counts.{Counts}
use Rattle.reply_frames.specs.declared.outline.Outline.{Outline}
use Rattle.reply_frames.specs.Parts.{Read, ◌>>=◌, byte_at, number_at, limited_at, exactly_at, repeated_at}
use Rattle.reply_frames.specs.Kinds.{kind_number, kind_numbered, version_number, version_of, most_n1, most_n2, most_n3, most_n4, size_of}
use Rattle.reply_frames.specs.Frames.{counts_at, outline_at, target_at, Start, start_at, EventLengths, event_at, Register, register_number_at, register_at, Instruction, instruction_at, value_at, values_at, Body, Create, Measure, Install, Update, Change, Fault, Ack, Refused, create_at, count_at, measure_at, install_at, update_at, change_at, fault_body_at, ack_body_at, refused_at, body_at, Frame, frame_at}
use Rattle.reply_frames.specs.ValueBytes.{FieldFits, target_bytes, value_bytes, values_bytes, IsSendable}
use Rattle.reply_frames.specs.FrameBytes.{counts_bytes, outline_bytes, start_bytes, event_bytes, register_bytes, instruction_bytes, count_bytes, numbers_bytes, body_bytes, kind_of_body, counts, body_counts, outline_of, spelled, StartFits, IsEvent, most_number, IsRegister, IsInstruction, IsNumber, IsCount, AreCounts, HasRanges, IsSpellable}
use Rattle.ccp_base.specs.declared.fields.FieldReg.{FieldReg}
use Rattle.ccp_base.specs.declared.fields.FieldReg.TheVariants.{Cwnd, Rate, Control}
use Rattle.reply_frames.proofs.ExactParts.{bind_ok}
use Rattle.reply_frames.proofs.Codec.{AllBytes, IsSpelled, spelled-then, pair, ok-pair, byte-again, byte-is, number32-again, number64-again, number32-is, number64-is, low_digits, le_bytes-digits, exactly-is, Writes, writes-then, writes-last, IsReadBy, read-then, read-last, read-by, byte-reads, byte-writes, number16-reads, number16-writes, limited-writes, limited-reads, repeated-writes, repeated-reads, AreSo}

target-again : (reg : FieldReg) (rest : List ℕ) → FieldFits reg → target_at (target_bytes reg ++ rest) ≡ Ok (reg, rest)
unfolding target_at
target-again (Control number) rest lt = ap (λ (read : Read ℕ). read >>= λ number. Ok (Control number.0, number.1)) (byte-again bad.Index 0 63 number rest (omega arith) (omega arith))
target-again Cwnd rest lt = refl
target-again Rate rest lt = refl

pub value-again : (value : Pair) (rest : List ℕ) → IsSendable value → value_at (value_bytes value ++ rest) ≡ Ok (value, rest)
unfolding value_at
value-again value rest fits =
    ap value_at (append_assoc (target_bytes value.0) (to_le_bytes w64 value.1) rest)
    ∙ ap (λ (read : Read FieldReg). read >>= λ target. number_at w64 target.1 >>= λ number. Ok ((target.0, number.0), number.1)) (target-again value.0 (to_le_bytes w64 value.1 ++ rest) fits.0)
    ∙ ap (λ (read : Read ℕ). read >>= λ number. Ok ((value.0, number.0), number.1)) (number64-again value.1 rest fits.1)

target-is : (bytes : List ℕ) (x : FieldReg × List ℕ) → AllBytes bytes → target_at bytes ≡ Ok x → IsSpelled bytes (target_bytes x.0) x.1 × FieldFits x.0
unfolding target_at
target-is bytes x fits e =
    let a = bind_ok (byte_at bad.Class 3 4 bytes) (λ class. cond (eqb class.0 3) (byte_at bad.Index 0 63 class.1 >>= λ number. Ok (Control number.0, number.1)) (byte_at bad.Index 4 5 class.1 >>= λ number. Ok (cond (eqb number.0 4) Cwnd Rate, number.1))) x e in
    let class = byte-is bad.Class 3 4 bytes a.0 fits a.1 in
    target_from bytes a.0 x (eqb a.0.0 3) refl class.0 class.1 class.2 a.2
  where
    target-pair : (bytes : List ℕ) (class : ℕ) (rest : List ℕ) (number : ℕ) (after : List ℕ) (reg : FieldReg) → target_bytes reg ≡ class ∷ number ∷ [] → IsSpelled bytes (class ∷ []) rest → IsSpelled rest (number ∷ []) after → IsSpelled bytes (target_bytes reg) after
    target-pair bytes class rest number after reg is first second = subst (λ text. IsSpelled bytes text after) (sym is) (spelled-then bytes (class ∷ []) rest (number ∷ []) after first second)

    reg_of : (number : ℕ) (b : Bool) → eqb number 4 ≡ b → 4 ≤ number → number ≤ 5 → (target_bytes (cond b Cwnd Rate) ≡ 4 ∷ number ∷ []) × FieldFits (cond b Cwnd Rate)
    reg_of number true e low high = (ap (λ n. 4 ∷ n ∷ []) (sym (eqb-true number 4 e)), tt)
    reg_of number false e low high = (ap (λ n. 4 ∷ n ∷ []) (let five : 5 ≡ number = omega (arith, eqb-false number 4 e) in five), tt)

    target_from : (bytes : List ℕ) (class : ℕ × List ℕ) (x : FieldReg × List ℕ) (b : Bool) → eqb class.0 3 ≡ b → IsSpelled bytes (class.0 ∷ []) class.1 → 3 ≤ class.0 → class.0 ≤ 4
        → cond b (byte_at bad.Index 0 63 class.1 >>= λ number. Ok (Control number.0, number.1)) (byte_at bad.Index 4 5 class.1 >>= λ number. Ok (cond (eqb number.0 4) Cwnd Rate, number.1)) ≡ Ok x
        → IsSpelled bytes (target_bytes x.0) x.1 × FieldFits x.0
    target_from bytes class x true is first low high e =
        let b = bind_ok (byte_at bad.Index 0 63 class.1) (λ number. Ok (Control number.0, number.1)) x e in
        let number = byte-is bad.Index 0 63 class.1 b.0 first.rest_fits b.1 in
        let three : class.0 ≡ 3 = eqb-true class.0 3 is in
        subst (λ (x : FieldReg × List ℕ). IsSpelled bytes (target_bytes x.0) x.1 × FieldFits x.0) (ok-pair (pair (Control b.0.0) b.0.1) x b.2)
        (target-pair bytes class.0 class.1 b.0.0 b.0.1 (Control b.0.0) (ap (λ n. n ∷ b.0.0 ∷ []) (sym three)) first number.0, omega (arith, number.2))
    target_from bytes class x false is first low high e =
        let b = bind_ok (byte_at bad.Index 4 5 class.1) (λ number. Ok (cond (eqb number.0 4) Cwnd Rate, number.1)) x e in
        let number = byte-is bad.Index 4 5 class.1 b.0 first.rest_fits b.1 in
        let four : 4 ≡ class.0 = omega (arith, eqb-false class.0 3 is) in
        let reg : FieldReg = cond (eqb b.0.0 4) Cwnd Rate in
        let r = reg_of b.0.0 (eqb b.0.0 4) refl number.1 number.2 in
        subst (λ (x : FieldReg × List ℕ). IsSpelled bytes (target_bytes x.0) x.1 × FieldFits x.0) (ok-pair (pair reg b.0.1) x b.2)
        (target-pair bytes class.0 class.1 b.0.0 b.0.1 reg (r.0 ∙ ap (λ n. n ∷ b.0.0 ∷ []) four) first number.0, r.1)

pub value-is : (bytes : List ℕ) (x : Pair × List ℕ) → AllBytes bytes → value_at bytes ≡ Ok x → IsSpelled bytes (value_bytes x.0) x.1 × IsSendable x.0
unfolding value_at
value-is bytes x fits e =
    let a = bind_ok (target_at bytes) (λ target. number_at w64 target.1 >>= λ value. Ok ((target.0, value.0), value.1)) x e in
    let b = bind_ok (number_at w64 a.0.1) (λ value. Ok ((a.0.0, value.0), value.1)) x a.2 in
    let target = target-is bytes a.0 fits a.1 in
    let number = number64-is a.0.1 b.0 target.0.rest_fits b.1 in
    let made : Pair × List ℕ = ((a.0.0, b.0.0), b.0.1) in
    subst (λ (x : Pair × List ℕ). IsSpelled bytes (value_bytes x.0) x.1 × IsSendable x.0) (ok-pair made x b.2)
    (spelled-then bytes (target_bytes a.0.0) a.0.1 (to_le_bytes w64 b.0.0) b.0.1 target.0 number.0, (target.1, number.1))

pub version_of-number : (version : Version) → version_of (version_number version) ≡ version
version_of-number One = refl
version_of-number Two = refl

pub number_of-kind : (n : ℕ) → 1 ≤ n → n ≤ 8 → kind_number (kind_numbered n) ≡ n
number_of-kind zero low high = absurd (omega arith)
number_of-kind (suc zero) low high = refl
number_of-kind (suc (suc zero)) low high = refl
number_of-kind (suc (suc (suc zero))) low high = refl
number_of-kind (suc (suc (suc (suc zero)))) low high = refl
number_of-kind (suc (suc (suc (suc (suc zero))))) low high = refl
number_of-kind (suc (suc (suc (suc (suc (suc zero)))))) low high = refl
number_of-kind (suc (suc (suc (suc (suc (suc (suc zero))))))) low high = refl
number_of-kind (suc (suc (suc (suc (suc (suc (suc (suc zero)))))))) low high = refl
number_of-kind (suc (suc (suc (suc (suc (suc (suc (suc (suc n))))))))) low high = absurd (omega arith)

pub number_of-version : (n : ℕ) → 1 ≤ n → n ≤ 2 → version_number (version_of n) ≡ n
number_of-version zero low high = absurd (omega arith)
number_of-version (suc zero) low high = refl
number_of-version (suc (suc zero)) low high = refl
number_of-version (suc (suc (suc n))) low high = absurd (omega arith)

number32-writes : (n : ℕ) → n < 2 ^ 32 → Writes (number_at w32) n (to_le_bytes w32 n)
number32-writes n lt = record { again = λ rest. number32-again n rest lt }

number64-writes : (n : ℕ) → n < 2 ^ 64 → Writes (number_at w64) n (to_le_bytes w64 n)
number64-writes n lt = record { again = λ rest. number64-again n rest lt }

count-writes : (version : Version) (n : ℕ) → IsCount version n → Writes (count_at version) n (count_bytes version n)
count-writes One n lt = number32-writes n lt
count-writes Two n lt = number64-writes n lt

count-reads : (version : Version) → IsReadBy (count_at version) (count_bytes version) (IsCount version)
count-reads One = number32-is
count-reads Two = number64-is

-- all digits of a number of eight bytes
pub le_bytes-digits8 : (n : ℕ) → to_le_bytes w64 n ≡ low_digits 8 n
le_bytes-digits8 n =
    let two : n / 65536 ≡ n / 256 / 256 = omega arith in
    let three : n / 16777216 ≡ n / 256 / 256 / 256 = omega arith in
    let four : n / 4294967296 ≡ n / 256 / 256 / 256 / 256 = omega arith in
    let five : n / 1099511627776 ≡ n / 256 / 256 / 256 / 256 / 256 = omega arith in
    let six : n / 281474976710656 ≡ n / 256 / 256 / 256 / 256 / 256 / 256 = omega arith in
    let seven : n / 72057594037927936 ≡ n / 256 / 256 / 256 / 256 / 256 / 256 / 256 = omega arith in
    cc

limited8-writes : (field : BadKind) (most n : ℕ) → most < 256 → n ≤ most → Writes (limited_at field 8 most) n (to_le_bytes w64 n)
limited8-writes field most n small le = subst (λ text. Writes (limited_at field 8 most) n text) (sym (le_bytes-digits8 n)) (limited-writes field 8 most n (omega arith) le)

limited8-reads : (field : BadKind) (most : ℕ) → IsReadBy (limited_at field 8 most) (to_le_bytes w64) (λ n. n ≤ most)
limited8-reads field most bytes x fits e =
    let l = limited-reads field 8 most bytes x fits e in
    (subst (λ text. IsSpelled bytes text x.1) (sym (le_bytes-digits8 x.0)) l.0, l.1)

-- ---- the parts of bodies

start-writes : (start : Start) → StartFits start → Writes start_at start (start_bytes start)
unfolding start_at
start-writes start ok =
    writes-then (byte_at bad.Flag 0 1) _ start.volatile start (start.volatile ∷ []) (to_le_bytes w64 start.value) (byte-writes bad.Flag 0 1 start.volatile (omega arith) ok.0)
    (writes-last (number_at w64) (λ value. record { volatile = start.volatile; value = value }) start.value (to_le_bytes w64 start.value) (number64-writes start.value ok.1))

start-reads : IsReadBy start_at start_bytes StartFits
unfolding start_at
start-reads = read-by start_at start_bytes StartFits
    (read-then (byte_at bad.Flag 0 1) _ (λ n. n ∷ []) _ _ (byte-reads bad.Flag 0 1)
    (λ volatile low. read-last (number_at w64) (λ value. record { volatile = volatile; value = value }) (to_le_bytes w64) _ _ number64-is
    (λ value fits. (refl, (low.1, fits)))))

event-writes : (event : EventLengths) → IsEvent event → Writes event_at event (event_bytes event)
unfolding event_at
event-writes event ok =
    writes-then (number_at w16) _ event.condition event (to_le_bytes w16 event.condition) (to_le_bytes w16 event.block) (number16-writes event.condition ok.0)
    (writes-last (number_at w16) (λ block. record { condition = event.condition; block = block }) event.block (to_le_bytes w16 event.block) (number16-writes event.block ok.1))

event-reads : IsReadBy event_at event_bytes IsEvent
unfolding event_at
event-reads = read-by event_at event_bytes IsEvent
    (read-then (number_at w16) _ (to_le_bytes w16) _ _ number16-reads
    (λ condition first. read-last (number_at w16) (λ block. record { condition = condition; block = block }) (to_le_bytes w16) _ _ number16-reads
    (λ block fits. (refl, (first, fits)))))

writes-if : {A : Type 0} (b : Bool) (one other : List ℕ → Read A) (x : A) (text : List ℕ) → (b ≡ true → Writes one x text) → (b ≡ false → Writes other x text) → Writes (λ bytes. cond b (one bytes) (other bytes)) x text
writes-if true one other x text w w' = w refl
writes-if false one other x text w w' = w' refl

reads-if : {A : Type 0} (b : Bool) (one other : List ℕ → Read A) (text : A → List ℕ) (Valid : A → Type 0) → (b ≡ true → IsReadBy one text Valid) → (b ≡ false → IsReadBy other text Valid) → IsReadBy (λ bytes. cond b (one bytes) (other bytes)) text Valid
reads-if true one other text Valid r r' = r refl
reads-if false one other text Valid r r' = r' refl

most-immediate : (class : ℕ) → eqb class 0 ≡ true → most_number class ≡ 2 ^ 64 - 1
most-immediate class e = ap (λ b. cond b (2 ^ 64 - 1) (cond (eqb class 4) 5 255)) e

most-implicit : (class : ℕ) → eqb class 0 ≡ false → eqb class 4 ≡ true → most_number class ≡ 5
most-implicit class e e' = ap (λ b. cond b (2 ^ 64 - 1) (cond (eqb class 4) 5 255)) e ∙ ap (λ b. cond b 5 255) e'

most-other : (class : ℕ) → eqb class 0 ≡ false → eqb class 4 ≡ false → most_number class ≡ 255
most-other class e e' = ap (λ b. cond b (2 ^ 64 - 1) (cond (eqb class 4) 5 255)) e ∙ ap (λ b. cond b 5 255) e'

register_number-writes : (class n : ℕ) → n ≤ most_number class → Writes (register_number_at class) n (to_le_bytes w64 n)
unfolding register_number_at
register_number-writes class n le =
    writes-if (eqb class 0) (number_at w64) (λ bytes. cond (eqb class 4) (limited_at bad.Index 8 5 bytes) (limited_at bad.Index 8 255 bytes)) n (to_le_bytes w64 n)
    (λ e. number64-writes n (let lt : n < 2 ^ 64 = omega (arith, most-immediate class e) in lt))
    (λ e. writes-if (eqb class 4) (limited_at bad.Index 8 5) (limited_at bad.Index 8 255) n (to_le_bytes w64 n)
    (λ e'. limited8-writes bad.Index 5 n (omega arith) (let le' : n ≤ 5 = omega (arith, most-implicit class e e') in le'))
    (λ e'. limited8-writes bad.Index 255 n (omega arith) (let le' : n ≤ 255 = omega (arith, most-other class e e') in le')))

reads-weaker : {A : Type 0} (part : List ℕ → Read A) (text : A → List ℕ) (Valid Valid' : A → Type 0) → IsReadBy part text Valid → ((x : A) → Valid x → Valid' x) → IsReadBy part text Valid'
reads-weaker part text Valid Valid' r weaker bytes x fits e = let b = r bytes x fits e in (b.0, weaker x.0 b.1)

register_number-reads : (class : ℕ) → IsReadBy (register_number_at class) (to_le_bytes w64) (λ n. n ≤ most_number class)
unfolding register_number_at
register_number-reads class =
    reads-if (eqb class 0) (number_at w64) (λ bytes. cond (eqb class 4) (limited_at bad.Index 8 5 bytes) (limited_at bad.Index 8 255 bytes)) (to_le_bytes w64) (λ n. n ≤ most_number class)
    (λ e. reads-weaker (number_at w64) (to_le_bytes w64) (λ n. n < 2 ^ 64) (λ n. n ≤ most_number class) number64-is (λ n lt. omega (arith, most-immediate class e)))
    (λ e. reads-if (eqb class 4) (limited_at bad.Index 8 5) (limited_at bad.Index 8 255) (to_le_bytes w64) (λ n. n ≤ most_number class)
    (λ e'. reads-weaker (limited_at bad.Index 8 5) (to_le_bytes w64) (λ n. n ≤ 5) (λ n. n ≤ most_number class) (limited8-reads bad.Index 5) (λ n le. omega (arith, most-implicit class e e')))
    (λ e'. reads-weaker (limited_at bad.Index 8 255) (to_le_bytes w64) (λ n. n ≤ 255) (λ n. n ≤ most_number class) (limited8-reads bad.Index 255) (λ n le. omega (arith, most-other class e e'))))

register-writes : (register : Register) → IsRegister register → Writes register_at register (register_bytes register)
unfolding register_at
register-writes r ok =
    writes-then (byte_at bad.Class 0 6) _ r.class r (r.class ∷ []) (to_le_bytes w64 r.number) (byte-writes bad.Class 0 6 r.class (omega arith) ok.0)
    (writes-last (register_number_at r.class) (λ number. record { class = r.class; number = number }) r.number (to_le_bytes w64 r.number) (register_number-writes r.class r.number ok.1))

register-reads : IsReadBy register_at register_bytes IsRegister
unfolding register_at
register-reads = read-by register_at register_bytes IsRegister
    (read-then (byte_at bad.Class 0 6) _ (λ n. n ∷ []) _ _ (byte-reads bad.Class 0 6)
    (λ class low. read-last (register_number_at class) (λ number. record { class = class; number = number }) (to_le_bytes w64) _ _ (register_number-reads class)
    (λ number fits. (refl, (low.1, fits)))))

-- ---- texts of several parts, grouped as they are read and as they are written

writes-as : {A : Type 0} (part : List ℕ → Read A) (x : A) (text text' : List ℕ) → text ≡ text' → Writes part x text → Writes part x text'
writes-as part x text text' e w = subst (λ text. Writes part x text) e w

group5 : (a b c d e : List ℕ) → a ++ (b ++ (c ++ (d ++ e))) ≡ a ++ b ++ c ++ d ++ e
group5 a b c d e = sym (simp append_assoc)

group6 : (a b c d e f : List ℕ) → a ++ (b ++ (c ++ (d ++ (e ++ f)))) ≡ a ++ b ++ c ++ d ++ e ++ f
group6 a b c d e f = sym (simp append_assoc)

group8 : (a b c d e f g h : List ℕ) → a ++ (b ++ (c ++ (d ++ (e ++ (f ++ (g ++ h)))))) ≡ a ++ b ++ c ++ d ++ e ++ f ++ g ++ h
group8 a b c d e f g h = sym (simp append_assoc)

instruction-group : (i : Instruction) → i.op ∷ register_bytes i.to ++ (register_bytes i.left ++ register_bytes i.right) ≡ instruction_bytes i
instruction-group i = ap (λ xs. i.op ∷ xs) (sym (append_assoc (register_bytes i.to) (register_bytes i.left) (register_bytes i.right)))

instruction-writes : (i : Instruction) → IsInstruction i → Writes instruction_at i (instruction_bytes i)
unfolding instruction_at
instruction-writes i ok =
    writes-as instruction_at i _ _ (instruction-group i)
    (writes-then (byte_at bad.Op 0 most_operation) _ i.op i (i.op ∷ []) (register_bytes i.to ++ (register_bytes i.left ++ register_bytes i.right)) (byte-writes bad.Op 0 most_operation i.op (omega arith) ok.0)
    (writes-then register_at _ i.to _ _ _ (register-writes i.to ok.1)
    (writes-then register_at _ i.left _ _ _ (register-writes i.left ok.2)
    (writes-last register_at (λ right. record { op = i.op; to = i.to; left = i.left; right = right }) i.right _ (register-writes i.right ok.3)))))

instruction-reads : IsReadBy instruction_at instruction_bytes IsInstruction
unfolding instruction_at
instruction-reads = read-by instruction_at instruction_bytes IsInstruction
    (read-then (byte_at bad.Op 0 most_operation) _ (λ n. n ∷ []) _ _ (byte-reads bad.Op 0 most_operation)
    (λ op low. read-then register_at _ register_bytes _ _ register-reads
    (λ to is_to. read-then register_at _ register_bytes _ _ register-reads
    (λ left is_left. read-last register_at (λ right. record { op = op; to = to; left = left; right = right }) register_bytes _ _ register-reads
    (λ right is_right. (instruction-group (record { op = op; to = to; left = left; right = right }), (low.1, is_to, is_left, is_right)))))))

numbers-writes : (numbers : List ℕ) → AllByRecursion IsNumber numbers → Writes (repeated_at (number_at w64) (length numbers)) numbers (numbers_bytes numbers)
numbers-writes numbers fit = repeated-writes (number_at w64) (to_le_bytes w64) IsNumber number64-writes numbers fit

numbers-read : (count : ℕ) → IsReadBy (repeated_at (number_at w64) count) numbers_bytes (AreSo IsNumber count)
numbers-read count = repeated-reads (number_at w64) (to_le_bytes w64) IsNumber number64-is count

values-write : (values : List Pair) → AllByRecursion IsSendable values → Writes (values_at (length values)) values (values_bytes values)
unfolding values_at
values-write values sendable = repeated-writes value_at value_bytes IsSendable (λ value ok. record { again = λ rest. value-again value rest ok }) values sendable

values-read : (count : ℕ) → IsReadBy (values_at count) values_bytes (AreSo IsSendable count)
unfolding values_at
values-read count = repeated-reads value_at value_bytes IsSendable value-is count

-- ---- bodies

-- these are the kind and the counts of the body's head
abbrev IsOf : FrameKind → Counts → Body → Type 0
IsOf kind c body = (kind ≡ kind_of_body body) × (c ≡ body_counts body)

abbrev IsBody : FrameKind → Version → Counts → Body → Type 0
IsBody kind version c body = HasRanges version body × IsOf kind c body

create-writes : (version : Version) (cwnd mss : ℕ) → HasRanges version (Create cwnd mss) → Writes create_at (Create cwnd mss) (body_bytes version (Create cwnd mss))
unfolding create_at
create-writes version cwnd mss ok =
    writes-then (number_at w64) _ cwnd _ _ _ (number64-writes cwnd ok.0)
    (writes-last (number_at w32) (λ mss. Create cwnd mss) mss _ (number32-writes mss ok.1))

-- counts that have to be 0 are
none-counted : (version : Version) (c : Counts) (kind : FrameKind) → AreCounts kind version c → most_n1 kind version ≡ 0 → most_n2 kind ≡ 0 → most_n3 kind ≡ 0 → most_n4 kind ≡ 0 → c ≡ counts 0 0 0 0
none-counted version c kind few none none2 none3 none4 =
    let n1 : c.n1 ≡ 0 = omega (arith, few.0, none) in
    let n2 : c.n2 ≡ 0 = omega (arith, few.1, none2) in
    let n3 : c.n3 ≡ 0 = omega (arith, few.2, none3) in
    let n4 : c.n4 ≡ 0 = omega (arith, few.3, none4) in
    ap (λ n. counts n c.n2 c.n3 c.n4) n1 ∙ ap (λ n. counts 0 n c.n3 c.n4) n2 ∙ ap (λ n. counts 0 0 n c.n4) n3 ∙ ap (λ n. counts 0 0 0 n) n4

one-counted : (version : Version) (c : Counts) (kind : FrameKind) (n : ℕ) → AreCounts kind version c → most_n2 kind ≡ 0 → most_n3 kind ≡ 0 → most_n4 kind ≡ 0 → n ≡ c.n1 → c ≡ counts n 0 0 0
one-counted version c kind n few none2 none3 none4 is =
    let n2 : c.n2 ≡ 0 = omega (arith, few.1, none2) in
    let n3 : c.n3 ≡ 0 = omega (arith, few.2, none3) in
    let n4 : c.n4 ≡ 0 = omega (arith, few.3, none4) in
    ap (λ n. counts n c.n2 c.n3 c.n4) (sym is) ∙ ap (λ k. counts n k c.n3 c.n4) n2 ∙ ap (λ k. counts n 0 k c.n4) n3 ∙ ap (λ k. counts n 0 0 k) n4

create-reads : (version : Version) (c : Counts) → AreCounts kinds.Create version c → IsReadBy create_at (body_bytes version) (IsBody kinds.Create version c)
unfolding create_at
create-reads version c few = read-by create_at (body_bytes version) (IsBody kinds.Create version c)
    (read-then (number_at w64) _ (to_le_bytes w64) _ _ number64-is
    (λ cwnd cwnd_fits. read-last (number_at w32) (λ mss. Create cwnd mss) (to_le_bytes w32) _ _ number32-is
    (λ mss mss_fits. (refl, ((cwnd_fits, mss_fits), (refl, none-counted version c kinds.Create few refl refl refl refl))))))

measure-writes : (version : Version) (program epoch first last now cwnd rate : ℕ) (fields : List ℕ) → HasRanges version (Measure program epoch first last now cwnd rate fields)
    → Writes (measure_at version (length fields)) (Measure program epoch first last now cwnd rate fields) (body_bytes version (Measure program epoch first last now cwnd rate fields))
unfolding measure_at
measure-writes version program epoch first last now cwnd rate fields ok =
    writes-as (measure_at version (length fields)) _ _ _ (group8 (to_le_bytes w32 program) (to_le_bytes w32 epoch) (count_bytes version first) (count_bytes version last) (to_le_bytes w64 now) (to_le_bytes w64 cwnd) (to_le_bytes w64 rate) (numbers_bytes fields))
    (writes-then (number_at w32) _ program _ _ _ (number32-writes program ok.0)
    (writes-then (number_at w32) _ epoch _ _ _ (number32-writes epoch ok.1)
    (writes-then (count_at version) _ first _ _ _ (count-writes version first ok.2)
    (writes-then (count_at version) _ last _ _ _ (count-writes version last ok.3)
    (writes-then (number_at w64) _ now _ _ _ (number64-writes now ok.4)
    (writes-then (number_at w64) _ cwnd _ _ _ (number64-writes cwnd ok.5)
    (writes-then (number_at w64) _ rate _ _ _ (number64-writes rate ok.6)
    (writes-last (repeated_at (number_at w64) (length fields)) (λ fields. Measure program epoch first last now cwnd rate fields) fields _ (numbers-writes fields ok.7)))))))))

measure-reads : (version : Version) (c : Counts) → AreCounts kinds.Measure version c → IsReadBy (measure_at version c.n1) (body_bytes version) (IsBody kinds.Measure version c)
unfolding measure_at
measure-reads version c few = read-by (measure_at version c.n1) (body_bytes version) (IsBody kinds.Measure version c)
    (read-then (number_at w32) _ (to_le_bytes w32) _ _ number32-is
    (λ program a. read-then (number_at w32) _ (to_le_bytes w32) _ _ number32-is
    (λ epoch b. read-then (count_at version) _ (count_bytes version) _ _ (count-reads version)
    (λ first c'. read-then (count_at version) _ (count_bytes version) _ _ (count-reads version)
    (λ last d. read-then (number_at w64) _ (to_le_bytes w64) _ _ number64-is
    (λ now e. read-then (number_at w64) _ (to_le_bytes w64) _ _ number64-is
    (λ cwnd f. read-then (number_at w64) _ (to_le_bytes w64) _ _ number64-is
    (λ rate g. read-last (repeated_at (number_at w64) c.n1) (λ fields. Measure program epoch first last now cwnd rate fields) numbers_bytes _ _ (numbers-read c.n1)
    (λ fields h. (
      group8 (to_le_bytes w32 program) (to_le_bytes w32 epoch) (count_bytes version first) (count_bytes version last) (to_le_bytes w64 now) (to_le_bytes w64 cwnd) (to_le_bytes w64 rate) (numbers_bytes fields),
      ((a, b, c', d, e, f, g, h.1), (refl, one-counted version c kinds.Measure (length fields) few refl refl refl h.0)),
    ))))))))))

install-writes : (version : Version) (program : ℕ) (reports controls : List Start) (events : List EventLengths) (instructions : List Instruction) → HasRanges version (Install program reports controls events instructions)
    → Writes (install_at (counts (length reports) (length controls) (length events) (length instructions))) (Install program reports controls events instructions) (body_bytes version (Install program reports controls events instructions))
unfolding install_at
install-writes version program reports controls events instructions ok =
    writes-as (install_at (counts (length reports) (length controls) (length events) (length instructions))) _ _ _ (group5 (to_le_bytes w32 program) (flat_map start_bytes reports) (flat_map start_bytes controls) (flat_map event_bytes events) (flat_map instruction_bytes instructions))
    (writes-then (number_at w32) _ program _ _ _ (number32-writes program ok.0)
    (writes-then (repeated_at start_at (length reports)) _ reports _ _ _ (repeated-writes start_at start_bytes StartFits start-writes reports ok.1)
    (writes-then (repeated_at start_at (length controls)) _ controls _ _ _ (repeated-writes start_at start_bytes StartFits start-writes controls ok.2)
    (writes-then (repeated_at event_at (length events)) _ events _ _ _ (repeated-writes event_at event_bytes IsEvent event-writes events ok.3)
    (writes-last (repeated_at instruction_at (length instructions)) (λ instructions. Install program reports controls events instructions) instructions _ (repeated-writes instruction_at instruction_bytes IsInstruction instruction-writes instructions ok.4))))))

install-reads : (version : Version) (c : Counts) → IsReadBy (install_at c) (body_bytes version) (IsBody kinds.Install version c)
unfolding install_at
install-reads version c = read-by (install_at c) (body_bytes version) (IsBody kinds.Install version c)
    (read-then (number_at w32) _ (to_le_bytes w32) _ _ number32-is
    (λ program p. read-then (repeated_at start_at c.n1) _ (flat_map start_bytes) _ _ (repeated-reads start_at start_bytes StartFits start-reads c.n1)
    (λ reports r. read-then (repeated_at start_at c.n2) _ (flat_map start_bytes) _ _ (repeated-reads start_at start_bytes StartFits start-reads c.n2)
    (λ controls s. read-then (repeated_at event_at c.n3) _ (flat_map event_bytes) _ _ (repeated-reads event_at event_bytes IsEvent event-reads c.n3)
    (λ events t. read-last (repeated_at instruction_at c.n4) (λ instructions. Install program reports controls events instructions) (flat_map instruction_bytes) _ _ (repeated-reads instruction_at instruction_bytes IsInstruction instruction-reads c.n4)
    (λ instructions u. (
      group5 (to_le_bytes w32 program) (flat_map start_bytes reports) (flat_map start_bytes controls) (flat_map event_bytes events) (flat_map instruction_bytes instructions),
      ((p, r.1, s.1, t.1, u.1), (refl, ap (λ n. counts n c.n2 c.n3 c.n4) (sym r.0) ∙ ap (λ n. counts (length reports) n c.n3 c.n4) (sym s.0) ∙ ap (λ n. counts (length reports) (length controls) n c.n4) (sym t.0) ∙ ap (λ n. counts (length reports) (length controls) (length events) n) (sym u.0))),
    )))))))

update-writes : (version : Version) (values : List Pair) → HasRanges version (Update values) → Writes (update_at (length values)) (Update values) (values_bytes values)
unfolding update_at
update-writes version values ok = writes-last (values_at (length values)) (λ values. Update values) values _ (values-write values ok)

update-reads : (version : Version) (c : Counts) → AreCounts kinds.Update version c → IsReadBy (update_at c.n1) (body_bytes version) (IsBody kinds.Update version c)
unfolding update_at
update-reads version c few = read-by (update_at c.n1) (body_bytes version) (IsBody kinds.Update version c)
    (read-last (values_at c.n1) (λ values. Update values) values_bytes _ _ (values-read c.n1)
    (λ values v. (refl, (v.1, (refl, one-counted version c kinds.Update (length values) few refl refl refl v.0)))))

change-writes : (version : Version) (program : ℕ) (values : List Pair) → HasRanges version (Change program values) → Writes (change_at (length values)) (Change program values) (body_bytes version (Change program values))
unfolding change_at
change-writes version program values ok =
    writes-then (number_at w32) _ program _ _ _ (number32-writes program ok.0)
    (writes-last (values_at (length values)) (λ values. Change program values) values _ (values-write values ok.1))

change-reads : (version : Version) (c : Counts) → AreCounts kinds.Change version c → IsReadBy (change_at c.n1) (body_bytes version) (IsBody kinds.Change version c)
unfolding change_at
change-reads version c few = read-by (change_at c.n1) (body_bytes version) (IsBody kinds.Change version c)
    (read-then (number_at w32) _ (to_le_bytes w32) _ _ number32-is
    (λ program p. read-last (values_at c.n1) (λ values. Change program values) values_bytes _ _ (values-read c.n1)
    (λ values v. (refl, ((p, v.1), (refl, one-counted version c kinds.Change (length values) few refl refl refl v.0))))))

fault-writes : (version : Version) (program epoch place kind index now cwnd : ℕ) → HasRanges version (Fault program epoch place kind index now cwnd)
    → Writes (fault_body_at version) (Fault program epoch place kind index now cwnd) (body_bytes version (Fault program epoch place kind index now cwnd))
unfolding fault_body_at
fault-writes version program epoch place kind index now cwnd ok =
    writes-as (fault_body_at version) _ _ _ (group6 (to_le_bytes w32 program) (to_le_bytes w32 epoch) (count_bytes version place) (kind ∷ to_le_bytes w16 index) (to_le_bytes w64 now) (to_le_bytes w64 cwnd))
    (writes-then (number_at w32) _ program _ _ _ (number32-writes program ok.0)
    (writes-then (number_at w32) _ epoch _ _ _ (number32-writes epoch ok.1)
    (writes-then (count_at version) _ place _ _ _ (count-writes version place ok.2)
    (writes-then (byte_at bad.FaultKind 0 2) _ kind _ (kind ∷ []) _ (byte-writes bad.FaultKind 0 2 kind (omega arith) ok.3)
    (writes-then (number_at w16) _ index _ _ _ (number16-writes index ok.4)
    (writes-then (number_at w64) _ now _ _ _ (number64-writes now ok.5)
    (writes-last (number_at w64) (λ cwnd. Fault program epoch place kind index now cwnd) cwnd _ (number64-writes cwnd ok.6))))))))

fault-reads : (version : Version) (c : Counts) → AreCounts kinds.Fault version c → IsReadBy (fault_body_at version) (body_bytes version) (IsBody kinds.Fault version c)
unfolding fault_body_at
fault-reads version c few = read-by (fault_body_at version) (body_bytes version) (IsBody kinds.Fault version c)
    (read-then (number_at w32) _ (to_le_bytes w32) _ _ number32-is
    (λ program p. read-then (number_at w32) _ (to_le_bytes w32) _ _ number32-is
    (λ epoch e. read-then (count_at version) _ (count_bytes version) _ _ (count-reads version)
    (λ place a. read-then (byte_at bad.FaultKind 0 2) _ (λ n. n ∷ []) _ _ (byte-reads bad.FaultKind 0 2)
    (λ kind k. read-then (number_at w16) _ (to_le_bytes w16) _ _ number16-reads
    (λ index i. read-then (number_at w64) _ (to_le_bytes w64) _ _ number64-is
    (λ now n. read-last (number_at w64) (λ cwnd. Fault program epoch place kind index now cwnd) (to_le_bytes w64) _ _ number64-is
    (λ cwnd w. (
      group6 (to_le_bytes w32 program) (to_le_bytes w32 epoch) (count_bytes version place) (kind ∷ to_le_bytes w16 index) (to_le_bytes w64 now) (to_le_bytes w64 cwnd),
      ((p, e, a, k.1, i, n, w), (refl, none-counted version c kinds.Fault few refl refl refl refl)),
    )))))))))

ack-writes : (version : Version) (primitives : List ℕ) (was_timeout : ℕ) → HasRanges version (Ack primitives was_timeout) → Writes ack_body_at (Ack primitives was_timeout) (body_bytes version (Ack primitives was_timeout))
unfolding ack_body_at
ack-writes version primitives was_timeout ok =
    let all : Writes (repeated_at (number_at w64) flag_number) primitives (numbers_bytes primitives) = subst (λ n. Writes (repeated_at (number_at w64) n) primitives (numbers_bytes primitives)) ok.0 (numbers-writes primitives ok.1) in
    writes-then (repeated_at (number_at w64) flag_number) _ primitives _ _ _ all
    (writes-last (limited_at bad.Flag 8 1) (λ was_timeout. Ack primitives was_timeout) was_timeout _ (limited8-writes bad.Flag 1 was_timeout (omega arith) ok.2))

ack-reads : (version : Version) (c : Counts) → AreCounts kinds.Ack version c → IsReadBy ack_body_at (body_bytes version) (IsBody kinds.Ack version c)
unfolding ack_body_at
ack-reads version c few = read-by ack_body_at (body_bytes version) (IsBody kinds.Ack version c)
    (read-then (repeated_at (number_at w64) flag_number) _ numbers_bytes _ _ (numbers-read flag_number)
    (λ primitives p. read-last (limited_at bad.Flag 8 1) (λ was_timeout. Ack primitives was_timeout) (to_le_bytes w64) _ _ (limited8-reads bad.Flag 1)
    (λ was_timeout w. (refl, ((p.0, p.1, w), (refl, none-counted version c kinds.Ack few refl refl refl refl))))))

refused-writes : (version : Version) (reason index : ℕ) → HasRanges version (Refused reason index) → Writes refused_at (Refused reason index) (body_bytes version (Refused reason index))
unfolding refused_at
refused-writes version reason index ok =
    writes-then (byte_at bad.Kind 1 9) _ reason _ (reason ∷ []) _ (byte-writes bad.Kind 1 9 reason ok.0 ok.1)
    (writes-last (number_at w32) (λ index. Refused reason index) index _ (number32-writes index ok.2))

refused-reads : (version : Version) (c : Counts) → AreCounts kinds.Refused version c → IsReadBy refused_at (body_bytes version) (IsBody kinds.Refused version c)
unfolding refused_at
refused-reads version c few = read-by refused_at (body_bytes version) (IsBody kinds.Refused version c)
    (read-then (byte_at bad.Kind 1 9) _ (λ n. n ∷ []) _ _ (byte-reads bad.Kind 1 9)
    (λ reason r. read-last (number_at w32) (λ index. Refused reason index) (to_le_bytes w32) _ _ number32-is
    (λ index i. (refl, ((r.0, r.1, i), (refl, none-counted version c kinds.Refused few refl refl refl refl))))))

body-writes : (version : Version) (body : Body) → HasRanges version body → Writes (body_at (kind_of_body body) version (body_counts body)) body (body_bytes version body)
body-writes version (Create cwnd mss) ok = create-writes version cwnd mss ok
body-writes version (Measure program epoch first last now cwnd rate fields) ok = measure-writes version program epoch first last now cwnd rate fields ok
body-writes version (Install program reports controls events instructions) ok = install-writes version program reports controls events instructions ok
body-writes version (Update values) ok = update-writes version values ok
body-writes version (Change program values) ok = change-writes version program values ok
body-writes version (Fault program epoch place kind index now cwnd) ok = fault-writes version program epoch place kind index now cwnd ok
body-writes version (Ack primitives was_timeout) ok = ack-writes version primitives was_timeout ok
body-writes version (Refused reason index) ok = refused-writes version reason index ok

body-reads : (kind : FrameKind) (version : Version) (c : Counts) → AreCounts kind version c → IsReadBy (body_at kind version c) (body_bytes version) (IsBody kind version c)
body-reads kinds.Create version c few = create-reads version c few
body-reads kinds.Measure version c few = measure-reads version c few
body-reads kinds.Install version c few = install-reads version c
body-reads kinds.Update version c few = update-reads version c few
body-reads kinds.Change version c few = change-reads version c few
body-reads kinds.Fault version c few = fault-reads version c few
body-reads kinds.Ack version c few = ack-reads version c few
body-reads kinds.Refused version c few = refused-reads version c few

-- ---- heads

most-small : (kind : FrameKind) → (most_n3 kind ≤ 64) × (most_n4 kind ≤ 256)
most-small kinds.Create = (omega arith, omega arith)
most-small kinds.Measure = (omega arith, omega arith)
most-small kinds.Install = (omega arith, omega arith)
most-small kinds.Update = (omega arith, omega arith)
most-small kinds.Change = (omega arith, omega arith)
most-small kinds.Fault = (omega arith, omega arith)
most-small kinds.Ack = (omega arith, omega arith)
most-small kinds.Refused = (omega arith, omega arith)

counts-writes : (kind : FrameKind) (version : Version) (c : Counts) → AreCounts kind version c → Writes (counts_at kind version) c (counts_bytes c)
unfolding counts_at
counts-writes kind version c few =
    let small = most-small kind in
    writes-then (byte_at bad.Count 0 (most_n1 kind version)) _ c.n1 _ (c.n1 ∷ []) _ (byte-writes bad.Count 0 (most_n1 kind version) c.n1 (omega arith) few.0)
    (writes-then (byte_at bad.Count 0 (most_n2 kind)) _ c.n2 _ (c.n2 ∷ []) _ (byte-writes bad.Count 0 (most_n2 kind) c.n2 (omega arith) few.1)
    (writes-then (limited_at bad.Count 2 (most_n3 kind)) _ c.n3 _ (to_le_bytes w16 c.n3) _ (limited-writes bad.Count 2 (most_n3 kind) c.n3 (omega (arith, few.2, small.0)) few.2)
    (writes-last (limited_at bad.Count 2 (most_n4 kind)) (λ n4. counts c.n1 c.n2 c.n3 n4) c.n4 (to_le_bytes w16 c.n4) (limited-writes bad.Count 2 (most_n4 kind) c.n4 (omega (arith, few.3, small.1)) few.3))))

counts-reads : (kind : FrameKind) (version : Version) → IsReadBy (counts_at kind version) counts_bytes (AreCounts kind version)
unfolding counts_at
counts-reads kind version = read-by (counts_at kind version) counts_bytes (AreCounts kind version)
    (read-then (byte_at bad.Count 0 (most_n1 kind version)) _ (λ n. n ∷ []) _ _ (byte-reads bad.Count 0 (most_n1 kind version))
    (λ n1 a. read-then (byte_at bad.Count 0 (most_n2 kind)) _ (λ n. n ∷ []) _ _ (byte-reads bad.Count 0 (most_n2 kind))
    (λ n2 b. read-then (limited_at bad.Count 2 (most_n3 kind)) _ (low_digits 2) _ _ (limited-reads bad.Count 2 (most_n3 kind))
    (λ n3 c. read-last (limited_at bad.Count 2 (most_n4 kind)) (λ n4. counts n1 n2 n3 n4) (low_digits 2) _ _ (limited-reads bad.Count 2 (most_n4 kind))
    (λ n4 d. (refl, (a.1, b.1, c, d)))))))

-- what one number alone is read as
abbrev digits_value : ℕ → ℕ → ℕ
digits_value zero n = 0
digits_value (suc width) n = n % 256 + 256 * digits_value width (n / 256)

exactly-writes : (field : BadKind) (width n : ℕ) → Writes (exactly_at field width n) (digits_value width n) (low_digits width n)
unfolding exactly_at
exactly-writes field zero n = record { again = λ rest. refl }
exactly-writes field (suc width) n =
    writes-then (byte_at field (n % 256) (n % 256)) _ (n % 256) _ ((n % 256) ∷ []) _ (byte-writes field (n % 256) (n % 256) (n % 256) (omega arith) (omega arith))
    (writes-last (exactly_at field width (n / 256)) (λ high. n % 256 + 256 * high) (digits_value width (n / 256)) (low_digits width (n / 256)) (exactly-writes field width (n / 256)))

exactly-reads : (field : BadKind) (n : ℕ) → IsReadBy (exactly_at field 4 n) (λ value. to_le_bytes w32 n) (λ value. Unit {0})
exactly-reads field n bytes x fits e = (subst (λ text. IsSpelled bytes text x.1) (sym (le_bytes-digits n)) (exactly-is field 4 n bytes x fits e), tt)

pub number-of : (kind : FrameKind) → (1 ≤ kind_number kind) × (kind_number kind ≤ 8) × (kind_numbered (kind_number kind) ≡ kind)
number-of kinds.Create = (omega arith, omega arith, refl)
number-of kinds.Measure = (omega arith, omega arith, refl)
number-of kinds.Install = (omega arith, omega arith, refl)
number-of kinds.Update = (omega arith, omega arith, refl)
number-of kinds.Change = (omega arith, omega arith, refl)
number-of kinds.Fault = (omega arith, omega arith, refl)
number-of kinds.Ack = (omega arith, omega arith, refl)
number-of kinds.Refused = (omega arith, omega arith, refl)

pub version-in : (version : Version) → (1 ≤ version_number version) × (version_number version ≤ 2)
version-in One = (omega arith, omega arith)
version-in Two = (omega arith, omega arith)

-- what follows the kind and the version of a head
abbrev headed_at : FrameKind → Version → List ℕ → Read Outline
headed_at kind version bytes = counts_at kind version bytes >>= λ counts. number_at w32 counts.1 >>= λ flow. exactly_at bad.Length 4 (size_of kind version counts.0) flow.1 >>= λ size. Ok (record { kind = kind; version = version; counts = counts.0; flow = flow.0 }, size.1)

headed-writes : (head : Outline) → AreCounts head.kind head.version head.counts → head.flow < 2 ^ 32
    → Writes (headed_at head.kind head.version) head (counts_bytes head.counts ++ (to_le_bytes w32 head.flow ++ to_le_bytes w32 (size_of head.kind head.version head.counts)))
headed-writes head few fits =
    let size : ℕ = size_of head.kind head.version head.counts in
    let last : Writes (exactly_at bad.Length 4 size) (digits_value 4 size) (to_le_bytes w32 size) = subst (λ text. Writes (exactly_at bad.Length 4 size) (digits_value 4 size) text) (sym (le_bytes-digits size)) (exactly-writes bad.Length 4 size) in
    writes-then (counts_at head.kind head.version) _ head.counts _ _ _ (counts-writes head.kind head.version head.counts few)
    (writes-then (number_at w32) _ head.flow _ _ _ (number32-writes head.flow fits)
    (writes-last (exactly_at bad.Length 4 size) (λ n. head) (digits_value 4 size) _ last))

abbrev IsHead : Outline → Type 0
IsHead head = AreCounts head.kind head.version head.counts × (head.flow < 2 ^ 32)

outline-writes : (head : Outline) → AreCounts head.kind head.version head.counts → head.flow < 2 ^ 32 → Writes outline_at head (outline_bytes head)
unfolding outline_at
outline-writes head few fits =
    let n = number-of head.kind in
    let v = version-in head.version in
    let both : Writes (headed_at (kind_numbered (kind_number head.kind)) (version_of (version_number head.version))) head (counts_bytes head.counts ++ (to_le_bytes w32 head.flow ++ to_le_bytes w32 (size_of head.kind head.version head.counts))) =
    subst (λ kind. Writes (headed_at kind (version_of (version_number head.version))) head (counts_bytes head.counts ++ (to_le_bytes w32 head.flow ++ to_le_bytes w32 (size_of head.kind head.version head.counts)))) (sym n.2)
    (subst (λ version. Writes (headed_at head.kind version) head (counts_bytes head.counts ++ (to_le_bytes w32 head.flow ++ to_le_bytes w32 (size_of head.kind head.version head.counts)))) (sym (version_of-number head.version)) (headed-writes head few fits)) in
    writes-then (byte_at bad.Kind 1 8) _ (kind_number head.kind) _ (kind_number head.kind ∷ []) _ (byte-writes bad.Kind 1 8 (kind_number head.kind) n.0 n.1)
    (writes-then (byte_at bad.Version 1 2) _ (version_number head.version) _ (version_number head.version ∷ []) _ (byte-writes bad.Version 1 2 (version_number head.version) v.0 v.1) both)

outline-reads : IsReadBy outline_at outline_bytes IsHead
unfolding outline_at
outline-reads = read-by outline_at outline_bytes IsHead
    (read-then (byte_at bad.Kind 1 8) _ (λ n. n ∷ []) _ _ (byte-reads bad.Kind 1 8)
    (λ kind k. read-then (byte_at bad.Version 1 2) _ (λ n. n ∷ []) _ _ (byte-reads bad.Version 1 2)
    (λ version v. read-then (counts_at (kind_numbered kind) (version_of version)) _ counts_bytes _ _ (counts-reads (kind_numbered kind) (version_of version))
    (λ c few. read-then (number_at w32) _ (to_le_bytes w32) _ _ number32-is
    (λ flow f. read-last (exactly_at bad.Length 4 (size_of (kind_numbered kind) (version_of version) c)) (λ size. record { kind = kind_numbered kind; version = version_of version; counts = c; flow = flow })
    (λ size. to_le_bytes w32 (size_of (kind_numbered kind) (version_of version) c)) _ _ (exactly-reads bad.Length (size_of (kind_numbered kind) (version_of version) c))
    (λ size u.
    let tail : List ℕ = counts_bytes c ++ (to_le_bytes w32 flow ++ to_le_bytes w32 (size_of (kind_numbered kind) (version_of version) c)) in
    (ap (λ n. n ∷ version ∷ tail) (sym (number_of-kind kind k.0 k.1)) ∙ ap (λ n. kind_number (kind_numbered kind) ∷ n ∷ tail) (sym (number_of-version version v.0 v.1)), (few, f))))))))

-- ---- frames

abbrev pub IsFrameRead : Frame → Type 0
IsFrameRead frame = IsSpellable frame.outline.version frame.outline.flow frame.body × (frame.outline ≡ outline_of frame.outline.version frame.outline.flow frame.body)

pub frame-writes : (version : Version) (flow : ℕ) (body : Body) → IsSpellable version flow body → Writes frame_at (record { outline = outline_of version flow body; body = body }) (spelled version flow body)
unfolding frame_at
frame-writes version flow body ok =
    writes-then outline_at _ (outline_of version flow body) _ _ _ (outline-writes (outline_of version flow body) ok.1 ok.0)
    (writes-last (body_at (kind_of_body body) version (body_counts body)) (λ body'. record { outline = outline_of version flow body; body = body' }) body _ (body-writes version body ok.2))

frame-made : (head : Outline) (body : Body) → IsHead head → IsBody head.kind head.version head.counts body → IsFrameRead (record { outline = head; body = body })
frame-made head body h b =
    let is : head ≡ outline_of head.version head.flow body = ap (λ kind. record { kind = kind; version = head.version; counts = head.counts; flow = head.flow }) b.1.0 ∙ ap (λ c. record { kind = kind_of_body body; version = head.version; counts = c; flow = head.flow }) b.1.1 in
    let few : AreCounts (kind_of_body body) head.version (body_counts body) = subst (λ (o : Outline). AreCounts o.kind o.version o.counts) is h.0 in
    ((h.1, few, b.0), is)

pub frame-reads : IsReadBy frame_at (λ frame. spelled frame.outline.version frame.outline.flow frame.body) IsFrameRead
unfolding frame_at
frame-reads = read-by frame_at (λ frame. spelled frame.outline.version frame.outline.flow frame.body) IsFrameRead
    (read-then outline_at _ outline_bytes _ _ outline-reads
    (λ head h. read-last (body_at head.kind head.version head.counts) (λ body. record { outline = head; body = body }) (body_bytes head.version) _ _ (body-reads head.kind head.version head.counts h.0)
    (λ body b.
    let made = frame-made head body h b in
    (ap (λ (o : Outline). outline_bytes o ++ body_bytes head.version body) made.1, made))))
