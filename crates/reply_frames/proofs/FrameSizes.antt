-- Frames are bytes, and as long as their heads say.
use Rattle.std.proofs.Common.{◌≡◌, ℕ, zero, suc, ◌+◌, ◌*◌, ◌/◌, ◌%◌, ◌≤◌, ◌<◌, List, [], ◌∷◌, ◌++◌, length, refl, sym, ap, subst, ◌∙◌, arith, length-append}
use Rattle.std.specs.List.{flat_map, AllByRecursion}
use Rattle.std.specs.Int.{w16, w32, w64, to_le_bytes}
use Rattle.std.proofs.Math.Nat.{mul-suc}
use Rattle.std.proofs.lemmas.List.Concat.{flat_map-cons}
use Rattle.ccp_base.specs.declared.fields.FieldReg.{FieldReg}
use Rattle.ccp_base.specs.declared.fields.FieldReg.TheVariants.{Control, Cwnd, Rate}
use Rattle.ccp_base.specs.Acknowledgement.{flag_number}
use Rattle.ccp_base.specs.FieldReg.{Pair}
use Rattle.reply_frames.specs.declared.outline.FrameKind.{FrameKind}
use Rattle.reply_frames.specs.declared.outline.FrameKind.TheVariants as kinds
use Rattle.reply_frames.specs.declared.outline.Version.{Version}
use Rattle.reply_frames.specs.declared.outline.Version.TheVariants.{One, Two}
use Rattle.reply_frames.specs.declared.outline.Outline.{Outline}
use Rattle.reply_frames.specs.Kinds.{kind_number, version_number, most_n1, most_n2, size_of}
use Rattle.reply_frames.specs.Frames.{Start, EventLengths, Register, Instruction, Body, Create, Measure, Install, Update, Change, Fault, Ack, Refused}
use Rattle.reply_frames.specs.ValueBytes.{FieldFits, target_bytes, value_bytes, values_bytes, IsSendable}
use Rattle.reply_frames.specs.Whole.{AreBytes}
use Rattle.reply_frames.specs.FrameBytes.{counts_bytes, outline_bytes, start_bytes, event_bytes, register_bytes, instruction_bytes, count_width, count_bytes, numbers_bytes, body_bytes, kind_of_body, body_counts, outline_of, spelled, StartFits, IsEvent, IsRegister, IsInstruction, IsNumber, AreCounts, HasRanges, IsSpellable}
use Rattle.reply_frames.proofs.ExactParts.{AreBytes-append}
use Rattle.reply_frames.proofs.Codec.{low_digits, le_bytes-digits}
use Rattle.reply_frames.proofs.CodecFrames.{le_bytes-digits8, number-of, version-in}
use Rattle.reply_frames.proofs.Placing.{length-value_bytes}

-- ---- frames are bytes

record IsText (text : List ℕ) : Type 0 where
  bytes : AreBytes text

text-then : (a b : List ℕ) → IsText a → IsText b → IsText (a ++ b)
text-then a b first next = record { bytes = AreBytes-append a b first.bytes next.bytes }

text-cons : (byte : ℕ) (b : List ℕ) → byte < 256 → IsText b → IsText (byte ∷ b)
text-cons byte b small next = record { bytes = (small, next.bytes) }

text-digits : (width n : ℕ) → IsText (low_digits width n)
text-digits zero n = record { bytes = tt }
text-digits (suc width) n = text-cons (n % 256) (low_digits width (n / 256)) (omega arith) (text-digits width (n / 256))

text16 : (n : ℕ) → IsText (to_le_bytes w16 n)
text16 n = text-digits 2 n

text32 : (n : ℕ) → IsText (to_le_bytes w32 n)
text32 n = subst IsText (sym (le_bytes-digits n)) (text-digits 4 n)

text64 : (n : ℕ) → IsText (to_le_bytes w64 n)
text64 n = subst IsText (sym (le_bytes-digits8 n)) (text-digits 8 n)

text-count : (version : Version) (n : ℕ) → IsText (count_bytes version n)
text-count One n = text32 n
text-count Two n = text64 n

text-all : {A : Type 0} (text : A → List ℕ) (Valid : A → Type 0) → ((x : A) → Valid x → IsText (text x)) → (xs : List A) → AllByRecursion Valid xs → IsText (flat_map text xs)
text-all text Valid one [] valid = record { bytes = tt }
text-all text Valid one (x ∷ xs) valid = subst IsText (sym (flat_map-cons text x xs)) (text-then (text x) (flat_map text xs) (one x valid.0) (text-all text Valid one xs valid.1))

text-target : (reg : FieldReg) → FieldFits reg → IsText (target_bytes reg)
text-target (Control number) lt = record { bytes = (omega arith, (omega arith, tt)) }
text-target Cwnd lt = record { bytes = (omega arith, (omega arith, tt)) }
text-target Rate lt = record { bytes = (omega arith, (omega arith, tt)) }

text-values : (values : List Pair) → AllByRecursion IsSendable values → IsText (values_bytes values)
text-values values ok = text-all value_bytes IsSendable (λ value fits. text-then (target_bytes value.0) (to_le_bytes w64 value.1) (text-target value.0 fits.0) (text64 value.1)) values ok

text-numbers : (numbers : List ℕ) → AllByRecursion IsNumber numbers → IsText (numbers_bytes numbers)
text-numbers numbers ok = text-all (to_le_bytes w64) IsNumber (λ n fits. text64 n) numbers ok

text-start : (start : Start) → StartFits start → IsText (start_bytes start)
text-start start ok = text-cons start.volatile (to_le_bytes w64 start.value) (omega (arith, ok.0)) (text64 start.value)

text-event : (event : EventLengths) → IsEvent event → IsText (event_bytes event)
text-event event ok = text-then (to_le_bytes w16 event.condition) (to_le_bytes w16 event.block) (text16 event.condition) (text16 event.block)

text-register : (r : Register) → IsRegister r → IsText (register_bytes r)
text-register r ok = text-cons r.class (to_le_bytes w64 r.number) (omega (arith, ok.0)) (text64 r.number)

text-instruction : (i : Instruction) → IsInstruction i → IsText (instruction_bytes i)
text-instruction i ok =
    text-cons i.op (register_bytes i.to ++ register_bytes i.left ++ register_bytes i.right) (omega (arith, ok.0))
    (text-then (register_bytes i.to ++ register_bytes i.left) (register_bytes i.right) (text-then (register_bytes i.to) (register_bytes i.left) (text-register i.to ok.1) (text-register i.left ok.2)) (text-register i.right ok.3))

text-body : (version : Version) (body : Body) → HasRanges version body → IsText (body_bytes version body)
text-body version (Create cwnd mss) ok = text-then (to_le_bytes w64 cwnd) (to_le_bytes w32 mss) (text64 cwnd) (text32 mss)
text-body version (Measure program epoch first last now cwnd rate fields) ok =
    text-then _ (numbers_bytes fields) (text-then _ (to_le_bytes w64 rate) (text-then _ (to_le_bytes w64 cwnd) (text-then _ (to_le_bytes w64 now) (text-then _ (count_bytes version last) (text-then _ (count_bytes version first)
    (text-then (to_le_bytes w32 program) (to_le_bytes w32 epoch) (text32 program) (text32 epoch)) (text-count version first)) (text-count version last)) (text64 now)) (text64 cwnd)) (text64 rate)) (text-numbers fields ok.7)
text-body version (Install program reports controls events instructions) ok =
    text-then _ (flat_map instruction_bytes instructions) (text-then _ (flat_map event_bytes events) (text-then _ (flat_map start_bytes controls) (text-then (to_le_bytes w32 program) (flat_map start_bytes reports)
    (text32 program) (text-all start_bytes StartFits text-start reports ok.1)) (text-all start_bytes StartFits text-start controls ok.2)) (text-all event_bytes IsEvent text-event events ok.3)) (text-all instruction_bytes IsInstruction text-instruction instructions ok.4)
text-body version (Update values) ok = text-values values ok
text-body version (Change program values) ok = text-then (to_le_bytes w32 program) (values_bytes values) (text32 program) (text-values values ok.1)
text-body version (Fault program epoch place kind index now cwnd) ok =
    text-then _ (to_le_bytes w64 cwnd) (text-then _ (to_le_bytes w64 now) (text-then _ (kind ∷ to_le_bytes w16 index) (text-then _ (count_bytes version place) (text-then (to_le_bytes w32 program) (to_le_bytes w32 epoch) (text32 program) (text32 epoch)) (text-count version place))
    (text-cons kind (to_le_bytes w16 index) (omega (arith, ok.3)) (text16 index))) (text64 now)) (text64 cwnd)
text-body version (Ack primitives was_timeout) ok = text-then (numbers_bytes primitives) (to_le_bytes w64 was_timeout) (text-numbers primitives ok.1) (text64 was_timeout)
text-body version (Refused reason index) ok = text-cons reason (to_le_bytes w32 index) (omega (arith, ok.1)) (text32 index)

first-small : (kind : FrameKind) (version : Version) → (most_n1 kind version ≤ 66) × (most_n2 kind ≤ 64)
first-small kinds.Create version = (omega arith, omega arith)
first-small kinds.Measure One = (omega arith, omega arith)
first-small kinds.Measure Two = (omega arith, omega arith)
first-small kinds.Install One = (omega arith, omega arith)
first-small kinds.Install Two = (omega arith, omega arith)
first-small kinds.Update version = (omega arith, omega arith)
first-small kinds.Change version = (omega arith, omega arith)
first-small kinds.Fault version = (omega arith, omega arith)
first-small kinds.Ack version = (omega arith, omega arith)
first-small kinds.Refused version = (omega arith, omega arith)

text-outline : (head : Outline) → AreCounts head.kind head.version head.counts → IsText (outline_bytes head)
text-outline head few =
    let small = first-small head.kind head.version in
    let k = number-of head.kind in
    let v = version-in head.version in
    let size : ℕ = size_of head.kind head.version head.counts in
    let wide = text-then (to_le_bytes w16 head.counts.n3) (to_le_bytes w16 head.counts.n4) (text16 head.counts.n3) (text16 head.counts.n4) in
    let tail = text-then (to_le_bytes w32 head.flow) (to_le_bytes w32 size) (text32 head.flow) (text32 size) in
    let of_counts : IsText (counts_bytes head.counts) = text-cons head.counts.n1 _ (omega (arith, few.0, small.0)) (text-cons head.counts.n2 _ (omega (arith, few.1, small.1)) wide) in
    text-cons (kind_number head.kind) _ (omega (arith, k.1)) (text-cons (version_number head.version) _ (omega (arith, v.1)) (text-then (counts_bytes head.counts) (to_le_bytes w32 head.flow ++ to_le_bytes w32 size) of_counts tail))

pub frame-bytes : (version : Version) (flow : ℕ) (body : Body) → IsSpellable version flow body → AreBytes (spelled version flow body)
frame-bytes version flow body ok =
    let text = text-then (outline_bytes (outline_of version flow body)) (body_bytes version body) (text-outline (outline_of version flow body) ok.1) (text-body version body ok.2) in
    text.bytes

-- how long a body is
abbrev body_size : Version → Body → ℕ
body_size version (Create cwnd mss) = 12
body_size version (Measure program epoch first last now cwnd rate fields) = 8 + count_width version + count_width version + 8 + 8 + 8 + 8 * length fields
body_size version (Install program reports controls events instructions) = 4 + 9 * length reports + 9 * length controls + 4 * length events + 28 * length instructions
body_size version (Update values) = 10 * length values
body_size version (Change program values) = 4 + 10 * length values
body_size version (Fault program epoch place kind index now cwnd) = 8 + count_width version + 3 + 8 + 8
body_size version (Ack primitives was_timeout) = 8 * length primitives + 8
body_size version (Refused reason index) = 5

-- ---- the length of a frame, whatever its numbers are

record IsLong (text : List ℕ) (size : ℕ) : Type 0 where
  long : length text ≡ size

long-then : (a b : List ℕ) (n m : ℕ) → IsLong a n → IsLong b m → IsLong (a ++ b) (n + m)
long-then a b n m first next = record { long = omega (arith, length-append a b, first.long, next.long) }

long-count : (version : Version) (n : ℕ) → IsLong (count_bytes version n) (count_width version)
long-count One n = record { long = refl }
long-count Two n = record { long = refl }

long-all : {A : Type 0} (text : A → List ℕ) (size : ℕ) → ((x : A) → length (text x) ≡ size) → (xs : List A) → IsLong (flat_map text xs) (size * length xs)
long-all text size one [] = record { long = omega arith }
long-all text size one (x ∷ xs) = record { long = ap length (flat_map-cons text x xs) ∙ omega (arith, length-append (text x) (flat_map text xs), one x, (long-all text size one xs).long, mul-suc size (length xs)) }

-- an Ack has fourteen numbers
abbrev pub HasPrimitives : Body → Type 0
HasPrimitives (Ack primitives was_timeout) = length primitives ≡ flag_number
HasPrimitives body = Unit {0}

long-body : (version : Version) (body : Body) → IsLong (body_bytes version body) (body_size version body)
long-body version (Create cwnd mss) = record { long = refl }
long-body version (Measure program epoch first last now cwnd rate fields) =
    long-then _ (numbers_bytes fields) _ _ (long-then _ (to_le_bytes w64 rate) _ 8 (long-then _ (to_le_bytes w64 cwnd) _ 8 (long-then _ (to_le_bytes w64 now) _ 8 (long-then _ (count_bytes version last) _ _ (long-then (to_le_bytes w32 program ++ to_le_bytes w32 epoch) (count_bytes version first) 8 _
    (record { long = refl }) (long-count version first)) (long-count version last)) (record { long = refl })) (record { long = refl })) (record { long = refl })) (long-all (to_le_bytes w64) 8 (λ n. refl) fields)
long-body version (Install program reports controls events instructions) =
    long-then _ (flat_map instruction_bytes instructions) _ _ (long-then _ (flat_map event_bytes events) _ _ (long-then _ (flat_map start_bytes controls) _ _ (long-then (to_le_bytes w32 program) (flat_map start_bytes reports) 4 _
    (record { long = refl }) (long-all start_bytes 9 (λ start. refl) reports)) (long-all start_bytes 9 (λ start. refl) controls)) (long-all event_bytes 4 (λ event. refl) events)) (long-all instruction_bytes 28 (λ i. refl) instructions)
long-body version (Update values) = long-all value_bytes 10 length-value_bytes values
long-body version (Change program values) = long-then (to_le_bytes w32 program) (values_bytes values) 4 _ (record { long = refl }) (long-all value_bytes 10 length-value_bytes values)
long-body version (Fault program epoch place kind index now cwnd) =
    long-then _ (to_le_bytes w64 cwnd) _ 8 (long-then _ (to_le_bytes w64 now) _ 8 (long-then _ (kind ∷ to_le_bytes w16 index) _ 3 (long-then (to_le_bytes w32 program ++ to_le_bytes w32 epoch) (count_bytes version place) 8 _ (record { long = refl }) (long-count version place))
    (record { long = refl })) (record { long = refl })) (record { long = refl })
long-body version (Ack primitives was_timeout) = long-then (numbers_bytes primitives) (to_le_bytes w64 was_timeout) _ 8 (long-all (to_le_bytes w64) 8 (λ n. refl) primitives) (record { long = refl })
long-body version (Refused reason index) = record { long = refl }

size-of : (version : Version) (body : Body) → HasPrimitives body → 16 + body_size version body ≡ size_of (kind_of_body body) version (body_counts body)
size-of version (Create cwnd mss) is = refl
size-of One (Measure program epoch first last now cwnd rate fields) is = omega arith
size-of Two (Measure program epoch first last now cwnd rate fields) is = omega arith
size-of version (Install program reports controls events instructions) is = omega arith
size-of version (Update values) is = refl
size-of version (Change program values) is = omega arith
size-of One (Fault program epoch place kind index now cwnd) is = refl
size-of Two (Fault program epoch place kind index now cwnd) is = refl
size-of version (Ack primitives was_timeout) is = omega (arith, is)
size-of version (Refused reason index) is = refl

pub length-spelled : (version : Version) (flow : ℕ) (body : Body) → HasPrimitives body → length (spelled version flow body) ≡ size_of (kind_of_body body) version (body_counts body)
length-spelled version flow body is =
    let whole = long-then (outline_bytes (outline_of version flow body)) (body_bytes version body) 16 (body_size version body) (record { long = refl }) (long-body version body) in
    whole.long ∙ size-of version body is

ranges-primitives : (version : Version) (body : Body) → HasRanges version body → HasPrimitives body
ranges-primitives version (Create cwnd mss) ok = tt
ranges-primitives version (Measure program epoch first last now cwnd rate fields) ok = tt
ranges-primitives version (Install program reports controls events instructions) ok = tt
ranges-primitives version (Update values) ok = tt
ranges-primitives version (Change program values) ok = tt
ranges-primitives version (Fault program epoch place kind index now cwnd) ok = tt
ranges-primitives version (Ack primitives was_timeout) ok = ok.0
ranges-primitives version (Refused reason index) ok = tt

pub frame-size : (version : Version) (flow : ℕ) (body : Body) → IsSpellable version flow body → length (spelled version flow body) ≡ size_of (kind_of_body body) version (body_counts body)
frame-size version flow body ok = length-spelled version flow body (ranges-primitives version body ok.2)
