-- The bytes of the frames of every kind: a head, and the body of its kind.
use Rattle.std.specs.Prelude.{ℕ, ◌≤◌, ◌<◌, ◌^◌, ◌≡◌, ◌==◌, ◌-◌, List, ◌∷◌, ◌++◌, length, if◌then◌else◌}
use Rattle.std.specs.List.{flat_map, AllByRecursion}
use Rattle.std.specs.Int.{w16, w32, w64, to_le_bytes}
use Rattle.ccp_base.specs.Acknowledgement.{flag_number}
use Rattle.ccp_base.specs.Limits.{most_operation, most_reason}
use Rattle.reply_frames.specs.declared.outline.FrameKind.{FrameKind}
use Rattle.reply_frames.specs.declared.outline.FrameKind.TheVariants as kinds
use Rattle.reply_frames.specs.declared.outline.Version.{Version}
use Rattle.reply_frames.specs.declared.outline.Version.TheVariants.{One, Two}
use Rattle.reply_frames.specs.declared.outline.Counts.{Counts}
use Rattle.reply_frames.specs.declared.outline.Outline.{Outline}
use Rattle.reply_frames.specs.Kinds.{kind_number, version_number, most_n1, most_n2, most_n3, most_n4, size_of}
use Rattle.reply_frames.specs.ValueBytes.{values_bytes, IsSendable}
use Rattle.reply_frames.specs.Frames.{Start, EventLengths, Register, Instruction, Body, Create, Measure, Install, Update, Change, Fault, Ack, Refused}

-- the counts of a head
abbrev pub counts_bytes : Counts → List ℕ
counts_bytes counts = counts.n1 ∷ counts.n2 ∷ to_le_bytes w16 counts.n3 ++ to_le_bytes w16 counts.n4

-- a head: kind, version, counts, flow, and the length of the whole frame
abbrev pub outline_bytes : Outline → List ℕ
outline_bytes head =
    kind_number head.kind ∷ version_number head.version ∷
    counts_bytes head.counts
    ++ (to_le_bytes w32 head.flow ++ to_le_bytes w32 (size_of head.kind head.version head.counts))

-- ---- the parts of bodies

abbrev pub start_bytes : Start → List ℕ
start_bytes start = start.volatile ∷ to_le_bytes w64 start.value

abbrev pub event_bytes : EventLengths → List ℕ
event_bytes event = to_le_bytes w16 event.condition ++ to_le_bytes w16 event.block

abbrev pub register_bytes : Register → List ℕ
register_bytes register = register.class ∷ to_le_bytes w64 register.number

abbrev pub instruction_bytes : Instruction → List ℕ
instruction_bytes i = i.op ∷ register_bytes i.to ++ register_bytes i.left ++ register_bytes i.right

-- a count of acknowledgements, which is wider in version 2
abbrev pub count_width : Version → ℕ
count_width One = 4
count_width Two = 8

abbrev pub count_bytes : Version → ℕ → List ℕ
count_bytes One n = to_le_bytes w32 n
count_bytes Two n = to_le_bytes w64 n

abbrev pub numbers_bytes : List ℕ → List ℕ
numbers_bytes numbers = flat_map (to_le_bytes w64) numbers

-- ---- bodies and frames

abbrev pub body_bytes : Version → Body → List ℕ
body_bytes version (Create cwnd mss) = to_le_bytes w64 cwnd ++ to_le_bytes w32 mss
body_bytes version (Measure program epoch first last now cwnd rate fields) =
    to_le_bytes w32 program ++ to_le_bytes w32 epoch ++ count_bytes version first ++ count_bytes version last
    ++ to_le_bytes w64 now ++ to_le_bytes w64 cwnd ++ to_le_bytes w64 rate ++ numbers_bytes fields
body_bytes version (Install program reports controls events instructions) =
    to_le_bytes w32 program ++ flat_map start_bytes reports ++ flat_map start_bytes controls
    ++ flat_map event_bytes events ++ flat_map instruction_bytes instructions
body_bytes version (Update values) = values_bytes values
body_bytes version (Change program values) = to_le_bytes w32 program ++ values_bytes values
body_bytes version (Fault program epoch place kind index now cwnd) =
    to_le_bytes w32 program ++ to_le_bytes w32 epoch ++ count_bytes version place ++ kind ∷ to_le_bytes w16 index
    ++ to_le_bytes w64 now ++ to_le_bytes w64 cwnd
body_bytes version (Ack primitives was_timeout) = numbers_bytes primitives ++ to_le_bytes w64 was_timeout
body_bytes version (Refused reason index) = reason ∷ to_le_bytes w32 index

abbrev pub kind_of_body : Body → FrameKind
kind_of_body (Create cwnd mss) = kinds.Create
kind_of_body (Measure program epoch first last now cwnd rate fields) = kinds.Measure
kind_of_body (Install program reports controls events instructions) = kinds.Install
kind_of_body (Update values) = kinds.Update
kind_of_body (Change program values) = kinds.Change
kind_of_body (Fault program epoch place kind index now cwnd) = kinds.Fault
kind_of_body (Ack primitives was_timeout) = kinds.Ack
kind_of_body (Refused reason index) = kinds.Refused

abbrev pub counts : ℕ → ℕ → ℕ → ℕ → Counts
counts n1 n2 n3 n4 = record { n1 = n1; n2 = n2; n3 = n3; n4 = n4 }

-- the counts of the head before a body
abbrev pub body_counts : Body → Counts
body_counts (Create cwnd mss) = counts 0 0 0 0
body_counts (Measure program epoch first last now cwnd rate fields) = counts (length fields) 0 0 0
body_counts (Install program reports controls events instructions) =
    counts (length reports) (length controls) (length events) (length instructions)
body_counts (Update values) = counts (length values) 0 0 0
body_counts (Change program values) = counts (length values) 0 0 0
body_counts (Fault program epoch place kind index now cwnd) = counts 0 0 0 0
body_counts (Ack primitives was_timeout) = counts 0 0 0 0
body_counts (Refused reason index) = counts 0 0 0 0

-- the head before a body
abbrev pub outline_of : Version → ℕ → Body → Outline
outline_of version flow body =
    record { kind = kind_of_body body; version = version; counts = body_counts body; flow = flow }

-- the frame of a flow with this body
abbrev pub spelled : Version → ℕ → Body → List ℕ
spelled version flow body = outline_bytes (outline_of version flow body) ++ body_bytes version body

-- ---- what has a place in a frame

abbrev pub StartFits : Start → Type 0
StartFits start = (start.volatile ≤ 1) × (start.value < 2 ^ 64)

abbrev pub IsEvent : EventLengths → Type 0
IsEvent event = (event.condition < 2 ^ 16) × (event.block < 2 ^ 16)

-- the most that the number of a register of this class may be
abbrev pub most_number : ℕ → ℕ
most_number class = if class == 0 then 2 ^ 64 - 1 else if class == 4 then 5 else 255

abbrev pub IsRegister : Register → Type 0
IsRegister register = (register.class ≤ 6) × (register.number ≤ most_number register.class)

abbrev pub IsInstruction : Instruction → Type 0
IsInstruction i = (i.op ≤ most_operation) × IsRegister i.to × IsRegister i.left × IsRegister i.right

abbrev pub IsNumber : ℕ → Type 0
IsNumber n = n < 2 ^ 64

abbrev pub IsCount : Version → ℕ → Type 0
IsCount One n = n < 2 ^ 32
IsCount Two n = n < 2 ^ 64

-- these counts are within the bounds of their kind
abbrev pub AreCounts : FrameKind → Version → Counts → Type 0
AreCounts kind version counts =
    (counts.n1 ≤ most_n1 kind version)
    × (counts.n2 ≤ most_n2 kind)
    × (counts.n3 ≤ most_n3 kind)
    × (counts.n4 ≤ most_n4 kind)

abbrev pub HasRanges : Version → Body → Type 0
HasRanges version (Create cwnd mss) = (cwnd < 2 ^ 64) × (mss < 2 ^ 32)
HasRanges version (Measure program epoch first last now cwnd rate fields) =
    (program < 2 ^ 32) × (epoch < 2 ^ 32) × IsCount version first × IsCount version last
    × (now < 2 ^ 64) × (cwnd < 2 ^ 64) × (rate < 2 ^ 64) × AllByRecursion IsNumber fields
HasRanges version (Install program reports controls events instructions) =
    (program < 2 ^ 32) × AllByRecursion StartFits reports × AllByRecursion StartFits controls
    × AllByRecursion IsEvent events × AllByRecursion IsInstruction instructions
HasRanges version (Update values) = AllByRecursion IsSendable values
HasRanges version (Change program values) = (program < 2 ^ 32) × AllByRecursion IsSendable values
HasRanges version (Fault program epoch place kind index now cwnd) =
    (program < 2 ^ 32) × (epoch < 2 ^ 32) × IsCount version place × (kind ≤ 2) × (index < 2 ^ 16)
    × (now < 2 ^ 64) × (cwnd < 2 ^ 64)
HasRanges version (Ack primitives was_timeout) =
    (length primitives ≡ flag_number) × AllByRecursion IsNumber primitives × (was_timeout ≤ 1)
HasRanges version (Refused reason index) = (1 ≤ reason) × (reason ≤ most_reason) × (index < 2 ^ 32)

-- a body that a frame of this version and flow can have
abbrev pub IsSpellable : Version → ℕ → Body → Type 0
IsSpellable version flow body =
    (flow < 2 ^ 32) × AreCounts (kind_of_body body) version (body_counts body) × HasRanges version body
