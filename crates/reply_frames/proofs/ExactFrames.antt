-- Frames are read exactly.
use Rattle.std.proofs.Common.{ℕ, eqb, cond, Ok, arith}
use Rattle.std.specs.Int.{w16, w32, w64}
use Rattle.ccp_base.specs.declared.fields.FieldReg.TheVariants.{Cwnd, Rate, Control}
use Rattle.ccp_base.specs.Acknowledgement.{flag_number}
use Rattle.ccp_base.specs.Limits.{most_operation}
use Rattle.ccp_base.specs.FieldReg.{Pair}
use Rattle.reply_frames.specs.declared.fault.BadKind.TheVariants as bad
use Rattle.reply_frames.specs.declared.outline.FrameKind.{FrameKind}
use Rattle.reply_frames.specs.declared.outline.FrameKind.TheVariants as kinds
use Rattle.reply_frames.specs.declared.outline.Version.{Version}
use Rattle.reply_frames.specs.declared.outline.Version.TheVariants.{One, Two}
use Rattle.reply_frames.specs.declared.outline.Counts.{Counts}
use Rattle.reply_frames.specs.Parts.{◌>>=◌, byte_at, number_at, limited_at, exactly_at, repeated_at}
use Rattle.reply_frames.specs.Kinds.{kind_numbered, version_of, most_n1, most_n2, most_n3, most_n4, size_of}
use Rattle.reply_frames.specs.Frames.{counts_at, outline_at, start_at, event_at, register_number_at, register_at, instruction_at, target_at, value_at, values_at, Create, Measure, Install, Update, Change, Fault, Ack, Refused, create_at, count_at, measure_at, install_at, update_at, change_at, fault_body_at, ack_body_at, refused_at, body_at, frame_at}
use Rattle.reply_frames.proofs.Exact.{IsExact}
use Rattle.reply_frames.proofs.ExactParts.{exact-then, exact-ok, exact-if, exact-byte, exact-number, exact-limited, exact-exactly, exact-repeated}

pub exact-counts : (kind : FrameKind) (version : Version) → IsExact (counts_at kind version)
unfolding counts_at
exact-counts kind version =
    exact-then (byte_at bad.Count 0 (most_n1 kind version)) _ (exact-byte bad.Count 0 (most_n1 kind version) (omega arith) (omega arith))
    (λ n1. exact-then (byte_at bad.Count 0 (most_n2 kind)) _ (exact-byte bad.Count 0 (most_n2 kind) (omega arith) (omega arith))
    (λ n2. exact-then (limited_at bad.Count 2 (most_n3 kind)) _ (exact-limited bad.Count 2 (most_n3 kind))
    (λ n3. exact-then (limited_at bad.Count 2 (most_n4 kind)) _ (exact-limited bad.Count 2 (most_n4 kind))
    (λ n4. exact-ok (record { n1 = n1; n2 = n2; n3 = n3; n4 = n4 })))))

pub exact-outline : IsExact outline_at
unfolding outline_at
exact-outline =
    exact-then (byte_at bad.Kind 1 8) _ (exact-byte bad.Kind 1 8 (omega arith) (omega arith))
    (λ kind. exact-then (byte_at bad.Version 1 2) _ (exact-byte bad.Version 1 2 (omega arith) (omega arith))
    (λ version. exact-then (counts_at (kind_numbered kind) (version_of version)) _ (exact-counts (kind_numbered kind) (version_of version))
    (λ counts. exact-then (number_at w32) _ (exact-number w32)
    (λ flow. exact-then (exactly_at bad.Length 4 (size_of (kind_numbered kind) (version_of version) counts)) _ (exact-exactly bad.Length 4 (size_of (kind_numbered kind) (version_of version) counts))
    (λ size. exact-ok (record { kind = kind_numbered kind; version = version_of version; counts = counts; flow = flow }))))))

exact-start : IsExact start_at
unfolding start_at
exact-start =
    exact-then (byte_at bad.Flag 0 1) _ (exact-byte bad.Flag 0 1 (omega arith) (omega arith))
    (λ volatile. exact-then (number_at w64) _ (exact-number w64) (λ value. exact-ok (record { volatile = volatile; value = value })))

exact-event : IsExact event_at
unfolding event_at
exact-event =
    exact-then (number_at w16) _ (exact-number w16)
    (λ condition. exact-then (number_at w16) _ (exact-number w16) (λ block. exact-ok (record { condition = condition; block = block })))

exact-register_number : (class : ℕ) → IsExact (register_number_at class)
unfolding register_number_at
exact-register_number class =
    exact-if (eqb class 0) (number_at w64) (λ bytes. cond (eqb class 4) (limited_at bad.Index 8 5 bytes) (limited_at bad.Index 8 255 bytes)) (exact-number w64)
    (exact-if (eqb class 4) (limited_at bad.Index 8 5) (limited_at bad.Index 8 255) (exact-limited bad.Index 8 5) (exact-limited bad.Index 8 255))

exact-register : IsExact register_at
unfolding register_at
exact-register =
    exact-then (byte_at bad.Class 0 6) _ (exact-byte bad.Class 0 6 (omega arith) (omega arith))
    (λ class. exact-then (register_number_at class) _ (exact-register_number class) (λ number. exact-ok (record { class = class; number = number })))

exact-instruction : IsExact instruction_at
unfolding instruction_at
exact-instruction =
    exact-then (byte_at bad.Op 0 most_operation) _ (exact-byte bad.Op 0 most_operation (omega arith) (omega arith))
    (λ op. exact-then register_at _ exact-register
    (λ to. exact-then register_at _ exact-register
    (λ left. exact-then register_at _ exact-register
    (λ right. exact-ok (record { op = op; to = to; left = left; right = right })))))

exact-target : IsExact target_at
unfolding target_at
exact-target =
    exact-then (byte_at bad.Class 3 4) _ (exact-byte bad.Class 3 4 (omega arith) (omega arith))
    (λ class. exact-if (eqb class 3)
    (λ bytes. byte_at bad.Index 0 63 bytes >>= λ number. Ok (Control number.0, number.1))
    (λ bytes. byte_at bad.Index 4 5 bytes >>= λ number. Ok (cond (eqb number.0 4) Cwnd Rate, number.1))
    (exact-then (byte_at bad.Index 0 63) _ (exact-byte bad.Index 0 63 (omega arith) (omega arith)) (λ number. exact-ok (Control number)))
    (exact-then (byte_at bad.Index 4 5) _ (exact-byte bad.Index 4 5 (omega arith) (omega arith)) (λ number. exact-ok (cond (eqb number 4) Cwnd Rate))))

exact-value : IsExact value_at
unfolding value_at
exact-value =
    exact-then target_at _ exact-target
    (λ target. exact-then (number_at w64) _ (exact-number w64) (λ value. let pair : Pair = (target, value) in exact-ok pair))

exact-values : (count : ℕ) → IsExact (values_at count)
unfolding values_at
exact-values count = exact-repeated value_at exact-value count

exact-count : (version : Version) → IsExact (count_at version)
exact-count One = exact-number w32
exact-count Two = exact-number w64

exact-create : IsExact create_at
unfolding create_at
exact-create =
    exact-then (number_at w64) _ (exact-number w64)
    (λ cwnd. exact-then (number_at w32) _ (exact-number w32) (λ mss. exact-ok (Create cwnd mss)))

exact-measure : (version : Version) (count : ℕ) → IsExact (measure_at version count)
unfolding measure_at
exact-measure version count =
    exact-then (number_at w32) _ (exact-number w32)
    (λ program. exact-then (number_at w32) _ (exact-number w32)
    (λ epoch. exact-then (count_at version) _ (exact-count version)
    (λ first. exact-then (count_at version) _ (exact-count version)
    (λ last. exact-then (number_at w64) _ (exact-number w64)
    (λ now. exact-then (number_at w64) _ (exact-number w64)
    (λ cwnd. exact-then (number_at w64) _ (exact-number w64)
    (λ rate. exact-then (repeated_at (number_at w64) count) _ (exact-repeated (number_at w64) (exact-number w64) count)
    (λ fields. exact-ok (Measure program epoch first last now cwnd rate fields)))))))))

exact-install : (counts : Counts) → IsExact (install_at counts)
unfolding install_at
exact-install counts =
    exact-then (number_at w32) _ (exact-number w32)
    (λ program. exact-then (repeated_at start_at counts.n1) _ (exact-repeated start_at exact-start counts.n1)
    (λ reports. exact-then (repeated_at start_at counts.n2) _ (exact-repeated start_at exact-start counts.n2)
    (λ controls. exact-then (repeated_at event_at counts.n3) _ (exact-repeated event_at exact-event counts.n3)
    (λ events. exact-then (repeated_at instruction_at counts.n4) _ (exact-repeated instruction_at exact-instruction counts.n4)
    (λ instructions. exact-ok (Install program reports controls events instructions))))))

exact-update : (count : ℕ) → IsExact (update_at count)
unfolding update_at
exact-update count = exact-then (values_at count) _ (exact-values count) (λ values. exact-ok (Update values))

exact-change : (count : ℕ) → IsExact (change_at count)
unfolding change_at
exact-change count =
    exact-then (number_at w32) _ (exact-number w32)
    (λ program. exact-then (values_at count) _ (exact-values count) (λ values. exact-ok (Change program values)))

exact-fault : (version : Version) → IsExact (fault_body_at version)
unfolding fault_body_at
exact-fault version =
    exact-then (number_at w32) _ (exact-number w32)
    (λ program. exact-then (number_at w32) _ (exact-number w32)
    (λ epoch. exact-then (count_at version) _ (exact-count version)
    (λ place. exact-then (byte_at bad.FaultKind 0 2) _ (exact-byte bad.FaultKind 0 2 (omega arith) (omega arith))
    (λ kind. exact-then (number_at w16) _ (exact-number w16)
    (λ index. exact-then (number_at w64) _ (exact-number w64)
    (λ now. exact-then (number_at w64) _ (exact-number w64)
    (λ cwnd. exact-ok (Fault program epoch place kind index now cwnd))))))))

exact-ack : IsExact ack_body_at
unfolding ack_body_at
exact-ack =
    exact-then (repeated_at (number_at w64) flag_number) _ (exact-repeated (number_at w64) (exact-number w64) flag_number)
    (λ primitives. exact-then (limited_at bad.Flag 8 1) _ (exact-limited bad.Flag 8 1)
    (λ was_timeout. exact-ok (Ack primitives was_timeout)))

exact-refused : IsExact refused_at
unfolding refused_at
exact-refused =
    exact-then (byte_at bad.Kind 1 9) _ (exact-byte bad.Kind 1 9 (omega arith) (omega arith))
    (λ reason. exact-then (number_at w32) _ (exact-number w32) (λ index. exact-ok (Refused reason index)))

exact-body : (kind : FrameKind) (version : Version) (counts : Counts) → IsExact (body_at kind version counts)
exact-body kinds.Create version counts = exact-create
exact-body kinds.Measure version counts = exact-measure version counts.n1
exact-body kinds.Install version counts = exact-install counts
exact-body kinds.Update version counts = exact-update counts.n1
exact-body kinds.Change version counts = exact-change counts.n1
exact-body kinds.Fault version counts = exact-fault version
exact-body kinds.Ack version counts = exact-ack
exact-body kinds.Refused version counts = exact-refused

pub exact-frame : IsExact frame_at
unfolding frame_at
exact-frame =
    exact-then outline_at _ exact-outline
    (λ outline. exact-then (body_at outline.kind outline.version outline.counts) _ (exact-body outline.kind outline.version outline.counts)
    (λ body. exact-ok (record { outline = outline; body = body })))
