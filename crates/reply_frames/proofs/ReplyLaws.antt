-- An Update or a Change is read from what it is spelled as, and from nothing else.
use Rattle.std.proofs.Common.{◌≡◌, ◌≢◌, ℕ, ◌-◌, ◌≤◌, ◌<◌, ◌^◌, List, [], ◌∷◌, ◌++◌, length, drop, Result, Ok, Err, Option, Some, None, refl, sym, ap, subst, ◌∙◌, arith, length-append}
use Rattle.std.specs.Prelude.{IfSome, IfOk, IfErr}
use Rattle.std.specs.List.{AllByRecursion}
use Rattle.ccp_base.specs.FieldReg.{Pair}
use Rattle.reply_frames.specs.declared.fault.FrameFault.{FrameFault}
use Rattle.reply_frames.specs.declared.fault.FrameFault.TheVariants.{Other}
use Rattle.reply_frames.specs.declared.outline.FrameKind.{FrameKind}
use Rattle.reply_frames.specs.declared.outline.FrameKind.TheVariants as kinds
use Rattle.reply_frames.specs.declared.fault.Stop.TheVariants as stops
use Rattle.reply_frames.specs.declared.outline.Version.{Version}
use Rattle.reply_frames.specs.declared.outline.Version.TheVariants.{One}
use Rattle.reply_frames.specs.declared.outline.Outline.{Outline}
use Rattle.reply_frames.specs.declared.decode.ReplyHead.{ReplyHead}
use Rattle.reply_frames.specs.Parts.{Read}
use Rattle.reply_frames.specs.Frames.{Body, Create, Measure, Install, Update, Change, Fault, Ack, Refused, Frame, frame_at}
use Rattle.reply_frames.specs.Replies.{update_bytes, change_bytes, reply_bytes, reply_head, IsReply}
use Rattle.reply_frames.specs.ValueBytes.{AreTargets, ValueFits, IsSendable}
use Rattle.reply_frames.specs.Writing.{over}
use Rattle.reply_frames.specs.Decoding.{head_of, answer_of, decoded_from, decoded_of, IsOther}
use Rattle.reply_frames.specs.FrameBytes.{kind_of_body, outline_of, spelled, IsSpellable}
use Rattle.reply_frames.proofs.Codec.{AllBytes}
use Rattle.reply_frames.specs.Kinds.{kind_number}
use Rattle.reply_frames.proofs.CodecFrames.{frame-writes, frame-reads}
use Rattle.reply_frames.proofs.FrameLaws.{answer-err, read_begins, begins_read}

-- ---- what is spelled is read

-- a frame of any kind, as an answer
spelled-decoded : (version : Version) (flow : ℕ) (body : Body) (rest : List ℕ) → IsSpellable version flow body
    → decoded_of (spelled version flow body ++ rest) ≡ answer_of (kind_of_body body) (outline_of version flow body) body (length (spelled version flow body))
spelled-decoded version flow body rest ok =
    let text : List ℕ = spelled version flow body in
    let used : length (text ++ rest) - length rest ≡ length text = omega (arith, length-append text rest) in
    ap (decoded_from (text ++ rest)) ((frame-writes version flow body ok).again rest)
    ∙ ap (answer_of (kind_of_body body) (outline_of version flow body) body) used

reply-decoded : (bytes rest : List ℕ) (version : Version) (flow : ℕ) (program : Option ℕ) (used : ℕ) (values : List Pair) → bytes ≡ reply_bytes version flow program values ++ rest → used ≡ length (reply_bytes version flow program values)
    → flow < 2 ^ 32 → IfSome program (λ program. program < 2 ^ 32) → length values ≤ 66 → AllByRecursion IsSendable values → decoded_of bytes ≡ Ok (record { flow = flow; program = program; version = version; used = used }, values)
reply-decoded bytes rest version flow None used values parts len fits program_fits few sendable =
    ap decoded_of parts ∙ spelled-decoded version flow (Update values) rest (fits, (few, omega arith, omega arith, omega arith), sendable)
    ∙ ap (λ used. Ok (record { flow = flow; program = None; version = version; used = used }, values)) (sym len)
reply-decoded bytes rest version flow (Some program) used values parts len fits program_fits few sendable =
    ap decoded_of parts ∙ spelled-decoded version flow (Change program values) rest (fits, (few, omega arith, omega arith, omega arith), (program_fits, sendable))
    ∙ ap (λ used. Ok (record { flow = flow; program = Some program; version = version; used = used }, values)) (sym len)

pub is_reply : (bytes : List ℕ) (head : ReplyHead) (values : List Pair) → IsReply bytes head values → decoded_of bytes ≡ Ok (head, values)
is_reply bytes head values r = reply-decoded bytes r.rest head.version head.flow head.program head.used values r.parts r.used r.flow r.program r.few r.values_fit

pub told_only : (bytes : List ℕ) (result : Result ReplyHead FrameFault) (values : List Pair) → IfOk result (λ head. decoded_of bytes ≡ Ok (head, values)) → IfErr result (λ fault. decoded_of bytes ≡ Err fault)
    → (head : ReplyHead) (pairs : List Pair) → IsReply bytes head pairs → (result ≡ Ok head) × (values ≡ pairs)
told_only bytes (Ok other) values found told head pairs reply =
    let same : ◌≡◌ {A = Result (ReplyHead × List Pair) FrameFault} (Ok (other, values)) (Ok (head, pairs)) = sym found ∙ is_reply bytes head pairs reply in
    let both : ◌≡◌ {A = ReplyHead × List Pair} (other, values) (head, pairs) = cc in
    (ap (λ (p : ReplyHead × List Pair). Ok p.0) both, ap (λ (p : ReplyHead × List Pair). p.1) both)
told_only bytes (Err fault) values found told head pairs reply =
    let clash : ◌≡◌ {A = Result (ReplyHead × List Pair) FrameFault} (Err fault) (Ok (head, pairs)) = sym told ∙ is_reply bytes head pairs reply in
    absurd cc

-- ---- what is read is spelled

body-is_reply : (bytes rest : List ℕ) (version : Version) (flow used : ℕ) (body : Body) (head : ReplyHead) (values : List Pair) → bytes ≡ spelled version flow body ++ rest → used ≡ length (spelled version flow body) → IsSpellable version flow body
    → answer_of (kind_of_body body) (outline_of version flow body) body used ≡ Ok (head, values) → IsReply bytes head values
body-is_reply bytes rest version flow used (Update pairs) head values parts len ok e =
    let made : ReplyHead × List Pair = (head_of (outline_of version flow (Update pairs)) None used, pairs) in
    let both : made ≡ (head, values) = cc in
    subst (λ (p : ReplyHead × List Pair). IsReply bytes p.0 p.1) both (record { rest = rest; parts = parts; used = len; flow = ok.0; program = tt; few = ok.1.0; values_fit = ok.2 })
body-is_reply bytes rest version flow used (Change program pairs) head values parts len ok e =
    let made : ReplyHead × List Pair = (head_of (outline_of version flow (Change program pairs)) (Some program) used, pairs) in
    let both : made ≡ (head, values) = cc in
    subst (λ (p : ReplyHead × List Pair). IsReply bytes p.0 p.1) both (record { rest = rest; parts = parts; used = len; flow = ok.0; program = ok.2.0; few = ok.1.0; values_fit = ok.2.1 })
body-is_reply bytes rest version flow used body head values parts len ok e = absurd cc

read-is_reply : (bytes : List ℕ) (read : Read Frame) (head : ReplyHead) (values : List Pair) → AllBytes bytes → frame_at bytes ≡ read → decoded_from bytes read ≡ Ok (head, values) → IsReply bytes head values
read-is_reply bytes (Err stop) head values fits e d = absurd cc
read-is_reply bytes (Ok (frame, rest)) head values fits e d =
    let r = frame-reads bytes (frame, rest) fits e in
    let version = frame.outline.version in
    let flow = frame.outline.flow in
    let text : List ℕ = spelled version flow frame.body in
    let used : length bytes - length rest ≡ length text = omega (arith, ap length r.0.parts, length-append text rest) in
    let d' : answer_of (kind_of_body frame.body) (outline_of version flow frame.body) frame.body (length bytes - length rest) ≡ Ok (head, values) =
    ap (λ (o : Outline). answer_of o.kind o frame.body (length bytes - length rest)) (sym r.1.1) ∙ d in
    body-is_reply bytes rest version flow (length bytes - length rest) frame.body head values r.0.parts used r.1.0 d'

pub reply_is : (bytes : List ℕ) (head : ReplyHead) (values : List Pair) → AllBytes bytes → decoded_of bytes ≡ Ok (head, values) → IsReply bytes head values
reply_is bytes head values fits e = read-is_reply bytes (frame_at bytes) head values fits refl e

pub told_reply : (bytes : List ℕ) (result : Result ReplyHead FrameFault) (values : List Pair) → AllBytes bytes → IfOk result (λ head. decoded_of bytes ≡ Ok (head, values)) → IfOk result (λ head. IsReply bytes head values)
told_reply bytes (Ok head) values fits found = reply_is bytes head values fits found
told_reply bytes (Err fault) values fits found = tt

-- ---- what is written is read back

sendable : (values : List Pair) → AreTargets values → AllByRecursion ValueFits values → AllByRecursion IsSendable values
sendable [] targets numbers = tt
sendable (value ∷ values) targets numbers = ((targets.0, numbers.0), sendable values targets.1 numbers.1)

pub written-update : (flow : ℕ) (values : List Pair) (old out : List ℕ) → flow < 2 ^ 32 → length values ≤ 66 → AreTargets values → AllByRecursion ValueFits values → out ≡ over (update_bytes One flow values) old → IsReply out (reply_head flow None values) values
written-update flow values old out low few targets numbers is = record {
  rest = drop (length (update_bytes One flow values)) old;
  parts = is;
  used = refl;
  flow = low;
  program = tt;
  few = few;
  values_fit = sendable values targets numbers;
}

pub written-change : (flow program : ℕ) (values : List Pair) (old out : List ℕ) → flow < 2 ^ 32 → program < 2 ^ 32 → length values ≤ 66 → AreTargets values → AllByRecursion ValueFits values → out ≡ over (change_bytes One flow program values) old → IsReply out (reply_head flow (Some program) values) values
written-change flow program values old out low known few targets numbers is = record {
  rest = drop (length (change_bytes One flow program values)) old;
  parts = is;
  used = refl;
  flow = low;
  program = known;
  few = few;
  values_fit = sendable values targets numbers;
}

-- ---- frames of other kinds

-- a body whose frame is ignored is no Update and no Change
pub record IsPassed (body : Body) : Type 0 where
  pub no_update : kind_of_body body ≢ kinds.Update
  pub no_change : kind_of_body body ≢ kinds.Change

other-body : (outline : Outline) (body : Body) (used n : ℕ) → answer_of (kind_of_body body) outline body used ≡ Err (Other n) → IsPassed body
other-body outline (Create cwnd mss) used n e = record { no_update = λ is. cc; no_change = λ is. cc }
other-body outline (Measure program epoch first last now cwnd rate fields) used n e = record { no_update = λ is. cc; no_change = λ is. cc }
other-body outline (Install program reports controls events instructions) used n e = record { no_update = λ is. cc; no_change = λ is. cc }
other-body outline (Update values) used n e = absurd cc
other-body outline (Change program values) used n e = absurd cc
other-body outline (Fault program epoch place kind index now cwnd) used n e = record { no_update = λ is. cc; no_change = λ is. cc }
other-body outline (Ack primitives was_timeout) used n e = record { no_update = λ is. cc; no_change = λ is. cc }
other-body outline (Refused reason index) used n e = record { no_update = λ is. cc; no_change = λ is. cc }

other-frame : (bytes : List ℕ) (read : Read Frame) (n : ℕ) → AllBytes bytes → frame_at bytes ≡ read → decoded_from bytes read ≡ Err (Other n) → IsOther bytes n
other-frame bytes (Err stops.Cut) n fits e d = absurd cc
other-frame bytes (Err (stops.Bad field left)) n fits e d = absurd cc
other-frame bytes (Ok (frame, rest)) n fits e d =
    let r = frame-reads bytes (frame, rest) fits e in
    let used = length bytes - length rest in
    let kind : kind_of_body frame.body ≡ frame.outline.kind = sym (ap (λ (o : Outline). o.kind) r.1.1) in
    let same : answer_of (kind_of_body frame.body) frame.outline frame.body used ≡ Err (Other n) = ap (λ (k : FrameKind). answer_of k frame.outline frame.body used) kind ∙ d in
    let p = other-body frame.outline frame.body used n same in
    let number : Other n ≡ Other (kind_number frame.outline.kind) = answer-err frame.outline.kind frame.outline frame.body used (Other n) d in
    let number_is : n ≡ kind_number frame.outline.kind = cc in
    record {
      frame = frame;
      begins = read_begins bytes frame rest e;
      no_update = λ is. p.no_update (kind ∙ is);
      no_change = λ is. p.no_change (kind ∙ is);
      number_is = number_is;
    }

answer-other : (kind : FrameKind) (outline : Outline) (body : Body) (used : ℕ) → kind ≢ kinds.Update → kind ≢ kinds.Change → answer_of kind outline body used ≡ Err (Other (kind_number kind))
answer-other kinds.Create outline body used no_update no_change = refl
answer-other kinds.Measure outline body used no_update no_change = refl
answer-other kinds.Install outline body used no_update no_change = refl
answer-other kinds.Update outline body used no_update no_change = absurd (no_update refl)
answer-other kinds.Change outline body used no_update no_change = absurd (no_change refl)
answer-other kinds.Fault outline body used no_update no_change = refl
answer-other kinds.Ack outline body used no_update no_change = refl
answer-other kinds.Refused outline body used no_update no_change = refl

is_other : (bytes : List ℕ) (n : ℕ) → IsOther bytes n → decoded_of bytes ≡ Err (Other n)
is_other bytes n o =
    let frame = o.frame in
    ap (decoded_from bytes) (begins_read bytes frame o.begins)
    ∙ answer-other frame.outline.kind frame.outline frame.body (length bytes - length o.begins.rest) o.no_update o.no_change
    ∙ ap (λ n. Err (Other n)) (sym o.number_is)

pub told_other : (bytes : List ℕ) (result : Result ReplyHead FrameFault) → AllBytes bytes → IfErr result (λ fault. decoded_of bytes ≡ Err fault) → (n : ℕ) → result ≡ Err (Other n) → IsOther bytes n
told_other bytes (Ok head) fits told n e = absurd cc
told_other bytes (Err fault) fits told n e = let same : fault ≡ Other n = cc in other-frame bytes (frame_at bytes) n fits refl (told ∙ ap Err same)

pub told_passed : (bytes : List ℕ) (result : Result ReplyHead FrameFault) (values : List Pair) → IfOk result (λ head. decoded_of bytes ≡ Ok (head, values)) → IfErr result (λ fault. decoded_of bytes ≡ Err fault) → (n : ℕ) → IsOther bytes n → result ≡ Err (Other n)
told_passed bytes (Ok head) values found told n other =
    let clash : ◌≡◌ {A = Result (ReplyHead × List Pair) FrameFault} (Ok (head, values)) (Err (Other n)) = sym found ∙ is_other bytes n other in
    absurd cc
told_passed bytes (Err fault) values found told n other =
    let same : ◌≡◌ {A = Result (ReplyHead × List Pair) FrameFault} (Err fault) (Err (Other n)) = sym told ∙ is_other bytes n other in
    let faults : fault ≡ Other n = cc in
    ap Err faults
