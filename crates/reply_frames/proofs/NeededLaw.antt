-- The length that the front of a frame says is the frame's, and no frame is longer than the largest Install.
use Rattle.std.proofs.Common.{◌≡◌, ℕ, zero, suc, ◌≤◌, ◌<◌, ◌^◌, cond, List, [], ◌∷◌, ◌++◌, length, take, drop, sym, ap, ◌∙◌, arith}
use Rattle.std.specs.Int.{w32, from_le_bytes}
use Rattle.std.proofs.lemmas.Bool.{le-ltb}
use Rattle.std.proofs.lemmas.List.{append-nil, take-append-le, drop-append-le, length-drop}
use Rattle.std.proofs.lemmas.Nat.{from_le_bytes-to_le_bytes_4}
use Rattle.reply_frames.specs.declared.outline.FrameKind.{FrameKind}
use Rattle.reply_frames.specs.declared.outline.FrameKind.TheVariants as kinds
use Rattle.reply_frames.specs.declared.outline.Version.{Version}
use Rattle.reply_frames.specs.declared.outline.Version.TheVariants.{One, Two}
use Rattle.reply_frames.specs.declared.outline.Counts.{Counts}
use Rattle.reply_frames.specs.Frames.{Body}
use Rattle.reply_frames.specs.Kinds.{size_of}
use Rattle.reply_frames.specs.Decoding.{needed_of}
use Rattle.reply_frames.specs.FrameBytes.{AreCounts, IsSpellable, spelled, kind_of_body, body_counts}
use Rattle.reply_frames.proofs.CodecFrames.{frame-reads}
use Rattle.reply_frames.proofs.FrameSizes.{frame-size}
use Rattle.reply_frames.specs.Whole.{AreBytes}
use Rattle.reply_frames.specs.Laws.{Needed, Longest}
use Rattle.reply_frames.proofs.Codec.{AllBytes}

pub all-bytes : (bytes : List ℕ) → AreBytes bytes → AllBytes bytes
all-bytes [] are i = omega arith
all-bytes (byte ∷ bytes) are zero = are.0
all-bytes (byte ∷ bytes) are (suc i) = all-bytes bytes are.1 i

size-small : (kind : FrameKind) (version : Version) (c : Counts) → AreCounts kind version c → size_of kind version c < 2 ^ 32
size-small kinds.Create version c few = omega arith
size-small kinds.Measure One c few = omega (arith, few.0)
size-small kinds.Measure Two c few = omega (arith, few.0)
size-small kinds.Install One c few = omega (arith, few.0, few.1, few.2, few.3)
size-small kinds.Install Two c few = omega (arith, few.0, few.1, few.2, few.3)
size-small kinds.Update version c few = omega (arith, few.0)
size-small kinds.Change version c few = omega (arith, few.0)
size-small kinds.Fault One c few = omega arith
size-small kinds.Fault Two c few = omega arith
size-small kinds.Ack version c few = omega arith
size-small kinds.Refused version c few = omega arith

-- the length in a frame's head
said-size : (version : Version) (flow : ℕ) (body : Body) → IsSpellable version flow body → from_le_bytes w32 (take 4 (drop 12 (spelled version flow body))) ≡ length (spelled version flow body)
said-size version flow body ok =
    from_le_bytes-to_le_bytes_4 (size_of (kind_of_body body) version (body_counts body)) (size-small (kind_of_body body) version (body_counts body) ok.1) ∙ sym (frame-size version flow body ok)

front-size : (bytes more : List ℕ) → 16 ≤ length bytes → take 4 (drop 12 (bytes ++ more)) ≡ take 4 (drop 12 bytes)
front-size bytes more long =
    ap (take 4) (drop-append-le 12 bytes more (omega (arith, long))) ∙ take-append-le 4 (drop 12 bytes) more (omega (arith, long, length-drop 12 bytes))

pub needed : Needed
unfolding needed_of
needed bytes more are frame long =
    let r = frame-reads (bytes ++ more) (frame.frame, []) (all-bytes (bytes ++ more) are) frame.whole in
    let is : bytes ++ more ≡ spelled frame.frame.outline.version frame.frame.outline.flow frame.frame.body = r.0.parts ∙ append-nil (spelled frame.frame.outline.version frame.frame.outline.flow frame.frame.body) in
    ap (λ b. cond b 16 (from_le_bytes w32 (take 4 (drop 12 bytes)))) (le-ltb (length bytes) 16 long)
    ∙ ap (from_le_bytes w32) (sym (front-size bytes more long))
    ∙ ap (λ xs. from_le_bytes w32 (take 4 (drop 12 xs))) is
    ∙ said-size frame.frame.outline.version frame.frame.outline.flow frame.frame.body r.1.0
    ∙ ap length (sym is)

size-most : (kind : FrameKind) (version : Version) (c : Counts) → AreCounts kind version c → size_of kind version c ≤ 8596
size-most kinds.Create version c few = omega arith
size-most kinds.Measure One c few = omega (arith, few.0)
size-most kinds.Measure Two c few = omega (arith, few.0)
size-most kinds.Install One c few = omega (arith, few.0, few.1, few.2, few.3)
size-most kinds.Install Two c few = omega (arith, few.0, few.1, few.2, few.3)
size-most kinds.Update version c few = omega (arith, few.0)
size-most kinds.Change version c few = omega (arith, few.0)
size-most kinds.Fault One c few = omega arith
size-most kinds.Fault Two c few = omega arith
size-most kinds.Ack version c few = omega arith
size-most kinds.Refused version c few = omega arith

pub longest : Longest
longest bytes are frame =
    let version = frame.frame.outline.version in
    let flow = frame.frame.outline.flow in
    let body = frame.frame.body in
    let r = frame-reads bytes (frame.frame, []) (all-bytes bytes are) frame.whole in
    let is : bytes ≡ spelled version flow body = r.0.parts ∙ append-nil (spelled version flow body) in
    omega (arith, ap length is, frame-size version flow body r.1.0, size-most (kind_of_body body) version (body_counts body) r.1.0.1)
