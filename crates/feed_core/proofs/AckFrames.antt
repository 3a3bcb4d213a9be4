-- An acknowledgement's frame is spelled by the numbers at its places.
use Rattle.std.proofs.Common.{◌≡◌, ℕ, ◌+◌, ◌*◌, ◌^◌, ◌≤◌, ◌<◌, List, [], ◌∷◌, ◌++◌, length, take, drop, slice_set, append-nil, append_assoc, refl, sym, ap, ◌∙◌, arith}
use Rattle.std.specs.Int.{w32, w64, to_le_bytes, from_le_bytes}
use Rattle.std.proofs.lemmas.List.{take_all, take_more_set, take-append-drop, drop-drop, length-take, length-drop, nil_from_length}
use Rattle.std.proofs.lemmas.Grind.{flat_map-append}
use Rattle.std.proofs.lemmas.Nat.{le_bytes_4, le_bytes_8}
use Rattle.ccp_base.specs.declared.ack.Ack.{Ack}
use Rattle.ccp_base.specs.Acknowledgement.{primitives}
use Rattle.ccp_base.specs.Limits.{primitive_count}
use Rattle.reply_frames.specs.declared.outline.Version.{Version}
use Rattle.reply_frames.specs.declared.outline.Version.TheVariants.{One, Two}
use Rattle.reply_frames.specs.Bodies.{ack_body}
use Rattle.reply_frames.specs.FrameBytes.{body_bytes, numbers_bytes}
use Rattle.reply_frames.proofs.Codec.{AllBytes, AllBytes-take, AllBytes-drop}
use Rattle.ccp_messages.specs.declared.message.Message.TheVariants as message
use Rattle.ccp_messages.specs.Messages.{IsTypedAck}
use Rattle.ccp_messages.specs.Decoding.{Begins}
use Rattle.feed_core.specs.AckFrames.{ack_length, ack_head}

-- the bytes from a place on, from a number there
from32 : (place n : ℕ) (frame : List ℕ) → AllBytes frame → place + 4 ≤ length frame → n ≡ from_le_bytes w32 (take 4 (drop place frame)) → drop place frame ≡ to_le_bytes w32 n ++ drop (place + 4) frame
from32 place n frame fits long is =
    sym (take-append-drop 4 (drop place frame))
    ∙ ap (λ front. front ++ drop 4 (drop place frame)) (sym (le_bytes_4 (take 4 (drop place frame)) n (omega (arith, length-take 4 (drop place frame), length-drop place frame)) (AllBytes-take 4 (drop place frame) (AllBytes-drop place frame fits)) is))
    ∙ ap (λ rest. to_le_bytes w32 n ++ rest) (drop-drop 4 place frame)

from64 : (place n : ℕ) (frame : List ℕ) → AllBytes frame → place + 8 ≤ length frame → n ≡ from_le_bytes w64 (take 8 (drop place frame)) → drop place frame ≡ to_le_bytes w64 n ++ drop (place + 8) frame
from64 place n frame fits long is =
    sym (take-append-drop 8 (drop place frame))
    ∙ ap (λ front. front ++ drop 8 (drop place frame)) (sym (le_bytes_8 (take 8 (drop place frame)) n (omega (arith, length-take 8 (drop place frame), length-drop place frame)) (AllBytes-take 8 (drop place frame) (AllBytes-drop place frame fits)) is))
    ∙ ap (λ rest. to_le_bytes w64 n ++ rest) (drop-drop 8 place frame)

-- the first eight bytes of a head, as a number
abbrev pub first_number : Version → ℕ
first_number One = 263
first_number Two = 519

head-front : (version : Version) (flow : ℕ) (rest : List ℕ) → take 16 (to_le_bytes w64 (first_number version) ++ to_le_bytes w32 flow ++ to_le_bytes w32 ack_length ++ rest) ≡ ack_head version flow
head-front One flow rest = refl
head-front Two flow rest = refl

pub head-spelled : (version : Version) (flow : ℕ) (frame : List ℕ) → AllBytes frame → length frame ≡ ack_length → first_number version ≡ from_le_bytes w64 (take 8 (drop 0 frame)) → flow ≡ from_le_bytes w32 (take 4 (drop 8 frame)) → ack_length ≡ from_le_bytes w32 (take 4 (drop 12 frame)) → take 16 frame ≡ ack_head version flow
head-spelled version flow frame fits long first second third =
    let parts : frame ≡ to_le_bytes w64 (first_number version) ++ to_le_bytes w32 flow ++ to_le_bytes w32 ack_length ++ drop 16 frame =
    from64 0 (first_number version) frame fits (omega (arith, long)) first
    ∙ ap (λ rest. to_le_bytes w64 (first_number version) ++ rest) (from32 8 flow frame fits (omega (arith, long)) second)
    ∙ ap (λ rest. to_le_bytes w64 (first_number version) ++ to_le_bytes w32 flow ++ rest) (from32 12 ack_length frame fits (omega (arith, long)) third) in
    ap (λ bytes. take 16 bytes) parts ∙ head-front version flow (drop 16 frame)

-- one more number is read: it and the bytes after it are the bytes from its place on
pub one-more : (numbers frame : List ℕ) (number n : ℕ) → AllBytes frame → length frame ≡ ack_length → length numbers ≡ primitive_count → number < primitive_count → n ≡ from_le_bytes w64 (take 8 (drop (16 + 8 * number) frame)) → numbers_bytes (take (number + 1) (slice_set numbers number n)) ++ drop (16 + 8 * (number + 1)) frame ≡ numbers_bytes (take number numbers) ++ drop (16 + 8 * number) frame
one-more numbers frame number n fits long full below is =
    let next : 16 + 8 * (number + 1) ≡ (16 + 8 * number) + 8 = omega arith in
    ap (λ xs. numbers_bytes xs ++ drop (16 + 8 * (number + 1)) frame) (take_more_set numbers number n (omega (arith, full, below)))
    ∙ ap (λ xs. xs ++ drop (16 + 8 * (number + 1)) frame) (flat_map-append (to_le_bytes w64) (take number numbers) (n ∷ []))
    ∙ append_assoc (numbers_bytes (take number numbers)) (numbers_bytes (n ∷ [])) (drop (16 + 8 * (number + 1)) frame)
    ∙ ap (λ place. numbers_bytes (take number numbers) ++ (to_le_bytes w64 n ++ drop place frame)) next
    ∙ ap (λ rest. numbers_bytes (take number numbers) ++ rest) (sym (from64 (16 + 8 * number) n frame fits (omega (arith, long, below)) is))

-- all numbers are read
pub all-read : (numbers frame : List ℕ) (number : ℕ) → length frame ≡ ack_length → length numbers ≡ primitive_count → primitive_count ≤ number → numbers_bytes (take number numbers) ++ drop (16 + 8 * number) frame ≡ drop 16 frame → drop 16 frame ≡ numbers_bytes numbers
all-read numbers frame number long full end read =
    sym read
    ∙ ap (λ rest. numbers_bytes (take number numbers) ++ rest) (nil_from_length (drop (16 + 8 * number) frame) (omega (arith, long, end, length-drop (16 + 8 * number) frame)))
    ∙ append-nil (numbers_bytes (take number numbers))
    ∙ ap numbers_bytes (take_all number numbers (omega (arith, full, end)))

-- the numbers of a body are the primitives of its acknowledgement
pub body-spelled : (ack : Ack) (numbers frame : List ℕ) → drop 16 frame ≡ numbers_bytes numbers → primitives ack ≡ numbers → drop 16 frame ≡ body_bytes One (ack_body ack)
body-spelled ack numbers frame read are = read ∙ ap numbers_bytes (sym are)

-- the bytes begin with a frame that has this head and this body
pub frame-begins : (bytes frame : List ℕ) (version : Version) (flow : ℕ) (ack : Ack) → frame ≡ take ack_length bytes → take 16 frame ≡ ack_head version flow → drop 16 frame ≡ body_bytes One (ack_body ack) → flow < 2 ^ 32 → IsTypedAck ack → Begins bytes (message.Ack flow ack) version ack_length
frame-begins bytes frame version flow ack front head body below typed = record {
  rest = drop ack_length bytes;
  parts = sym (take-append-drop ack_length bytes) ∙ ap (λ xs. xs ++ drop ack_length bytes) (sym front ∙ sym (take-append-drop 16 frame) ∙ ap (λ xs. xs ++ drop 16 frame) head ∙ ap (λ xs. ack_head version flow ++ xs) body);
  used_is = refl;
  meets = tt;
  typed = (below, typed);
}
