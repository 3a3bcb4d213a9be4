-- One more frame, and one more piece, of an input.
use Rattle.std.proofs.Common.{◌≡◌, inl, inr, ℕ, suc, ◌+◌, ◌-◌, ◌<◌, ◌≤◌, Ok, List, ◌++◌, length, drop, ap, sym, refl, ◌∙◌, arith, append_assoc, length-append}
use Rattle.std.proofs.Math.Seq.{drop-append_seam}
use Rattle.ccp_base.specs.Outside.{Known, Takes, Appends, Takes-append, Appends-append}
use Rattle.reply_frames.specs.declared.outline.Version.{Version}
use Rattle.ccp_messages.specs.declared.message.Message.{Message}
use Rattle.ccp_messages.specs.Messages.{frame_bytes}
use Rattle.ccp_messages.specs.Decoding.{Begins, decoded_of}
use Rattle.ccp_messages.proofs.DecodeLaws.{begins-decoded}
use Rattle.feed_core.specs.FeedBytes.{AnswerRule, Fed, answer_to, with_answers, fed_on, fed}
use Rattle.feed_core.specs.FeedEnds.{AreHandedOn}
use Rattle.feed_core.specs.FeedTurns.{Start, IsFeeding}

-- a frame takes some bytes
pub some-used : (bytes : List ℕ) (message : Message) (version : Version) (used : ℕ) → Begins bytes message version used → (0 < used) × (used ≤ length bytes)
some-used bytes message version used b = (omega (arith, b.used_is, head-long version message), omega (arith, b.used_is, ap length b.parts, length-append (frame_bytes version message) b.rest))
  where
    head-long : (version : Version) (message : Message) → 0 < length (frame_bytes version message)
    head-long version message = omega arith

pub with-with : {S : Type 0} (a b : List ℕ) (f : Fed S) → with_answers a (with_answers b f) ≡ with_answers (a ++ b) f
with-with a b f = λ i. record { answers = sym (append_assoc a b f.answers) i; tail = f.tail; state = f.state }

-- the frames from a whole one on
pub fed-frame : {S : Type 0} (answer : AnswerRule S) (frames place : ℕ) (state : S) (frame more : List ℕ) (message : Message) (version : Version) → frame ≡ frame_bytes version message
    → decoded_of (frame ++ more) ≡ Ok (message, version, length frame)
    → fed answer (suc frames) place state (frame ++ more) ≡ with_answers (answer_to answer state message version) (fed answer frames (place + length frame) (answer state message version).1 more)
fed-frame answer frames place state frame more message version is read =
    ap (fed_on answer (fed answer frames) place state (frame ++ more)) read
    ∙ ap (λ bytes. with_answers (answer_to answer state message version) (fed answer frames (place + length frame) (answer state message version).1 bytes)) (drop-append_seam frame more)

-- answers that were handed on are so if the sink is finished still
pub handed-still : (answers : List ℕ) (was_finished is_finished : Type 0) → AreHandedOn answers was_finished → (was_finished → is_finished) → AreHandedOn answers is_finished
handed-still answers was_finished is_finished (inl none) kept = inl none
handed-still answers was_finished is_finished (inr finished) kept = inr (kept finished)

-- the answers so far and the next one are handed on
handed-next : (answers next : List ℕ) (was_finished is_finished : Type 0) → AreHandedOn answers was_finished → AreHandedOn next is_finished → (was_finished → is_finished) → AreHandedOn (answers ++ next) is_finished
handed-next answers next was_finished is_finished before (inr finished) kept = inr finished
handed-next answers next was_finished is_finished (inr finished) (inl none) kept = inr (kept finished)
handed-next answers next was_finished is_finished (inl empty) (inl none) kept = inl (ap (λ xs. xs ++ next) empty ∙ none)

module _ {S : Type 0} (start : Start S) (source source' sink sink' after : Known) (was_finished is_finished : Type 0) (kept : was_finished → is_finished) (state : S) (eaten : ℕ) (rest : List ℕ)
    (feeding : IsFeeding start source source' sink sink' was_finished state eaten rest)
    (message : Message) (version : Version) (used : ℕ) (begins : Begins rest message version used) (some : 0 < used) where
  abbrev most : ℕ
  most = start.limit - start.place

  abbrev reply : List ℕ
  reply = answer_to start.answer state message version

  pub eats : (next : S) → (start.answer state message version).1 ≡ next → start.room state ≤ start.room next + 1 → Appends sink' after reply → AreHandedOn reply is_finished
      → IsFeeding start source source' sink after is_finished next (eaten + used) (drop used rest)
  eats next is one appended handed =
      let frame = frame_bytes version message in
      let frames : ℕ = feeding.frames in
      let drops : drop used rest ≡ begins.rest = ap (λ n. drop n rest) begins.used_is ∙ ap (drop (length frame)) begins.parts ∙ drop-append_seam frame begins.rest in
      let whole : feeding.front ++ rest ≡ (feeding.front ++ frame) ++ drop used rest =
      ap (λ xs. feeding.front ++ xs) (begins.parts ∙ ap (λ xs. frame ++ xs) (sym drops)) ∙ sym (append_assoc feeding.front frame (drop used rest)) in
      let long : length (feeding.front ++ frame) ≡ length feeding.front + used = omega (arith, length-append feeding.front frame, begins.used_is) in
      let room : eaten + used + length (drop used rest) ≡ eaten + length rest = omega (arith, ap length begins.parts, ap length drops, length-append frame begins.rest, begins.used_is) in
      let fuel : most - frames ≡ suc (most - suc frames) = omega (arith, feeding.few, feeding.eaten_is, feeding.within, room, some) in
      record {
        bytes = feeding.bytes;
        front = feeding.front ++ frame;
        frames = suc frames;
        answers = feeding.answers ++ reply;
        taken = feeding.taken;
        parts = feeding.parts ∙ whole;
        eaten_is = omega (arith, long, feeding.eaten_is);
        written = Appends-append sink sink' after feeding.answers reply feeding.written appended;
        handed = handed-next feeding.answers reply was_finished is_finished feeding.handed handed kept;
        goes = λ more.
            let read : decoded_of (frame ++ more) ≡ Ok (message, version, length frame) =
            begins-decoded (frame ++ more) message version (length frame) (record { rest = more; parts = refl; used_is = refl; meets = begins.meets; typed = begins.typed }) in
            ap (fed start.answer most start.place start.state) (append_assoc feeding.front frame more)
            ∙ feeding.goes (frame ++ more)
            ∙ ap (with_answers feeding.answers)
            (ap (λ n. fed start.answer n eaten state (frame ++ more)) fuel
            ∙ fed-frame start.answer (most - suc frames) eaten state frame more message version refl read
            ∙ ap (λ n. with_answers reply (fed start.answer (most - suc frames) (eaten + n) (start.answer state message version).1 more)) (sym begins.used_is)
            ∙ ap (λ (s : S). with_answers reply (fed start.answer (most - suc frames) (eaten + used) s more)) is)
            ∙ with-with feeding.answers reply (fed start.answer (most - suc frames) (eaten + used) next more);
        few = omega (arith, feeding.few, long, some);
        roomy = omega (arith, feeding.roomy, one);
        within = omega (arith, room, feeding.within);
      }

-- a further piece
pub takes-more : {S : Type 0} (start : Start S) (source source' source'' sink sink' : Known) (is_finished : Type 0) (state : S) (eaten : ℕ) (rest piece : List ℕ)
    → IsFeeding start source source' sink sink' is_finished state eaten rest → Takes source' source'' piece → eaten + length rest + length piece ≤ start.limit
    → IsFeeding start source source'' sink sink' is_finished state eaten (rest ++ piece)
takes-more start source source' source'' sink sink' is_finished state eaten rest piece feeding takes fits = record {
  bytes = feeding.bytes ++ piece;
  front = feeding.front;
  frames = feeding.frames;
  answers = feeding.answers;
  taken = Takes-append source source' source'' feeding.bytes piece feeding.taken takes;
  parts = sym (append_assoc start.before feeding.bytes piece) ∙ ap (λ xs. xs ++ piece) feeding.parts ∙ append_assoc feeding.front rest piece;
  eaten_is = feeding.eaten_is;
  written = feeding.written;
  handed = feeding.handed;
  goes = feeding.goes;
  few = feeding.few;
  roomy = feeding.roomy;
  within = omega (arith, fits, length-append rest piece);
}
