-- Where the frames stand after one more turn of their loop.
use Rattle.std.proofs.Common.{◌≡◌, ℕ, ◌+◌, ◌≤◌, List, length, drop, sym, refl, subst, arith}
use Rattle.ccp_base.specs.Outside.{Known}
use Rattle.feed_core.specs.FeedTurns.{Start, AnswersOne, IsFeeding, IsPart}
use Rattle.feed_core.specs.Rests.{AddsPiece}
use Rattle.feed_core.proofs.FeedEats.{handed-still, eats, takes-more}

-- the sink is finished if it was
feeds-kept : {S : Type 0} {start : Start S} {source source' sink sink' : Known} {was_finished is_finished : Type 0} {state : S} {eaten : ℕ} {rest : List ℕ}
    → IsFeeding start source source' sink sink' was_finished state eaten rest → (was_finished → is_finished) → IsFeeding start source source' sink sink' is_finished state eaten rest
feeds-kept {was_finished = was_finished} {is_finished = is_finished} feeding kept = record {
  bytes = feeding.bytes;
  front = feeding.front;
  frames = feeding.frames;
  answers = feeding.answers;
  taken = feeding.taken;
  parts = feeding.parts;
  eaten_is = feeding.eaten_is;
  written = feeding.written;
  handed = handed-still feeding.answers was_finished is_finished feeding.handed kept;
  goes = feeding.goes;
  few = feeding.few;
  roomy = feeding.roomy;
  within = feeding.within;
}

-- nothing was taken or written, and the sink is finished if it was
pub feeds-still : {S : Type 0} {start : Start S} {source source' source'' sink sink' sink'' : Known} {was_finished is_finished : Type 0} {state : S} {eaten : ℕ} {rest : List ℕ}
    → IsFeeding start source source' sink sink' was_finished state eaten rest → source'' ≡ source' → sink'' ≡ sink' → (was_finished → is_finished)
    → IsFeeding start source source'' sink sink'' is_finished state eaten rest
feeds-still {start = start} {source = source} {source'' = source''} {sink = sink} {sink' = sink'} {is_finished = is_finished} {state = state} {eaten = eaten} {rest = rest} feeding same quiet kept =
    subst (λ (k : Known). IsFeeding start source source'' sink k is_finished state eaten rest) (sym quiet)
    (subst (λ (k : Known). IsFeeding start source k sink sink' is_finished state eaten rest) (sym same) (feeds-kept feeding kept))

-- the bytes are these
pub feeds-bytes : {S : Type 0} {start : Start S} {source source' sink sink' : Known} {is_finished : Type 0} {state : S} {eaten : ℕ} {rest bytes : List ℕ}
    → IsFeeding start source source' sink sink' is_finished state eaten rest → bytes ≡ rest → IsFeeding start source source' sink sink' is_finished state eaten bytes
feeds-bytes {start = start} {source = source} {source' = source'} {sink = sink} {sink' = sink'} {is_finished = is_finished} {state = state} {eaten = eaten} feeding same =
    subst (IsFeeding start source source' sink sink' is_finished state eaten) (sym same) feeding

-- a frame was answered
pub feeds-frame : {S : Type 0} {start : Start S} {source source' source'' sink sink' sink'' : Known} {was_finished is_finished : Type 0} {state state' : S} {eaten used : ℕ} {rest rest' : List ℕ}
    → IsFeeding start source source' sink sink' was_finished state eaten rest → source'' ≡ source' → AnswersOne start.answer start.room is_finished sink' sink'' state state' rest used → (was_finished → is_finished)
    → rest' ≡ drop used rest → IsFeeding start source source'' sink sink'' is_finished state' (eaten + used) rest'
feeds-frame {start = start} {source = source} {source' = source'} {sink = sink} {sink' = sink'} {sink'' = sink''} {was_finished = was_finished} {is_finished = is_finished} {state = state} {state' = state'} {eaten = eaten} {used = used} {rest = rest}
    feeding taken one kept after =
    let next = eats start source source' sink sink' sink'' was_finished is_finished kept state eaten rest feeding one.message one.version used one.begins one.some state' one.next one.counted one.written one.handed in
    feeds-bytes (feeds-still next taken refl (λ (finished : is_finished). finished)) after

-- the rest is a part of a frame, and nothing was taken or written
pub feeds-part : {S : Type 0} {start : Start S} {source source' source'' sink sink' sink'' : Known} {was_finished is_finished : Type 0} {state state' : S} {eaten : ℕ} {rest : List ℕ}
    → IsFeeding start source source' sink sink' was_finished state eaten rest → source'' ≡ source' → IsPart sink' sink'' state state' rest → (was_finished → is_finished)
    → IsFeeding start source source'' sink sink'' is_finished state' eaten rest
feeds-part {start = start} {source = source} {source' = source'} {sink = sink} {sink' = sink'} {was_finished = was_finished} {eaten = eaten} {rest = rest} feeding taken part kept =
    let same = subst (λ s. IsFeeding start source source' sink sink' was_finished s eaten rest) (sym part.same) feeding in
    feeds-still same taken part.nothing kept

-- a piece came, and nothing was written
pub feeds-piece : {S : Type 0} {start : Start S} {source source' source'' sink sink' sink'' : Known} {was_finished is_finished : Type 0} {state : S} {eaten room count : ℕ} {rest rest' : List ℕ}
    → IsFeeding start source source' sink sink' was_finished state eaten rest → AddsPiece source' source'' room rest rest' count → eaten + length rest + room ≤ start.limit → sink'' ≡ sink' → (was_finished → is_finished)
    → IsFeeding start source source'' sink sink'' is_finished state eaten rest'
feeds-piece {start = start} {source = source} {source' = source'} {source'' = source''} {sink = sink} {sink' = sink'} {was_finished = was_finished} {state = state} {eaten = eaten} {rest = rest} feeding adds fits quiet kept =
    let more = takes-more start source source' source'' sink sink' was_finished state eaten rest adds.piece feeding adds.taken (omega (arith, fits, adds.long, adds.within)) in
    feeds-still (feeds-bytes more adds.added) refl quiet kept
