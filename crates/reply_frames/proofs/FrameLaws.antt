-- What reading says of the frames that there are.
use Rattle.std.proofs.Common.{◌≡◌, ℕ, ◌+◌, ◌-◌, List, [], ◌∷◌, ◌++◌, length, take, Result, Ok, Err, refl, sym, ap, subst, ◌∙◌, append_assoc, arith, length-append}
use Rattle.std.specs.Prelude.{IfOk, IfErr}
use Rattle.std.proofs.lemmas.List.{append-nil, take_at}
use Rattle.ccp_base.specs.FieldReg.{Pair}
use Rattle.reply_frames.specs.declared.fault.BadKind.{BadKind}
use Rattle.reply_frames.specs.declared.fault.Stop.TheVariants as stops
use Rattle.reply_frames.specs.declared.fault.FrameFault.{FrameFault}
use Rattle.reply_frames.specs.declared.fault.FrameFault.TheVariants.{More, Bad, Other}
use Rattle.reply_frames.specs.declared.outline.FrameKind.{FrameKind}
use Rattle.reply_frames.specs.declared.outline.FrameKind.TheVariants as kinds
use Rattle.reply_frames.specs.declared.outline.Outline.{Outline}
use Rattle.reply_frames.specs.declared.decode.ReplyHead.{ReplyHead}
use Rattle.reply_frames.specs.Parts.{Read}
use Rattle.reply_frames.specs.Kinds.{kind_number}
use Rattle.reply_frames.specs.Frames.{Frame, frame_at, Body, Update, Change}
use Rattle.reply_frames.specs.Decoding.{needed_of, answer_of, decoded_from, decoded_of, IsBad}
use Rattle.reply_frames.specs.Whole.{IsFrame, IsFrameFront, IsBadFrom, IsBadIn, BeginsWithFrame}
use Rattle.reply_frames.proofs.ExactFrames.{exact-frame}

nothing : (xs ys : List ℕ) → xs ++ ys ≡ [] → ys ≡ []
nothing [] ys e = e
nothing (x ∷ xs) ys e = absurd cc

-- no frame is a proper prefix of another
pub frame_alone : (bytes more : List ℕ) → IsFrame bytes → IsFrame (bytes ++ more) → more ≡ []
frame_alone bytes more one other =
    let t = exact-frame.taken bytes one.frame [] one.whole in
    let again : frame_at (bytes ++ more) ≡ Ok (one.frame, more) = ap (λ xs. frame_at (xs ++ more)) (t.parts ∙ append-nil t.front) ∙ t.again more in
    let pair : ◌≡◌ {A = Frame × List ℕ} (one.frame, more) (other.frame, []) = let same : ◌≡◌ {A = Read Frame} (Ok (one.frame, more)) (Ok (other.frame, [])) = sym again ∙ other.whole in cc in
    ap (λ (p : Frame × List ℕ). p.1) pair

pub cut_is : (bytes : List ℕ) → frame_at bytes ≡ Err stops.Cut → IsFrameFront bytes
cut_is bytes e =
    let c = exact-frame.cut bytes e in
    record {
      more = c.more;
      are_bytes = c.are_bytes;
      some = λ none. let whole : frame_at bytes ≡ Ok (c.value, []) = ap frame_at (sym (ap (λ more. bytes ++ more) none ∙ append-nil bytes)) ∙ c.whole in
          let clash : ◌≡◌ {A = Read Frame} (Err stops.Cut) (Ok (c.value, [])) = sym e ∙ whole in cc;
      frame = record { frame = c.value; whole = c.whole };
    }

is_cut-read : (bytes : List ℕ) (c : IsFrameFront bytes) (read : Read Frame) → frame_at bytes ≡ read → read ≡ Err stops.Cut
is_cut-read bytes c (Ok (frame, rest)) e =
    let t = exact-frame.taken bytes frame rest e in
    let again : frame_at (bytes ++ c.more) ≡ Ok (frame, rest ++ c.more) = ap (λ xs. frame_at (xs ++ c.more)) t.parts ∙ ap frame_at (append_assoc t.front rest c.more) ∙ t.again (rest ++ c.more) in
    let same : ◌≡◌ {A = Read Frame} (Ok (frame, rest ++ c.more)) (Ok (c.frame.frame, [])) = sym again ∙ c.frame.whole in
    let pair : ◌≡◌ {A = Frame × List ℕ} (frame, rest ++ c.more) (c.frame.frame, []) = cc in
    absurd (c.some (nothing rest c.more (ap (λ (p : Frame × List ℕ). p.1) pair)))
is_cut-read bytes c (Err stops.Cut) e = refl
is_cut-read bytes c (Err (stops.Bad field left)) e =
    let r = exact-frame.bad bytes field left e in
    let again : frame_at (bytes ++ c.more) ≡ Err (stops.Bad field (length (r.byte ∷ r.after ++ c.more))) = ap (λ xs. frame_at (xs ++ c.more)) r.parts ∙ ap frame_at (append_assoc r.front (r.byte ∷ r.after) c.more) ∙ r.again (r.after ++ c.more) in
    let clash : ◌≡◌ {A = Read Frame} (Err (stops.Bad field (length (r.byte ∷ r.after ++ c.more)))) (Ok (c.frame.frame, [])) = sym again ∙ c.frame.whole in
    absurd cc

pub is_cut : (bytes : List ℕ) → IsFrameFront bytes → frame_at bytes ≡ Err stops.Cut
is_cut bytes c = is_cut-read bytes c (frame_at bytes) refl

bad_is : (bytes : List ℕ) (field : BadKind) (left : ℕ) → frame_at bytes ≡ Err (stops.Bad field left) → IsBadFrom bytes (length bytes - left)
bad_is bytes field left e =
    let r = exact-frame.bad bytes field left e in
    let place : length bytes - left ≡ length r.front = omega (arith, ap length r.parts, length-append r.front (r.byte ∷ r.after), r.left_is) in
    let front : take (length bytes - left) bytes ≡ r.front = ap (λ n. take n bytes) place ∙ ap (take (length r.front)) r.parts ∙ take_at r.front (r.byte ∷ r.after) (length r.front) refl in
    let regrouped : bytes ≡ (r.front ++ r.byte ∷ []) ++ r.after = r.parts ∙ sym (append_assoc r.front (r.byte ∷ []) r.after) in
    let len : length (r.front ++ r.byte ∷ []) ≡ length bytes - left + 1 = omega (arith, length-append r.front (r.byte ∷ []), place) in
    let one_more : take (length bytes - left + 1) bytes ≡ r.front ++ r.byte ∷ [] = ap (take (length bytes - left + 1)) regrouped ∙ take_at (r.front ++ r.byte ∷ []) r.after (length bytes - left + 1) len in
    record {
      within = omega (arith, ap length r.parts, length-append r.front (r.byte ∷ r.after), place);
      cut = let cut : IsFrameFront r.front = cut_is r.front r.cut in rw front cut;
      none = λ more frame.
          let again : frame_at (take (length bytes - left + 1) bytes ++ more) ≡ Err (stops.Bad field (length (r.byte ∷ more))) = ap (λ xs. frame_at (xs ++ more)) one_more ∙ ap frame_at (append_assoc r.front (r.byte ∷ []) more) ∙ r.again more in
          let clash : ◌≡◌ {A = Read Frame} (Err (stops.Bad field (length (r.byte ∷ more)))) (Ok (frame.frame, [])) = sym again ∙ frame.whole in
          cc;
    }

-- where `left` bytes are left from the bad byte on, its place is the length of what stands before it
pub bad_in_at : (bytes : List ℕ) (field : BadKind) (left place : ℕ) → frame_at bytes ≡ Err (stops.Bad field left) → place ≡ length bytes - left → IsBadIn bytes field place
bad_in_at bytes field left place read at =
    let r = exact-frame.bad bytes field left read in
    let rest : left ≡ length bytes - place = omega (arith, at, r.left_is, ap length r.parts, length-append r.front (r.byte ∷ r.after)) in
    (subst (IsBadFrom bytes) (sym at) (bad_is bytes field left read), read ∙ ap (λ left. Err (stops.Bad field left)) rest)

-- ---- what decoding answers

pub answer-err : (kind : FrameKind) (outline : Outline) (body : Body) (used : ℕ) (fault : FrameFault) → answer_of kind outline body used ≡ Err fault → fault ≡ Other (kind_number kind)
answer-err kinds.Update outline (Update values) used fault e = absurd cc
answer-err kinds.Change outline (Change program values) used fault e = absurd cc
answer-err kind outline body used fault e = cc

more-from : (bytes : List ℕ) (read : Read Frame) (n : ℕ) → decoded_from bytes read ≡ Err (More n) → read ≡ Err stops.Cut
more-from bytes (Ok (frame, rest)) n e =
    let clash : More n ≡ Other (kind_number frame.outline.kind) = answer-err frame.outline.kind frame.outline frame.body (length bytes - length rest) (More n) e in
    absurd cc
more-from bytes (Err stops.Cut) n e = refl
more-from bytes (Err (stops.Bad field left)) n e = absurd cc

pub more_is : (bytes : List ℕ) (n : ℕ) → decoded_of bytes ≡ Err (More n) → IsFrameFront bytes
more_is bytes n e = cut_is bytes (more-from bytes (frame_at bytes) n e)

pub is_more : (bytes : List ℕ) → IsFrameFront bytes → decoded_of bytes ≡ Err (More (needed_of bytes))
is_more bytes c = ap (decoded_from bytes) (is_cut bytes c)

bad-from : (bytes : List ℕ) (read : Read Frame) (field : BadKind) (place : ℕ) → decoded_from bytes read ≡ Err (Bad field place) → (left : ℕ) × (read ≡ Err (stops.Bad field left)) × (place ≡ length bytes - left)
bad-from bytes (Ok (frame, rest)) field place e =
    let clash : Bad field place ≡ Other (kind_number frame.outline.kind) = answer-err frame.outline.kind frame.outline frame.body (length bytes - length rest) (Bad field place) e in
    absurd cc
bad-from bytes (Err stops.Cut) field place e = absurd cc
bad-from bytes (Err (stops.Bad field' left)) field place e =
    let same : Bad field' (length bytes - left) ≡ Bad field place = cc in
    let fields : field' ≡ field = cc in
    let places : length bytes - left ≡ place = cc in
    (left, ap (λ f. Err (stops.Bad f left)) fields, sym places)

pub bad_in_is : (bytes : List ℕ) (field : BadKind) (place : ℕ) → decoded_of bytes ≡ Err (Bad field place) → IsBadIn bytes field place
bad_in_is bytes field place e =
    let b = bad-from bytes (frame_at bytes) field place e in
    bad_in_at bytes field b.0 place b.1 b.2

-- the frame that is read begins the bytes, and a frame that begins them is read
pub read_begins : (bytes : List ℕ) (frame : Frame) (rest : List ℕ) → frame_at bytes ≡ Ok (frame, rest) → BeginsWithFrame bytes frame
read_begins bytes frame rest e =
    let t = exact-frame.taken bytes frame rest e in
    record { front = t.front; rest = rest; parts = t.parts; whole = ap frame_at (sym (append-nil t.front)) ∙ t.again [] }

pub begins_read : (bytes : List ℕ) (frame : Frame) (b : BeginsWithFrame bytes frame) → frame_at bytes ≡ Ok (frame, b.rest)
begins_read bytes frame b =
    let t = exact-frame.taken b.front frame [] b.whole in
    ap frame_at b.parts ∙ ap (λ xs. frame_at (xs ++ b.rest)) (t.parts ∙ append-nil t.front) ∙ t.again b.rest

-- bytes that begin with no frame, and with which no frame begins, have a bad byte
refused-read : (bytes : List ℕ) (read : Read Frame) → frame_at bytes ≡ read → ((frame : Frame) → ¬ BeginsWithFrame bytes frame) → ¬ IsFrameFront bytes → (field : BadKind) × (left : ℕ) × (frame_at bytes ≡ Err (stops.Bad field left))
refused-read bytes (Ok (frame, rest)) e none whole = absurd (none frame (read_begins bytes frame rest e))
refused-read bytes (Err stops.Cut) e none whole = absurd (whole (cut_is bytes e))
refused-read bytes (Err (stops.Bad field left)) e none whole = (field, left, e)

-- ---- the same of what a call answers

pub told_more : (bytes : List ℕ) (result : Result ReplyHead FrameFault) → IfErr result (λ fault. decoded_of bytes ≡ Err fault) → (n : ℕ) → result ≡ Err (More n) → IsFrameFront bytes × (n ≡ needed_of bytes)
told_more bytes (Ok head) told n e = absurd cc
told_more bytes (Err fault) told n e =
    let same : fault ≡ More n = cc in
    let cut : IsFrameFront bytes = more_is bytes n (told ∙ ap Err same) in
    let both : ◌≡◌ {A = Result (ReplyHead × List Pair) FrameFault} (Err (More n)) (Err (More (needed_of bytes))) = sym (told ∙ ap Err same) ∙ is_more bytes cut in
    let is : n ≡ needed_of bytes = cc in
    (cut, is)

pub told_bad : (bytes : List ℕ) (result : Result ReplyHead FrameFault) → IfErr result (λ fault. decoded_of bytes ≡ Err fault) → (field : BadKind) (place : ℕ) → result ≡ Err (Bad field place) → IsBadIn bytes field place
told_bad bytes (Ok head) told field place e = absurd cc
told_bad bytes (Err fault) told field place e = let same : fault ≡ Bad field place = cc in bad_in_is bytes field place (told ∙ ap Err same)

pub told_refused : (bytes : List ℕ) (result : Result ReplyHead FrameFault) (values : List Pair) → IfOk result (λ head. decoded_of bytes ≡ Ok (head, values)) → IfErr result (λ fault. decoded_of bytes ≡ Err fault)
    → ((frame : Frame) → ¬ BeginsWithFrame bytes frame) → ¬ IsFrameFront bytes → IsBad result
told_refused bytes (Ok head) values found told none whole =
    let r = refused-read bytes (frame_at bytes) refl none whole in
    let clash : ◌≡◌ {A = Result (ReplyHead × List Pair) FrameFault} (Ok (head, values)) (Err (Bad r.0 (length bytes - r.1))) = sym found ∙ ap (decoded_from bytes) r.2 in
    absurd cc
told_refused bytes (Err fault) values found told none whole =
    let r = refused-read bytes (frame_at bytes) refl none whole in
    let same : ◌≡◌ {A = Result (ReplyHead × List Pair) FrameFault} (Err fault) (Err (Bad r.0 (length bytes - r.1))) = sym told ∙ ap (decoded_from bytes) r.2 in
    let faults : fault ≡ Bad r.0 (length bytes - r.1) = cc in
    subst (λ (f : FrameFault). IsBad (Err f)) (sym faults) tt

pub told_cut : (bytes : List ℕ) (result : Result ReplyHead FrameFault) (values : List Pair) → IfOk result (λ head. decoded_of bytes ≡ Ok (head, values)) → IfErr result (λ fault. decoded_of bytes ≡ Err fault) → IsFrameFront bytes → result ≡ Err (More (needed_of bytes))
told_cut bytes (Ok head) values found told cut =
    let clash : ◌≡◌ {A = Result (ReplyHead × List Pair) FrameFault} (Ok (head, values)) (Err (More (needed_of bytes))) = sym found ∙ is_more bytes cut in
    absurd cc
told_cut bytes (Err fault) values found told cut =
    let same : ◌≡◌ {A = Result (ReplyHead × List Pair) FrameFault} (Err fault) (Err (More (needed_of bytes))) = sym told ∙ is_more bytes cut in
    let faults : fault ≡ More (needed_of bytes) = cc in
    ap Err faults
