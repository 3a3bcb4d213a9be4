-- What decoding answers, and the laws of messages and frames.
use Rattle.std.proofs.Common.{◌≡◌, ◌≢◌, ℕ, ◌-◌, ◌<◌, List, [], ◌∷◌, ◌++◌, length, Result, Ok, Err, refl, sym, ap, subst, ◌∙◌, arith, length-append}
use Rattle.std.specs.Prelude.{IfOk}
use Rattle.std.proofs.lemmas.List.{append-nil}
use Rattle.ccp_base.specs.Outside.{no_memory}
use Rattle.reply_frames.specs.declared.fault.BadKind.{BadKind}
use Rattle.reply_frames.specs.declared.fault.Stop.{Stop}
use Rattle.reply_frames.specs.declared.fault.Stop.TheVariants as stops
use Rattle.reply_frames.specs.declared.outline.Version.{Version}
use Rattle.reply_frames.specs.declared.outline.Version.TheVariants.{One, Two}
use Rattle.reply_frames.specs.Parts.{Read}
use Rattle.reply_frames.specs.Frames.{Frame, frame_at}
use Rattle.reply_frames.specs.Decoding.{needed_of}
use Rattle.reply_frames.specs.Decoding as replies
use Rattle.reply_frames.specs.declared.decode.ReplyHead.{ReplyHead}
use Rattle.reply_frames.specs.declared.fault.FrameFault.{FrameFault}
use Rattle.reply_frames.specs.declared.fault.FrameFault.TheVariants as faults
use Rattle.ccp_base.specs.FieldReg.{Pair}
use Rattle.reply_frames.specs.Whole.{IsFrameFront, IsBadIn}
use Rattle.reply_frames.specs.FrameBytes.{spelled, outline_of}
use Rattle.reply_frames.proofs.Codec.{AllBytes}
use Rattle.reply_frames.proofs.CodecFrames.{frame-writes, frame-reads}
use Rattle.reply_frames.proofs.FrameSizes.{frame-bytes}
use Rattle.reply_frames.specs.Laws.{PrefixFree}
use Rattle.reply_frames.proofs.NeededLaw.{all-bytes}
use Rattle.reply_frames.proofs.FrameLaws.{frame_alone, cut_is, is_cut, bad_in_at}
use Rattle.ccp_messages.specs.declared.fault.DecodeFault.{DecodeFault}
use Rattle.ccp_messages.specs.declared.fault.DecodeFault.TheVariants.{More, Bad, NoMemory}
use Rattle.ccp_messages.specs.declared.message.Message.{Message}
use Rattle.ccp_messages.specs.Messages.{Meets, message_flow, message_body, frame_bytes, message_of, IsTyped}
use Rattle.ccp_messages.specs.Decoding.{Found, Begins, found_from, decoded_from, decoded_of, IsDecoded, IsBad, IsFound, LacksCode, frame_lack}
use Rattle.ccp_messages.specs.Laws.{IsReadAs, OneFrame, NoOther, BothVersions}
use Rattle.ccp_messages.proofs.MessageLaws.{message-back, message-fits, meets-both, meets-one, IsSaid, body-said}

-- ---- what is read begins the bytes, and what begins them is read

abbrev said : Frame → Message
said frame = message_of frame.outline.flow frame.body

frame-said : (bytes : List ℕ) (frame : Frame) (rest : List ℕ) → AllBytes bytes → frame_at bytes ≡ Ok (frame, rest)
    → (bytes ≡ frame_bytes frame.outline.version (said frame) ++ rest) × IsSaid frame.outline.version frame.outline.flow frame.body
frame-said bytes frame rest fits e =
    let r = frame-reads bytes (frame, rest) fits e in
    let s = body-said frame.outline.version frame.outline.flow frame.body r.1.0 in
    (r.0.parts ∙ ap (λ flow. spelled frame.outline.version flow frame.body ++ rest) (sym s.flow_is) ∙ ap (λ body. spelled frame.outline.version (message_flow (said frame)) body ++ rest) (sym s.body_is), s)

begins-read : (bytes : List ℕ) (read : Read Frame) (m : Message) (v : Version) (n : ℕ) → AllBytes bytes → frame_at bytes ≡ read → found_from (length bytes) read ≡ Ok (m, v, n) → Begins bytes m v n
begins-read bytes (Ok (frame, rest)) m v n fits e d =
    let s = frame-said bytes frame rest fits e in
    let made : Found = (said frame, frame.outline.version, length bytes - length rest) in
    let is : made ≡ (m, v, n) = cc in
    let len : length bytes - length rest ≡ length (frame_bytes frame.outline.version (said frame)) = omega (arith, ap length s.0, length-append (frame_bytes frame.outline.version (said frame)) rest) in
    let here : Begins bytes made.0 made.1 made.2 = record { rest = rest; parts = s.0; used_is = len; meets = s.1.meets; typed = s.1.typed } in
    subst (λ (f : Found). Begins bytes f.0 f.1 f.2) is here
begins-read bytes (Err stop) m v n fits e d = absurd cc

decoded-found : (bytes : List ℕ) (found : Result Found Stop) (f : Found) → decoded_from bytes found ≡ Ok f → found ≡ Ok f
decoded-found bytes (Ok found) f e = let same : found ≡ f = cc in ap Ok same
decoded-found bytes (Err stop) f e = absurd cc

pub decoded-begins : (bytes : List ℕ) (f : Found) → AllBytes bytes → decoded_of bytes ≡ Ok f → Begins bytes f.0 f.1 f.2
decoded-begins bytes f fits e = begins-read bytes (frame_at bytes) f.0 f.1 f.2 fits refl (decoded-found bytes (found_from (length bytes) (frame_at bytes)) f e)

-- the frame of a message is read as it, whatever follows
frame-read : (v : Version) (m : Message) (rest : List ℕ) → Meets v m → IsTyped m → frame_at (frame_bytes v m ++ rest) ≡ Ok (record { outline = outline_of v (message_flow m) (message_body m); body = message_body m }, rest)
frame-read v m rest meets typed = (frame-writes v (message_flow m) (message_body m) (message-fits v m meets typed)).again rest

pub begins-decoded : (bytes : List ℕ) (m : Message) (v : Version) (n : ℕ) → Begins bytes m v n → decoded_of bytes ≡ Ok (m, v, n)
begins-decoded bytes m v n b =
    let read : frame_at bytes ≡ Ok (record { outline = outline_of v (message_flow m) (message_body m); body = message_body m }, b.rest) = ap frame_at b.parts ∙ frame-read v m b.rest b.meets b.typed in
    let len : length bytes - length b.rest ≡ n = omega (arith, b.used_is, ap length b.parts, length-append (frame_bytes v m) b.rest) in
    ap (λ read. decoded_from bytes (found_from (length bytes) read)) read
    ∙ ap (λ message. decoded_from bytes (Ok (message, v, length bytes - length b.rest))) (message-back m)
    ∙ ap (λ n. decoded_from bytes (Ok (m, v, n))) len

-- ---- what is cut, and what is bad

found-stops : (total : ℕ) (read : Read Frame) (stop : Stop) → found_from total read ≡ Err stop → read ≡ Err stop
found-stops total (Ok (frame, rest)) stop e = absurd cc
found-stops total (Err other) stop e = let same : other ≡ stop = cc in ap Err same

cut-decoded : (bytes : List ℕ) (found : Result Found Stop) (n : ℕ) → decoded_from bytes found ≡ Err (More n) → (found ≡ Err stops.Cut) × (n ≡ needed_of bytes)
cut-decoded bytes (Ok found) n e = absurd cc
cut-decoded bytes (Err stops.Cut) n e = let same : needed_of bytes ≡ n = cc in (refl, sym same)
cut-decoded bytes (Err (stops.Bad field left)) n e = absurd cc

pub decoded-more : (bytes : List ℕ) (n : ℕ) → decoded_of bytes ≡ Err (More n) → IsFrameFront bytes × (n ≡ needed_of bytes)
decoded-more bytes n e =
    let c = cut-decoded bytes (found_from (length bytes) (frame_at bytes)) n e in
    (cut_is bytes (found-stops (length bytes) (frame_at bytes) stops.Cut c.0), c.1)

pub cut-more : (bytes : List ℕ) → IsFrameFront bytes → decoded_of bytes ≡ Err (More (needed_of bytes))
cut-more bytes cut = ap (λ read. decoded_from bytes (found_from (length bytes) read)) (is_cut bytes cut)

bad-decoded : (bytes : List ℕ) (found : Result Found Stop) (field : BadKind) (place : ℕ) → decoded_from bytes found ≡ Err (Bad field place) → (left : ℕ) × (found ≡ Err (stops.Bad field left)) × (place ≡ length bytes - left)
bad-decoded bytes (Ok found) field place e = absurd cc
bad-decoded bytes (Err stops.Cut) field place e = absurd cc
bad-decoded bytes (Err (stops.Bad field' left)) field place e =
    let fields : field' ≡ field = cc in
    let places : length bytes - left ≡ place = cc in
    (left, ap (λ f. Err (stops.Bad f left)) fields, sym places)

pub decoded-bad : (bytes : List ℕ) (field : BadKind) (place : ℕ) → decoded_of bytes ≡ Err (Bad field place) → IsBadIn bytes field place
decoded-bad bytes field place e =
    let b = bad-decoded bytes (found_from (length bytes) (frame_at bytes)) field place e in
    bad_in_at bytes field b.0 place (found-stops (length bytes) (frame_at bytes) (stops.Bad field b.0) b.1) b.2

-- ---- what a call answers, if there was memory

abbrev pub IsTold : List ℕ → Result Found DecodeFault → Type 0
IsTold bytes result = IsDecoded result (decoded_of bytes)

told-ok : (bytes : List ℕ) (f : Found) → IsTold bytes (Ok f) → decoded_of bytes ≡ Ok f
told-ok bytes f told = sym (told (λ (e : ◌≡◌ {A = Result Found DecodeFault} (Ok f) (Err (NoMemory no_memory))). cc))

told-err : (bytes : List ℕ) (fault : DecodeFault) → fault ≢ NoMemory no_memory → IsTold bytes (Err fault) → decoded_of bytes ≡ Err fault
told-err bytes fault some told = sym (told (λ (e : ◌≡◌ {A = Result Found DecodeFault} (Err fault) (Err (NoMemory no_memory))). some cc))

pub told_found : (bytes : List ℕ) (result : Result Found DecodeFault) → AllBytes bytes → IsTold bytes result → IfOk result (λ x. Begins bytes x.0 x.1 x.2)
told_found bytes (Ok f) fits told = decoded-begins bytes f fits (told-ok bytes f told)
told_found bytes (Err fault) fits told = tt

pub told_only : (bytes : List ℕ) (result : Result Found DecodeFault) → IsTold bytes result → (m : Message) (v : Version) (n : ℕ) → Begins bytes m v n → IsDecoded result (Ok (m, v, n))
told_only bytes result told m v n begins some = told some ∙ begins-decoded bytes m v n begins

pub told_more : (bytes : List ℕ) (result : Result Found DecodeFault) → IsTold bytes result → (n : ℕ) → result ≡ Err (More n) → IsFrameFront bytes × (n ≡ needed_of bytes)
told_more bytes result told n e =
    let some : (result ≢ Err (NoMemory no_memory)) = λ none. let clash : ◌≡◌ {A = Result Found DecodeFault} (Err (More n)) (Err (NoMemory no_memory)) = sym e ∙ none in cc in
    decoded-more bytes n (sym (told some) ∙ e)

told_cut : (bytes : List ℕ) (result : Result Found DecodeFault) → IsTold bytes result → IsFrameFront bytes → IsDecoded result (Err (More (needed_of bytes)))
told_cut bytes result told cut some = told some ∙ cut-more bytes cut

pub told_bad : (bytes : List ℕ) (result : Result Found DecodeFault) → IsTold bytes result → (field : BadKind) (place : ℕ) → result ≡ Err (Bad field place) → IsBadIn bytes field place
told_bad bytes result told field place e =
    let some : (result ≢ Err (NoMemory no_memory)) = λ none. let clash : ◌≡◌ {A = Result Found DecodeFault} (Err (Bad field place)) (Err (NoMemory no_memory)) = sym e ∙ none in cc in
    decoded-bad bytes field place (sym (told some) ∙ e)

-- ---- an Install without memory for its code

-- a frame that isn't an Update or a Change is whole all the same
whole-other : (bytes : List ℕ) (read : Read Frame) (number : ℕ) → replies.decoded_from bytes read ≡ Err (faults.Other number) → IsFound (decoded_from bytes (found_from (length bytes) read))
whole-other bytes (Ok (frame, rest)) number e = ((message_of frame.outline.flow frame.body, frame.outline.version, length bytes - length rest), refl)
whole-other bytes (Err stops.Cut) number e = absurd cc
whole-other bytes (Err (stops.Bad field left)) number e = absurd cc

whole-reply : (bytes : List ℕ) (read : Read Frame) (reply : ReplyHead × List Pair) → replies.decoded_from bytes read ≡ Ok reply → IsFound (decoded_from bytes (found_from (length bytes) read))
whole-reply bytes (Ok (frame, rest)) reply e = ((message_of frame.outline.flow frame.body, frame.outline.version, length bytes - length rest), refl)
whole-reply bytes (Err stop) reply e = absurd cc

lacks-more : (bytes : List ℕ) (n : ℕ) → IsFrameFront bytes × (n ≡ needed_of bytes) → LacksCode (More n) (decoded_of bytes)
lacks-more bytes n is = cut-more bytes is.0 ∙ ap (λ n. Err (More n)) (sym is.1)

lacks-bad : (bytes : List ℕ) (field : BadKind) (place : ℕ) → IsBadIn bytes field place → LacksCode (Bad field place) (decoded_of bytes)
lacks-bad bytes field place is =
    let within : place < length bytes = is.0.within in
    let at : length bytes - (length bytes - place) ≡ place = omega (arith, within) in
    ap (λ read. decoded_from bytes (found_from (length bytes) read)) is.1 ∙ ap (λ n. Err (Bad field n)) at

lacks-other : (bytes : List ℕ) (number : ℕ) → replies.decoded_of bytes ≡ Err (faults.Other number) → LacksCode (NoMemory no_memory) (decoded_of bytes)
lacks-other bytes number e = whole-other bytes (frame_at bytes) number e

pub lacks-reply : (bytes : List ℕ) (reply : ReplyHead × List Pair) → replies.decoded_of bytes ≡ Ok reply → LacksCode (NoMemory no_memory) (decoded_of bytes)
lacks-reply bytes reply e = whole-reply bytes (frame_at bytes) reply e

pub lacks-fault : (bytes : List ℕ) (fault : FrameFault) (result : Result ReplyHead FrameFault) → result ≡ Err fault
    → ((n : ℕ) → result ≡ Err (faults.More n) → IsFrameFront bytes × (n ≡ needed_of bytes))
    → ((field : BadKind) (place : ℕ) → result ≡ Err (faults.Bad field place) → IsBadIn bytes field place)
    → replies.decoded_of bytes ≡ Err fault → LacksCode (frame_lack fault) (decoded_of bytes)
lacks-fault bytes (faults.More n) result is more bad e = lacks-more bytes n (more n is)
lacks-fault bytes (faults.Bad field place) result is more bad e = lacks-bad bytes field place (bad field place is)
lacks-fault bytes (faults.Other number) result is more bad e = lacks-other bytes number e

pub lacks-told : (fault : DecodeFault) (answer : Result Found DecodeFault) → LacksCode fault answer → IsDecoded (Err fault) answer
lacks-told (More needed) answer lacks some = sym lacks
lacks-told (Bad field place) answer lacks some = sym lacks
lacks-told (NoMemory _) answer lacks some = absurd (some refl)

pub lacks-found : (fault : DecodeFault) (answer : Result Found DecodeFault) → LacksCode fault answer → ◌≡◌ {A = Result Found DecodeFault} (Err fault) (Err (NoMemory no_memory)) → IsFound answer
lacks-found (More needed) answer lacks none = absurd cc
lacks-found (Bad field place) answer lacks none = absurd cc
lacks-found (NoMemory _) answer lacks none = lacks

-- the answer is out of memory only for a whole frame
pub told_whole : (bytes : List ℕ) → AllBytes bytes → IsFound (decoded_of bytes) → (m : Message) × (v : Version) × (n : ℕ) × Begins bytes m v n
told_whole bytes fits found = (found.0.0, found.0.1, found.0.2, decoded-begins bytes found.0 fits found.1)

pub cut_always : (bytes : List ℕ) (result : Result Found DecodeFault) → IsTold bytes result → (result ≡ Err (NoMemory no_memory) → IsFound (decoded_of bytes)) → IsFrameFront bytes → result ≡ Err (More (needed_of bytes))
cut_always bytes (Ok f) told whole cut = told_cut bytes (Ok f) told cut (λ (e : ◌≡◌ {A = Result Found DecodeFault} (Ok f) (Err (NoMemory no_memory))). cc)
cut_always bytes (Err (More n)) told whole cut = told_cut bytes (Err (More n)) told cut (λ (e : ◌≡◌ {A = Result Found DecodeFault} (Err (More n)) (Err (NoMemory no_memory))). cc)
cut_always bytes (Err (Bad field place)) told whole cut = told_cut bytes (Err (Bad field place)) told cut (λ (e : ◌≡◌ {A = Result Found DecodeFault} (Err (Bad field place)) (Err (NoMemory no_memory))). cc)
cut_always bytes (Err (NoMemory no_memory)) told whole cut =
    let found = whole refl in
    let clash : ◌≡◌ {A = Result Found DecodeFault} (Ok found.0) (Err (More (needed_of bytes))) = sym found.1 ∙ cut-more bytes cut in
    absurd cc

pub refused_always : (bytes : List ℕ) (result : Result Found DecodeFault) → AllBytes bytes → IsTold bytes result → (result ≡ Err (NoMemory no_memory) → IsFound (decoded_of bytes)) → ((m : Message) (v : Version) (n : ℕ) → ¬ Begins bytes m v n) → ¬ IsFrameFront bytes → IsBad result
refused_always bytes (Ok f) fits told whole none front = none f.0 f.1 f.2 (decoded-begins bytes f fits (told-ok bytes f told))
refused_always bytes (Err (More n)) fits told whole none front =
    front (decoded-more bytes n (told-err bytes (More n) (λ (e : More n ≡ NoMemory no_memory). cc) told)).0
refused_always bytes (Err (Bad field place)) fits told whole none front = tt
refused_always bytes (Err (NoMemory _)) fits told whole none front = let found = whole refl in none found.0.0 found.0.1 found.0.2 (decoded-begins bytes found.0 fits found.1)

-- ---- the laws

frame-alone : (v : Version) (m : Message) → Meets v m → IsTyped m → frame_at (frame_bytes v m) ≡ Ok (record { outline = outline_of v (message_flow m) (message_body m); body = message_body m }, [])
frame-alone v m meets typed = ap frame_at (sym (append-nil (frame_bytes v m))) ∙ frame-read v m [] meets typed

read-frame : (v : Version) (m : Message) → Meets v m → IsTyped m → IsReadAs (frame_bytes v m) m v
read-frame v m meets typed = record {
  are_bytes = frame-bytes v (message_flow m) (message_body m) (message-fits v m meets typed);
  frame = record { outline = outline_of v (message_flow m) (message_body m); body = message_body m };
  whole = frame-alone v m meets typed;
  said = message-back m;
  version_is = refl;
}

-- what is read as a message is its frame, and meets the conditions
read-said : (bytes : List ℕ) (m : Message) (v : Version) → IsReadAs bytes m v → (bytes ≡ frame_bytes v m) × Meets v m
read-said bytes m v r =
    let s = frame-said bytes r.frame [] (all-bytes bytes r.are_bytes) r.whole in (
      s.0 ∙ append-nil (frame_bytes r.frame.outline.version (said r.frame)) ∙ ap (λ v. frame_bytes v (said r.frame)) r.version_is ∙ ap (frame_bytes v) r.said,
      subst (λ v. Meets v m) r.version_is (subst (Meets r.frame.outline.version) r.said s.1.meets),
    )

pub one_frame : OneFrame
one_frame v m typed meets = (read-frame v m meets typed, λ bytes r. (read-said bytes m v r).0)

pub no_other : NoOther
no_other v m has = (read-said has.0 m v has.1).1

pub prefix_free : PrefixFree
prefix_free bytes more one other = frame_alone bytes more one other

pub both_versions : BothVersions
both_versions m typed = (
  λ has.
      let both = meets-both m (read-said has.0 m One has.1).1 in
      ((frame_bytes Two m, read-frame Two m both.0 typed), both.1),
  λ has.
      let meets : Meets One m = meets-one m (read-said has.0.0 m Two has.0.1).1 has.1 in
      (frame_bytes One m, read-frame One m meets typed),
)
