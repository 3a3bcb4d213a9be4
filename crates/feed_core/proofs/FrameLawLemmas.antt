-- That the first bytes of an input are answered alike, whatever follows them.
use Rattle.std.proofs.Common.{◌≡◌, ℕ, zero, suc, ◌+◌, ◌-◌, ◌<◌, ◌≤◌, Bool, nat_lt, Result, Ok, Err, List, [], ◌∷◌, ◌++◌, length, take, drop, ap, sym, subst, refl, ◌∙◌, arith, append_assoc, length-append}
use Rattle.std.proofs.lemmas.Bool.Decides.{nat_tests}
use Rattle.std.proofs.lemmas.List.{take_all, length-take, length-drop, drop-append-le}
use Rattle.reply_frames.specs.declared.outline.Version.{Version}
use Rattle.reply_frames.specs.Parts.{Read}
use Rattle.reply_frames.specs.Frames.{Frame, outline_at, frame_at}
use Rattle.reply_frames.proofs.ExactFrames.{exact-frame}
use Rattle.ccp_messages.specs.declared.message.Message.{Message}
use Rattle.ccp_messages.specs.declared.fault.DecodeFault.{DecodeFault}
use Rattle.ccp_messages.specs.declared.fault.DecodeFault.TheVariants.{More, Bad, NoMemory}
use Rattle.ccp_messages.specs.Messages.{message_of}
use Rattle.ccp_messages.specs.Decoding.{Found, found_from, decoded_from, decoded_of}
use Rattle.feed_core.specs.FeedBytes.{AnswerRule, left, Fed, answer_to, with_answers, fed_no_more, fed_on, fed, frames_from}
use Rattle.feed_core.specs.Answering.{answering, end_from}
use Rattle.feed_core.specs.FrameLaws.{AnswersFronts, LeavesNothing, GoesOnAs, GoesOnAfterFrames}
use Rattle.feed_core.proofs.FeedEats.{with-with}
use Rattle.feed_core.proofs.FrameEnds.{take-front, fed-nothing}

-- ---- a whole frame

-- bytes begin with a whole frame of this length, and so do they with more behind them
pub record Reads (bytes : List ℕ) (message : Message) (version : Version) (used : ℕ) : Type 0 where
  pub some : 0 < used
  pub within : used ≤ length bytes
  pub again : (more : List ℕ) → decoded_of (bytes ++ more) ≡ Ok (message, version, used)

some-front : (front : List ℕ) (frame : Frame) → frame_at (front ++ []) ≡ Ok (frame, []) → 0 < length front
unfolding frame_at outline_at
some-front [] frame e = absurd cc
some-front (byte ∷ rest) frame e = omega arith

reads-from : (bytes : List ℕ) (read : Read Frame) (found : Found) → frame_at bytes ≡ read → decoded_from bytes (found_from (length bytes) read) ≡ Ok found → Reads bytes found.0 found.1 found.2
reads-from bytes (Ok (frame, rest)) found e d =
    let t = exact-frame.taken bytes frame rest e in
    let message : Message = message_of frame.outline.flow frame.body in
    let made : Found = (message, frame.outline.version, length bytes - length rest) in
    let same : made ≡ found = cc in
    let long : length bytes ≡ length t.front + length rest = ap length t.parts ∙ length-append t.front rest in
    let here : Reads bytes made.0 made.1 made.2 = record {
      some = omega (arith, long, some-front t.front frame (t.again []));
      within = omega arith;
      again = λ more.
          let read : frame_at (bytes ++ more) ≡ Ok (frame, rest ++ more) = ap (λ xs. frame_at (xs ++ more)) t.parts ∙ ap frame_at (append_assoc t.front rest more) ∙ t.again (rest ++ more) in
          let used : length (bytes ++ more) - length (rest ++ more) ≡ length bytes - length rest = omega (arith, length-append bytes more, length-append rest more) in
          ap (λ read. decoded_from (bytes ++ more) (found_from (length (bytes ++ more)) read)) read ∙ ap (λ n. Ok (message, frame.outline.version, n)) used;
    } in
    subst (λ (f : Found). Reads bytes f.0 f.1 f.2) same here
reads-from bytes (Err stop) found e d = absurd cc

pub decoded-reads : (bytes : List ℕ) (message : Message) (version : Version) (used : ℕ) → decoded_of bytes ≡ Ok (message, version, used) → Reads bytes message version used
decoded-reads bytes message version used e = reads-from bytes (frame_at bytes) (message, version, used) refl e

module _ {S : Type 0} (answer : AnswerRule S) where
  -- the answers to a whole frame and to what follows it
  pub fed-read : (n place : ℕ) (state : S) (bytes more : List ℕ) (message : Message) (version : Version) (used : ℕ) → Reads bytes message version used
      → fed answer (suc n) place state (bytes ++ more) ≡ with_answers (answer_to answer state message version) (fed answer n (place + used) (answer state message version).1 (drop used bytes ++ more))
  fed-read n place state bytes more message version used reads =
      ap (fed_on answer (fed answer n) place state (bytes ++ more)) (reads.again more)
      ∙ ap (λ xs. with_answers (answer_to answer state message version) (fed answer n (place + used) (answer state message version).1 xs)) (drop-append-le used bytes more reads.within)

  -- ---- fronts

  fed-front : (n m place : ℕ) (state : S) (bytes more : List ℕ) → n ≤ m
      → (later : List ℕ) × ((fed answer m place state (bytes ++ more)).answers ≡ (fed answer n place state bytes).answers ++ later)
  fed-front zero m place state bytes more fewer = ((fed answer m place state (bytes ++ more)).answers, refl)
  fed-front (suc n) zero place state bytes more fewer = absurd (omega (arith, fewer))
  fed-front (suc n) (suc m) place state bytes more fewer = go (λ p s xs. fed-front n m p s xs more (omega (arith, fewer))) (decoded_of bytes) refl
    where
      Later : ℕ → S → List ℕ → Type 0
      Later p s xs = (later : List ℕ) × ((fed answer m p s (xs ++ more)).answers ≡ (fed answer n p s xs).answers ++ later)

      go : ((p : ℕ) (s : S) (xs : List ℕ) → Later p s xs) → (read : Result Found DecodeFault) → decoded_of bytes ≡ read
          → (later : List ℕ) × ((fed answer (suc m) place state (bytes ++ more)).answers ≡ (fed_on answer (fed answer n) place state bytes read).answers ++ later)
      go rest (Ok (message, version, used)) e =
          let reply : List ℕ = answer_to answer state message version in
          let next : S = (answer state message version).1 in
          let r = rest (place + used) next (drop used bytes) in (
            r.0,
            ap (λ (f : Fed S). f.answers) (fed-read m place state bytes more message version used (decoded-reads bytes message version used e))
                ∙ ap (λ xs. reply ++ xs) r.1
                ∙ sym (append_assoc reply (fed answer n (place + used) next (drop used bytes)).answers r.0),
          )
      go rest (Err (More needed)) e = ((fed answer (suc m) place state (bytes ++ more)).answers, refl)
      go rest (Err (Bad field offset)) e = ((fed answer (suc m) place state (bytes ++ more)).answers, refl)
      go rest (Err (NoMemory _)) e = ((fed answer (suc m) place state (bytes ++ more)).answers, refl)

  take-both : (n : ℕ) (xs ys : List ℕ) → (rest : List ℕ) × (take n (xs ++ ys) ≡ take n xs ++ rest)
  take-both zero xs ys = ([], refl)
  take-both (suc n) [] ys = (take (suc n) ys, refl)
  take-both (suc n) (x ∷ xs) ys = let r = take-both n xs ys in (r.0, ap (λ zs. x ∷ zs) r.1)

  pub answers-fronts : AnswersFronts answer
  unfolding frames_from
  answers-fronts limit place state bytes more =
      let most : ℕ = limit - place in
      let taken = take-both most bytes more in
      let r = fed-front most most place state (take most bytes) taken.0 (omega arith) in
      (r.0, ap (λ xs. (fed answer most place state xs).answers) taken.1 ∙ r.1)

  -- ---- whole frames

  empty : (bytes : List ℕ) → length bytes ≤ 0 → bytes ≡ []
  empty [] none = refl
  empty (byte ∷ rest) none = absurd (omega (arith, none))

  -- no more frames are answered than there are bytes
  pub fed-fuel : (n m place : ℕ) (state : S) (bytes : List ℕ) → length bytes ≤ n → length bytes ≤ m → fed answer n place state bytes ≡ fed answer m place state bytes
  fed-fuel zero m place state bytes few few' =
      let none : bytes ≡ [] = empty bytes few in
      ap (λ (xs : List ℕ). fed answer zero place state xs) none ∙ sym (fed-nothing answer m place state) ∙ ap (λ (xs : List ℕ). fed answer m place state xs) (sym none)
  fed-fuel (suc n) zero place state bytes few few' =
      let none : bytes ≡ [] = empty bytes few' in
      ap (λ (xs : List ℕ). fed answer (suc n) place state xs) none ∙ fed-nothing answer (suc n) place state ∙ ap (λ (xs : List ℕ). fed answer zero place state xs) (sym none)
  fed-fuel (suc n) (suc m) place state bytes few few' = go (λ p s xs. fed-fuel n m p s xs) (decoded_of bytes) refl
    where
      go : ((p : ℕ) (s : S) (xs : List ℕ) → length xs ≤ n → length xs ≤ m → fed answer n p s xs ≡ fed answer m p s xs)
          → (read : Result Found DecodeFault) → decoded_of bytes ≡ read → fed_on answer (fed answer n) place state bytes read ≡ fed_on answer (fed answer m) place state bytes read
      go rest (Ok (message, version, used)) e =
          let r = decoded-reads bytes message version used e in
          let some : 0 < used = r.some in
          let within : used ≤ length bytes = r.within in
          let long : length (drop used bytes) ≡ length bytes - used = length-drop used bytes in
          ap (with_answers (answer_to answer state message version)) (rest (place + used) (answer state message version).1 (drop used bytes) (omega (arith, some, within, long, few)) (omega (arith, some, within, long, few')))
      go rest (Err (More needed)) e = refl
      go rest (Err (Bad field offset)) e = refl
      go rest (Err (NoMemory _)) e = refl

  nothing-left : (place : ℕ) (rest : List ℕ) → LeavesNothing (left place rest) → rest ≡ []
  nothing-left place [] nothing = refl
  nothing-left place (byte ∷ rest) nothing = absurd nothing

  -- after no bytes
  fed-none : (m place : ℕ) (state : S) (bytes more : List ℕ) → bytes ≡ [] → fed answer m place state (bytes ++ more) ≡ fed answer m (place + length bytes) state more
  fed-none m place state bytes more none =
      let same : place ≡ place + length bytes = omega (arith, ap length none) in
      ap (λ (xs : List ℕ). fed answer m place state (xs ++ more)) none ∙ ap (λ p. fed answer m p state more) same

  pub fed-whole : (n m place : ℕ) (state : S) (bytes more : List ℕ) → length bytes ≤ n → length bytes + length more ≤ m → LeavesNothing (fed answer n place state bytes).tail
      → fed answer m place state (bytes ++ more) ≡ with_answers (fed answer n place state bytes).answers (fed answer m (place + length bytes) (fed answer n place state bytes).state more)
  fed-whole zero m place state bytes more few fits nothing = fed-none m place state bytes more (nothing-left place bytes nothing)
  fed-whole (suc n) zero place state bytes more few fits nothing = absent (empty bytes (omega (arith, fits)))
    where
      absent : bytes ≡ [] → fed answer zero place state (bytes ++ more) ≡ with_answers (fed answer (suc n) place state bytes).answers (fed answer zero (place + length bytes) (fed answer (suc n) place state bytes).state more)
      absent none =
          let stands : fed answer (suc n) place state bytes ≡ fed_no_more (left place []) state = ap (λ (xs : List ℕ). fed answer (suc n) place state xs) none ∙ fed-nothing answer (suc n) place state in
          fed-none zero place state bytes more none ∙ ap (λ (f : Fed S). with_answers f.answers (fed answer zero (place + length bytes) f.state more)) (sym stands)
  fed-whole (suc n) (suc m) place state bytes more few fits nothing = go (λ p s xs. fed-whole n m p s xs more) (decoded_of bytes) refl nothing
    where
      go : ((p : ℕ) (s : S) (xs : List ℕ) → length xs ≤ n → length xs + length more ≤ m → LeavesNothing (fed answer n p s xs).tail
          → fed answer m p s (xs ++ more) ≡ with_answers (fed answer n p s xs).answers (fed answer m (p + length xs) (fed answer n p s xs).state more))
          → (read : Result Found DecodeFault) → decoded_of bytes ≡ read → LeavesNothing (fed_on answer (fed answer n) place state bytes read).tail
          → fed answer (suc m) place state (bytes ++ more)
          ≡ with_answers (fed_on answer (fed answer n) place state bytes read).answers (fed answer (suc m) (place + length bytes) (fed_on answer (fed answer n) place state bytes read).state more)
      go rest (Ok (message, version, used)) e none =
          let r = decoded-reads bytes message version used e in
          let some : 0 < used = r.some in
          let within : used ≤ length bytes = r.within in
          let long : length (drop used bytes) ≡ length bytes - used = length-drop used bytes in
          let reply : List ℕ = answer_to answer state message version in
          let next : S = (answer state message version).1 in
          let last : Fed S = fed answer n (place + used) next (drop used bytes) in
          let at : place + used + length (drop used bytes) ≡ place + length bytes = omega (arith, long, within) in
          fed-read m place state bytes more message version used r
          ∙ ap (with_answers reply) (rest (place + used) next (drop used bytes) (omega (arith, some, within, long, few)) (omega (arith, some, within, long, fits)) none)
          ∙ with-with reply last.answers (fed answer m (place + used + length (drop used bytes)) last.state more)
          ∙ ap (λ p. with_answers (reply ++ last.answers) (fed answer m p last.state more)) at
          ∙ ap (with_answers (reply ++ last.answers)) (fed-fuel m (suc m) (place + length bytes) last.state more (omega (arith, some, within, fits)) (omega (arith, fits)))
      go rest (Err (More needed)) e none = fed-none (suc m) place state bytes more (nothing-left place bytes none)
      go rest (Err (Bad field offset)) e none = absurd none
      go rest (Err (NoMemory _)) e none = fed-none (suc m) place state bytes more (nothing-left place bytes none)

  -- the limit is as far away
  as-far : (most long count : ℕ) → long ≤ most → nat_lt most (long + count) ≡ nat_lt (most - long) count
  as-far most long count within = grind (arith, nat_tests, within)

  module _ (limit place : ℕ) (state : S) (bytes more : List ℕ) (within : length bytes ≤ limit - place) where
    abbrev most : ℕ
    most = limit - place

    abbrev here : Fed S
    here = frames_from answer limit place state bytes

    abbrev next : Fed S
    next = frames_from answer limit (place + length bytes) here.state more

    left_is : most - length bytes ≡ limit - (place + length bytes)
    left_is = omega arith

    frames-whole : LeavesNothing here.tail → frames_from answer limit place state (bytes ++ more) ≡ with_answers here.answers next
    unfolding frames_from
    frames-whole nothing =
        let rest : List ℕ = take (most - length bytes) more in
        let whole : take most bytes ≡ bytes = take_all most bytes within in
        let few : length (take most bytes) ≤ most = omega (arith, ap length whole, within) in
        let short : length rest ≤ most - length bytes = omega (arith, length-take (most - length bytes) more) in
        let parts : take most (bytes ++ more) ≡ take most bytes ++ rest = take-front most bytes more within ∙ ap (λ xs. xs ++ rest) (sym whole) in
        ap (fed answer most place state) parts
        ∙ fed-whole most most place state (take most bytes) rest few (omega (arith, ap length whole, short, within)) nothing
        ∙ ap (λ (xs : List ℕ). with_answers here.answers (fed answer most (place + length xs) here.state rest)) whole
        ∙ ap (with_answers here.answers) (fed-fuel most (most - length bytes) (place + length bytes) here.state rest (omega (arith, short)) (omega (arith, short)))
        ∙ ap (λ n. with_answers here.answers (fed answer n (place + length bytes) here.state (take n more))) left_is

    pub goes-on-as : (waits : S → Bool) → LeavesNothing here.tail → GoesOnAs (answering answer waits limit place state) (answering answer waits limit (place + length bytes) here.state) bytes more
    goes-on-as waits nothing =
        let whole = frames-whole nothing in
        let long : nat_lt most (length (bytes ++ more)) ≡ nat_lt (limit - (place + length bytes)) (length more) =
        ap (nat_lt most) (length-append bytes more) ∙ as-far most (length bytes) (length more) within ∙ ap (λ n. nat_lt n (length more)) left_is in
        record {
          written = ap (λ (f : Fed S). f.answers) whole;
          state = ap (λ (f : Fed S). f.state) whole;
          end = ap (λ (f : Fed S). end_from f.tail (waits f.state) (nat_lt most (length (bytes ++ more)))) whole ∙ ap (λ (b : Bool). end_from next.tail (waits next.state) b) long;
        }

  pub goes-on-after-frames : (waits : S → Bool) → GoesOnAfterFrames answer waits
  goes-on-after-frames waits limit place state bytes more within nothing = goes-on-as limit place state bytes more within waits nothing
