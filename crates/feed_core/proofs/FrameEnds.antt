-- The answers to bytes that no whole frame begins.
use Rattle.std.proofs.Common.{◌≡◌, ℕ, zero, suc, ◌+◌, ◌-◌, ◌<◌, ◌≤◌, Result, Ok, Err, List, [], ◌∷◌, ◌++◌, length, take, ap, refl, ◌∙◌, arith, append_assoc, length-append}
use Rattle.std.proofs.Math.Seq.{take-append-add}
use Rattle.reply_frames.specs.declared.fault.BadKind.{BadKind}
use Rattle.reply_frames.specs.declared.fault.Stop.TheVariants as stops
use Rattle.reply_frames.specs.Frames.{frame_at}
use Rattle.reply_frames.proofs.ExactFrames.{exact-frame}
use Rattle.ccp_messages.specs.declared.fault.DecodeFault.{DecodeFault}
use Rattle.ccp_messages.specs.declared.fault.DecodeFault.TheVariants.{More, Bad, NoMemory}
use Rattle.ccp_messages.specs.Decoding.{Found, found_from, decoded_from, decoded_of}
use Rattle.ccp_messages.proofs.DecodeLaws.{decoded-begins, decoded-bad}
use Rattle.feed_core.specs.FeedBytes.{AnswerRule, left, bad, fed_no_more, fed_on, fed}
use Rattle.feed_core.proofs.FeedEats.{some-used}

pub take-front : (n : ℕ) (xs ys : List ℕ) → length xs ≤ n → take n (xs ++ ys) ≡ xs ++ take (n - length xs) ys
take-front n xs ys within =
    let parts : n ≡ length xs + (n - length xs) = omega (arith, within) in
    ap (λ k. take k (xs ++ ys)) parts ∙ take-append-add xs ys (n - length xs)

-- a part of a frame has no answers
pub fed-part : {S : Type 0} (answer : AnswerRule S) (frames place : ℕ) (state : S) (bytes : List ℕ) (needed : ℕ) → decoded_of bytes ≡ Err (More needed)
    → fed answer frames place state bytes ≡ fed_no_more (left place bytes) state
fed-part answer zero place state bytes needed e = refl
fed-part answer (suc frames) place state bytes needed e = ap (fed_on answer (fed answer frames) place state bytes) e

-- nor have bytes that no frame begins with
pub fed-bad : {S : Type 0} (answer : AnswerRule S) (frames place : ℕ) (state : S) (bytes : List ℕ) (field : BadKind) (offset : ℕ) → 0 < frames → decoded_of bytes ≡ Err (Bad field offset)
    → fed answer frames place state bytes ≡ fed_no_more (bad field (place + offset)) state
fed-bad answer zero place state bytes field offset some e = absurd (omega (arith, some))
fed-bad answer (suc frames) place state bytes field offset some e = ap (fed_on answer (fed answer frames) place state bytes) e

-- no bytes have no answers, and nothing is left of them
nothing-read : {S : Type 0} (answer : AnswerRule S) (frames place : ℕ) (state : S) (read : Result Found DecodeFault) → decoded_of [] ≡ read
    → fed_on answer (fed answer frames) place state [] read ≡ fed_no_more (left place []) state
nothing-read answer frames place state (Ok (message, version, used)) e =
    let begins = decoded-begins [] (message, version, used) (λ i. omega arith) e in
    let used' = some-used [] message version used begins in
    absurd (omega (arith, used'.0, used'.1))
nothing-read answer frames place state (Err (More needed)) e = refl
nothing-read answer frames place state (Err (Bad field offset)) e =
    let within : offset < 0 = (decoded-bad [] field offset e).0.within in
    absurd (omega (arith, within))
nothing-read answer frames place state (Err (NoMemory _)) e = refl

pub fed-nothing : {S : Type 0} (answer : AnswerRule S) (frames place : ℕ) (state : S) → fed answer frames place state [] ≡ fed_no_more (left place []) state
fed-nothing answer zero place state = refl
fed-nothing answer (suc frames) place state = nothing-read answer frames place state (decoded_of []) refl

-- bytes that no frame begins with stay so, whatever follows
pub bad-on : (bytes more : List ℕ) (field : BadKind) (place : ℕ) → decoded_of bytes ≡ Err (Bad field place) → decoded_of (bytes ++ more) ≡ Err (Bad field place)
bad-on bytes more field place e =
    let is = decoded-bad bytes field place e in
    let r = exact-frame.bad bytes field (length bytes - place) is.1 in
    let rest : List ℕ = r.byte ∷ (r.after ++ more) in
    let parts : bytes ++ more ≡ r.front ++ rest = ap (λ xs. xs ++ more) r.parts ∙ append_assoc r.front (r.byte ∷ r.after) more in
    let read : frame_at (bytes ++ more) ≡ Err (stops.Bad field (length rest)) = ap frame_at parts ∙ r.again (r.after ++ more) in
    let within : place < length bytes = is.0.within in
    let at : length (bytes ++ more) - length rest ≡ place =
    omega (arith, within, r.left_is, ap length r.parts, length-append r.front (r.byte ∷ r.after), ap length parts, length-append r.front rest) in
    ap (λ read. decoded_from (bytes ++ more) (found_from (length (bytes ++ more)) read)) read ∙ ap (λ n. Err (Bad field n)) at
