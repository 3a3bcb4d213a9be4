-- What decoding says of the bytes of an input.
use Rattle.std.proofs.Common.{◌≡◌, ◌≢◌, inl, ℕ, zero, suc, ◌<◌, ◌≤◌, Result, Err, List, [], ◌∷◌, ◌++◌, length, sym, refl, ◌∙◌, arith, length-append}
use Rattle.ccp_base.specs.Limits.{most_frame_bytes}
use Rattle.ccp_base.specs.Outside.{Known, no_memory}
use Rattle.reply_frames.specs.declared.fault.BadKind.{BadKind}
use Rattle.reply_frames.specs.Whole.{AreBytes, IsFrameFront, IsBadIn}
use Rattle.reply_frames.specs.Decoding.{needed_of}
use Rattle.reply_frames.proofs.Codec.{AllBytes}
use Rattle.reply_frames.proofs.ExactParts.{AreBytes-append}
use Rattle.reply_frames.proofs.NeededLaw.{longest}
use Rattle.ccp_messages.specs.declared.message.Message.{Message}
use Rattle.ccp_messages.specs.declared.fault.DecodeFault.{DecodeFault}
use Rattle.ccp_messages.specs.declared.fault.DecodeFault.TheVariants.{More, Bad, NoMemory}
use Rattle.ccp_messages.specs.Decoding.{Found, decoded_of, IsDecoded, BeginsInstall}
use Rattle.feed_core.specs.FeedBytes.{AnswerRule}
use Rattle.feed_core.specs.FeedTurns.{without_frame, IsTurn, KeepsFinished}

-- a refusal other than out of memory is what decoding gives
pub told-fault : (result answer : Result Found DecodeFault) (fault : DecodeFault) → IsDecoded result answer → result ≡ Err fault → fault ≢ NoMemory no_memory → answer ≡ Err fault
told-fault result answer fault told is other =
    sym (told (λ none. let same : ◌≡◌ {A = Result Found DecodeFault} (Err fault) (Err (NoMemory no_memory)) = sym is ∙ none in other cc)) ∙ is

are-bytes : (bytes : List ℕ) → AllBytes bytes → AreBytes bytes
are-bytes [] fits = tt
are-bytes (byte ∷ bytes) fits = (fits zero, are-bytes bytes (λ i. fits (suc i)))

some-more : (more : List ℕ) → more ≢ [] → 0 < length more
some-more [] some = absurd (some refl)
some-more (byte ∷ more) some = omega arith

-- a part of a frame is shorter than the longest frame
pub cut-short : (bytes : List ℕ) → AllBytes bytes → IsFrameFront bytes → length bytes < most_frame_bytes
cut-short bytes fits cut =
    let long : length (bytes ++ cut.more) ≤ most_frame_bytes = longest (bytes ++ cut.more) (AreBytes-append bytes cut.more (are-bytes bytes fits) cut.are_bytes) cut.frame in
    omega (arith, long, length-append bytes cut.more, some-more cut.more cut.some)

-- bytes that don't begin with a frame
pub turns-without : {S : Type 0} (answer : AnswerRule S) (room : S → ℕ) (Takes : S → Message → Type 0) (faults : ℕ) (is_finished : Type 0) (written : Known) (state : S) (bytes : List ℕ) → AllBytes bytes
    → (result : Result Found DecodeFault) → IsDecoded result (decoded_of bytes)
    → ((n : ℕ) → result ≡ Err (More n) → IsFrameFront bytes × (n ≡ needed_of bytes))
    → ((field : BadKind) (place : ℕ) → result ≡ Err (Bad field place) → IsBadIn bytes field place)
    → (result ≡ Err (NoMemory no_memory) → BeginsInstall bytes)
    → (fault : DecodeFault) → result ≡ Err fault → IsTurn answer room Takes faults faults is_finished written written state state bytes (without_frame fault)
turns-without answer room Takes faults is_finished written state bytes fits result told more bad memory (More n) is = record {
  needed = n;
  more = told-fault result (decoded_of bytes) (More n) told is (λ (e : More n ≡ NoMemory no_memory). cc);
  short = cut-short bytes fits (more n is).0;
  same = refl;
  nothing = refl;
}
turns-without answer room Takes faults is_finished written state bytes fits result told more bad memory (Bad field place) is = (
  told-fault result (decoded_of bytes) (Bad field place) told is (λ (e : Bad field place ≡ NoMemory no_memory). cc),
  (bad field place is).0.within,
  refl,
)
turns-without answer room Takes faults is_finished written state bytes fits result told more bad memory (NoMemory _) is = record { cause = inl (memory is); nothing = refl }

-- they leave the sink as it was
pub keeps-without : (is_finished : Type 0) (fault : DecodeFault) → KeepsFinished is_finished is_finished (without_frame fault)
keeps-without is_finished (More n) = λ finished. finished
keeps-without is_finished (Bad field place) = λ finished. finished
keeps-without is_finished (NoMemory _) = λ finished. finished
