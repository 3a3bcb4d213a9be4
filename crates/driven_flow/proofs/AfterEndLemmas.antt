-- That after the last flow's end frames are only refused.
use Rattle.std.proofs.Common.{◌≡◌, ℕ, zero, suc, ◌+◌, ◌-◌, false, Result, Ok, Err, List, take, drop, ap, refl, ◌∙◌}
use Rattle.reply_frames.specs.declared.outline.Version.{Version}
use Rattle.ccp_messages.specs.declared.message.Message.{Message}
use Rattle.ccp_messages.specs.declared.message.Message.TheVariants.{Create, Measure, Install, Update, Change, Fault, Refused}
use Rattle.ccp_messages.specs.declared.message.Message.TheVariants as message
use Rattle.ccp_messages.specs.declared.fault.DecodeFault.{DecodeFault}
use Rattle.ccp_messages.specs.declared.fault.DecodeFault.TheVariants.{More, Bad, NoMemory}
use Rattle.ccp_messages.specs.Decoding.{Found, decoded_of}
use Rattle.feed_core.specs.Feed.{Answer}
use Rattle.feed_core.specs.FeedBytes.{Fed, answer_bytes, with_answers, fed_on, fed_after, fed, frames_from}
use Rattle.driven_flow.specs.Session.{SessionState, waits, hear}
use Rattle.driven_flow.specs.AfterEnd.{refused_alone, refuse_alone, RefusesAfterEnd}
use Rattle.driven_flow.proofs.SessionLawLemmas.{ends-for-good}

module _ (s : SessionState) (over : waits s ≡ false) where
  answers-alone : (message : Message) (version : Version) → (hear s message version).0 ≡ refused_alone message version
  answers-alone (Update flow values) version = (ends-for-good s over).update flow values version
  answers-alone (Change flow program values) version = (ends-for-good s over).change flow program values version
  answers-alone (Create flow mss cwnd) version = refl
  answers-alone (Install flow program code) version = refl
  answers-alone (Measure report) version = refl
  answers-alone (Fault notice) version = refl
  answers-alone (message.Ack flow ack) version = refl
  answers-alone (Refused flow reason index) version = refl

  hear-alone : (message : Message) (version : Version) → hear s message version ≡ (refused_alone message version, s)
  hear-alone message version = λ i. (answers-alone message version i, (ends-for-good s over).same message version i)

  -- the refusals of frames, and the session
  abbrev refused_fed : ℕ → ℕ → List ℕ → Fed SessionState
  refused_fed n place bytes =
      let f = fed refuse_alone n place tt bytes in record { answers = f.answers; tail = f.tail; state = s }

  fed-alone : (n place : ℕ) (bytes : List ℕ) → fed hear n place s bytes ≡ refused_fed n place bytes
  fed-alone zero place bytes = refl
  fed-alone (suc n) place bytes = go (λ p xs. fed-alone n p xs) (decoded_of bytes)
    where
      go : ((p : ℕ) (xs : List ℕ) → fed hear n p s xs ≡ refused_fed n p xs) → (read : Result Found DecodeFault)
          → fed_on hear (fed hear n) place s bytes read ≡ (let f = fed_on refuse_alone (fed refuse_alone n) place tt bytes read in record { answers = f.answers; tail = f.tail; state = s })
      go rest (Ok (message, version, used)) =
          ap (λ (a : Answer × SessionState). fed_after a (λ (t : SessionState). fed hear n (place + used) t (drop used bytes))) (hear-alone message version)
          ∙ ap (with_answers (answer_bytes (refused_alone message version))) (rest (place + used) (drop used bytes))
      go rest (Err (More needed)) = refl
      go rest (Err (Bad field offset)) = refl
      go rest (Err (NoMemory _)) = refl

pub refuses-after-end : RefusesAfterEnd
unfolding frames_from
refuses-after-end s over limit place bytes =
    let alone = fed-alone s over (limit - place) place (take (limit - place) bytes) in
    record {
      same = ap (λ (f : Fed SessionState). f.state) alone;
      written = ap (λ (f : Fed SessionState). f.answers) alone;
    }
