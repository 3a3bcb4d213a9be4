-- What follows the end of a session's last flow: refusals alone.
use Rattle.std.specs.Prelude.{◌≡◌, ℕ, false, Some, None, List}
use Rattle.reply_frames.specs.declared.outline.Version.{Version}
use Rattle.ccp_messages.specs.declared.message.Message.{Message}
use Rattle.ccp_messages.specs.declared.message.Message.TheVariants.{Update, Change, Refused}
use Rattle.ccp_messages.specs.declared.reason.Reason.TheVariants.{NoFlow}
use Rattle.feed_core.specs.Feed.{Answer}
use Rattle.feed_core.specs.FeedBytes.{AnswerRule, frames_from}
use Rattle.driven_flow.specs.Session.{SessionState, waits, hear}

-- each Update and Change is refused in its own version, since no flow waits; every other message is ignored
abbrev pub refused_alone : Message → Version → Answer
refused_alone (Update flow values) version = Some (Refused flow NoFlow 0, version)
refused_alone (Change flow program values) version = Some (Refused flow NoFlow 0, version)
refused_alone message version = None

-- the same as a rule of answers, without a state
abbrev pub refuse_alone : AnswerRule (Unit {0})
refuse_alone nothing message version = (refused_alone message version, nothing)

-- the refusals of the frames from a place of an input on, in order
abbrev pub refusals_from : (limit place : ℕ) → List ℕ → List ℕ
refusals_from limit place bytes = (frames_from refuse_alone limit place tt bytes).answers

-- these frames leave the session as it is, and are answered by their refusals alone
pub record AreRefused (s : SessionState) (limit place : ℕ) (bytes : List ℕ) : Type 0 where
  pub same : (frames_from hear limit place s bytes).state ≡ s
  pub written : (frames_from hear limit place s bytes).answers ≡ refusals_from limit place bytes

-- where no flow waits, all further frames are refused
abbrev pub RefusesAfterEnd : Type 0
RefusesAfterEnd =
    (s : SessionState) → waits s ≡ false → (limit place : ℕ) (bytes : List ℕ) → AreRefused s limit place bytes
