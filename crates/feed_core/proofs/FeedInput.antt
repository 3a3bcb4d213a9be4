-- What the frames of an input say of a datapath's input.
use Rattle.std.proofs.Common.{◌≡◌, ◌⊎◌, inl, inr, ℕ, ◌≤◌, Bool, true, false, cond, nat_lt, Option, Some, None, List, [], ◌++◌, length, take, ap, refl, ◌∙◌, arith, length-append, append-nil}
use Rattle.std.proofs.lemmas.Bool.{le-ltb}
use Rattle.std.proofs.lemmas.Bool.Decides.{nat_tests}
use Rattle.ccp_base.specs.Outside.{no_memory}
use Rattle.ccp_base.specs.Limits.{most_flows, most_input_bytes}
use Rattle.reply_frames.specs.declared.outline.Version.{Version}
use Rattle.ccp_messages.specs.declared.message.Message.{Message}
use Rattle.ccp_messages.specs.declared.message.Message.TheVariants.{Create, Measure, Install, Update, Change, Fault, Refused}
use Rattle.ccp_messages.specs.declared.message.Message.TheVariants as message
use Rattle.ccp_messages.specs.declared.reason.Reason.TheVariants.{FlowAbove}
use Rattle.ccp_messages.specs.Decoding.{Begins, BeginsInstall}
use Rattle.feed_core.specs.declared.ending.FeedEnd.{FeedEnd}
use Rattle.feed_core.specs.declared.ending.FeedEnd.TheVariants as ends
use Rattle.feed_core.specs.declared.flow.Flow.{Flow}
use Rattle.feed_core.specs.Feed.{FeedState, there, no_flows, refused, created_at, counted, answer_message, TakesMemory}
use Rattle.feed_core.specs.FeedBytes.{Tail, left, answer_bytes, answer_to, feed_of}
use Rattle.feed_core.specs.Answering.{Answering, end_from, answering, feeding}
use Rattle.feed_core.specs.FeedEnds.{answers_written, Stream, IsFed}
use Rattle.feed_core.specs.FeedLacks.{BeginsTaking, AnswerLacksAt, MakesFlow, TakesMemoryAt, FeedLacksAt}

-- a Create of a flow that isn't there has no answer
created-quiet : (state : FeedState) (version : Version) (n cwnd : ℕ) (b : Bool) (o : Option Flow) → b ≡ true → o ≡ None
    → answer_bytes (counted (cond b (created_at o state version n cwnd) (refused state version n FlowAbove 0))).0 ≡ []
created-quiet state version n cwnd true None below free = refl
created-quiet state version n cwnd true (Some flow) below free = let bad : ⊥ = cc in absurd bad
created-quiet state version n cwnd false o below free = let bad : ⊥ = cc in absurd bad

makes-flow : (front rest : List ℕ) (message : Message) (version : Version) (used : ℕ) → Begins rest message version used → TakesMemory (feed_of front).state message
    → answers_written (front ++ take used rest) ≡ answers_written front ++ answer_to answer_message (feed_of front).state message version → MakesFlow front rest
makes-flow front rest (Create n mss cwnd) version used begins takes next =
    let state : FeedState = (feed_of front).state in
    record {
      flow = n;
      mss = mss;
      cwnd = cwnd;
      version = version;
      used = used;
      begins = begins;
      unanswered = next
          ∙ ap (λ (xs : List ℕ). answers_written front ++ xs) (created-quiet state version n cwnd (nat_lt n most_flows) (there state.flows n) (grind (arith, nat_tests, takes.0)) takes.1)
          ∙ append-nil (answers_written front);
    }
makes-flow front rest (Measure report) version used begins takes next = absurd takes
makes-flow front rest (Install n program code) version used begins takes next = absurd takes
makes-flow front rest (Update n values) version used begins takes next = absurd takes
makes-flow front rest (Change n program values) version used begins takes next = absurd takes
makes-flow front rest (Fault notice) version used begins takes next = absurd takes
makes-flow front rest (message.Ack n ack) version used begins takes next = absurd takes
makes-flow front rest (Refused n reason index) version used begins takes next = absurd takes

takes-memory : (front rest : List ℕ) → BeginsInstall rest ⊎ BeginsTaking answer_message TakesMemory feed_of front rest → TakesMemoryAt front rest
takes-memory front rest (inl install) = inr (inl install)
takes-memory front rest (inr taking) = inr (inr (makes-flow front rest taking.message taking.version taking.used taking.begins taking.takes taking.next))

-- what is made of an input by answers from no flows on
abbrev from_none : Answering FeedState
from_none = answering answer_message (λ state. false) most_input_bytes 0 no_flows

pub feeds-input : (source sink : Stream) (is_finished : Type 0) (state : FeedState) (end : FeedEnd) → IsFed from_none [] (AnswerLacksAt answer_message TakesMemory 0 feed_of) source sink is_finished state end
    → IsFed feeding [] FeedLacksAt source sink is_finished tt end
feeds-input source sink is_finished state ends.Whole fed = (
  record {
    bytes = fed.0.bytes;
    answered = record { taken = fed.0.answered.taken; written = fed.0.answered.written; handed = fed.0.answered.handed };
    at_end = fed.0.at_end;
    within = fed.0.within;
    end_is = fed.0.end_is;
    state_is = refl;
  },
  fed.1,
)
feeds-input source sink is_finished state (ends.Bad field place) fed = record {
  bytes = fed.bytes;
  answered = record { taken = fed.answered.taken; written = fed.answered.written; handed = fed.answered.handed };
  within = fed.within;
  end_is = fed.end_is;
  no_more = fed.no_more;
}
feeds-input source sink is_finished state (ends.Cut place) fed = record {
  bytes = fed.bytes;
  answered = record { taken = fed.answered.taken; written = fed.answered.written; handed = fed.answered.handed };
  at_end = fed.at_end;
  within = fed.within;
  end_is = fed.end_is;
  state_is = refl;
}
feeds-input source sink is_finished state ends.TooLong fed = record {
  bytes = fed.bytes;
  answered = record { taken = fed.answered.taken; written = fed.answered.written; handed = fed.answered.handed };
  within = fed.within;
  end_is = fed.end_is;
  no_more = fed.no_more;
}
feeds-input source sink is_finished state ends.ReadFailed fed = record {
  bytes = fed.bytes;
  answered = record { taken = fed.answered.taken; written = fed.answered.written; handed = fed.answered.handed };
  within = fed.within;
  rose = fed.rose;
  goes_on = fed.goes_on;
}
feeds-input source sink is_finished state ends.WriteFailed fed = record { bytes = fed.bytes; taken = fed.taken; within = fed.within; rose = fed.rose; front = fed.front }
feeds-input source sink is_finished state (ends.NoMemory no_memory) fed =
    let short : length fed.front ≤ most_input_bytes = omega (arith, fed.within, length-append fed.front fed.rest) in
    record {
      bytes = fed.bytes;
      front = fed.front;
      rest = fed.rest;
      later = fed.later;
      taken = fed.taken;
      parts = fed.parts;
      within = fed.within;
      written = fed.written;
      handed = fed.handed;
      begins = fed.begins;
      kept = fed.kept;
      cause = record {
        whole = ap (λ (t : Tail). end_from t false (nat_lt most_input_bytes (length fed.front))) fed.cause.whole
            ∙ ap (λ (b : Bool). end_from (left (length fed.front) []) false b) (le-ltb most_input_bytes (length fed.front) short);
        cause = takes-memory fed.front fed.rest fed.cause.cause;
      };
    }
