-- Where frames begin.
use Rattle.std.proofs.Common.{◌≡◌, inl, ℕ, ◌+◌, ◌-◌, ◌≤◌, false, [], length, ap, sym, refl, subst, ◌∙◌, arith, append-nil}
use Rattle.std.proofs.Math.Seq.{take-nil}
use Rattle.ccp_base.specs.Limits.{most_input_bytes}
use Rattle.ccp_base.specs.Outside.{Known, Appends, no_memory}
use Rattle.feed_core.specs.declared.ending.FeedEnd.TheVariants as ends
use Rattle.feed_core.specs.Feed.{FeedState, no_flows, answer_message}
use Rattle.feed_core.specs.FeedBytes.{AnswerRule, left, Fed, with_answers, fed_no_more, fed, frames_from, feed_of}
use Rattle.feed_core.specs.Answering.{end_from, feeding}
use Rattle.feed_core.specs.FeedTurns.{Start, IsFeeding}
use Rattle.feed_core.specs.FeedEnds.{answers_written, stream, IsFed}
use Rattle.feed_core.specs.FeedLacks.{FeedLacksAt}
use Rattle.feed_core.proofs.FrameEnds.{fed-nothing}
use Rattle.feed_core.proofs.StreamEnds.{takes-nothing, appends-nothing}

with-none : {S : Type 0} (f : Fed S) → f ≡ with_answers [] f
with-none f = refl

-- where frames begin
pub feeding-first : {S : Type 0} (start : Start S) (source sink : Known) (is_finished : Type 0) → start.limit - start.place ≤ start.room start.state → start.place + length start.before ≤ start.limit
    → IsFeeding start source source sink sink is_finished start.state start.place start.before
feeding-first start source sink is_finished roomy within = record {
  bytes = [];
  front = [];
  frames = 0;
  answers = [];
  taken = takes-nothing source;
  parts = append-nil start.before;
  eaten_is = omega arith;
  written = appends-nothing sink;
  handed = inl refl;
  goes = λ more.
      let most : ℕ = start.limit - start.place in
      let all : most ≡ most - 0 = omega arith in
      with-none (fed start.answer most start.place start.state more)
      ∙ ap (λ n. with_answers [] (fed start.answer n start.place start.state more)) all;
  few = omega arith;
  roomy = omega (arith, roomy);
  within = within;
}

-- no bytes have no frames
pub no-frames : {S : Type 0} (answer : AnswerRule S) (limit place : ℕ) (state : S) → frames_from answer limit place state [] ≡ fed_no_more (left place []) state
unfolding frames_from
no-frames answer limit place state =
    ap (fed answer (limit - place) place state) (take-nil (limit - place)) ∙ fed-nothing answer (limit - place) place state

-- no bytes have no answers, and are whole
nothing-fed : feed_of [] ≡ fed_no_more (left 0 []) no_flows
nothing-fed = no-frames answer_message most_input_bytes 0 no_flows

pub no-answers : answers_written [] ≡ []
no-answers = ap (λ (f : Fed FeedState). f.answers) nothing-fed

-- no memory for a feed
pub ends-unbegun : (source sink : Known) (rb rn wb wn : ℕ) (is_finished : Type 0) → IsFed feeding [] FeedLacksAt (stream source source rb rn) (stream sink sink wb wn) is_finished tt (ends.NoMemory no_memory)
ends-unbegun source sink rb rn wb wn is_finished = record {
  bytes = [];
  front = [];
  rest = [];
  later = [];
  taken = takes-nothing source;
  parts = refl;
  within = omega arith;
  written = subst (Appends sink sink) (sym no-answers) (appends-nothing sink);
  handed = inl no-answers;
  begins = sym (append-nil (answers_written []));
  kept = omega arith;
  cause = record {
    whole = ap (λ (f : Fed FeedState). end_from f.tail false false) nothing-fed;
    cause = inl refl;
  };
}
