-- The frames of an input after a first frame that is written before any is read.
use Rattle.std.proofs.Common.{◌≡◌, inl, inr, ◌∙◌, ℕ, ◌+◌, ◌≤◌, Some, None, List, [], ◌++◌, length, take, arith, ap, sym, subst, append_assoc, append-nil, length-append}
use Rattle.std.proofs.Math.Seq.{take-append-add}
use Rattle.std.proofs.lemmas.List.{take-append-le}
use Rattle.ccp_base.specs.Outside.{Known, Rose, Takes, Appends, AppendsPrefix, Appends-append}
use Rattle.feed_core.specs.declared.ending.FeedEnd.{FeedEnd}
use Rattle.feed_core.specs.declared.ending.FeedEnd.TheVariants as ends
use Rattle.feed_core.specs.Answering.{Answering, after}
use Rattle.feed_core.specs.FeedEnds.{Stream, stream, AreHandedOn, AnswersInput, IsFed, StaysFinished, FeedFailsToWrite}
use Rattle.feed_core.specs.FeedStops.{StopsAnswer}
use Rattle.feed_core.proofs.StreamEnds.{rose-late}
use Rattle.feed_core.specs.declared.answering.Unanswered.{Unanswered}
use Rattle.feed_core.specs.declared.answering.Unanswered.TheVariants as unanswered
use Rattle.ccp_run.specs.DriveInputs.{beginning_with}

pub appends-nothing : (old new : Known) → new ≡ old → Appends old new []
appends-nothing None new same = same
appends-nothing (Some written) new same = same ∙ ap Some (sym (append-nil written))

pub takes-nothing : (old new : Known) → new ≡ old → Takes old new []
takes-nothing old None same = sym same
takes-nothing old (Some left) same = sym same

-- what was handed on, and then the rest
pub both-handed : (first next : List ℕ) (was is : Type 0) → AreHandedOn first was → (was → is) → AreHandedOn next is → AreHandedOn (first ++ next) is
both-handed first next was is handed stays (inr done) = inr done
both-handed first next was is (inr done) stays (inl none) = inr (stays done)
both-handed first next was is (inl nothing) stays (inl none) = inl (λ i. nothing i ++ none i)

-- a front of what comes after the first bytes
prefix-after : (old mid new : Known) (first next : List ℕ) → Appends old mid first → AppendsPrefix mid new next → AppendsPrefix old new (first ++ next)
prefix-after old mid new first next wrote front = record {
  count = length first + front.count;
  within = let within = front.within in omega (arith, within, length-append first next);
  appends = subst (Appends old new) (sym (take-append-add first next front.count)) (Appends-append old mid new first (take front.count next) wrote front.appends);
}

-- a front of the first bytes
pub prefix-first : (old new : Known) (first next : List ℕ) → AppendsPrefix old new first → AppendsPrefix old new (first ++ next)
prefix-first old new first next front = record {
  count = front.count;
  within = let within = front.within in omega (arith, within, length-append first next);
  appends = subst (Appends old new) (sym (take-append-le front.count first next front.within)) front.appends;
}

module _ {S : Type 0} (a : Answering S) (first before : List ℕ) (Lacks : List ℕ → List ℕ → Type 0) (source : Stream) (old mid new : Known) (was middle now : ℕ) (was_finished is_finished : Type 0) (state : S)
    (wrote : Appends old mid first) (handed : AreHandedOn first was_finished) (grown : was ≤ middle) (grows : middle ≤ now) where
  answers-first : (bytes : List ℕ) → (was_finished → is_finished) → AnswersInput (after before a) source (stream mid new middle now) is_finished bytes
      → AnswersInput (after before (beginning_with first a)) source (stream old new was now) is_finished bytes
  answers-first bytes stays x = record {
    taken = x.taken;
    written = Appends-append old mid new first (a.written (before ++ bytes)) wrote x.written;
    handed = both-handed first (a.written (before ++ bytes)) was_finished is_finished handed stays x.handed;
  }

  -- how the frames end after a first one
  pub fed-first : (end : FeedEnd) → StaysFinished was_finished is_finished end → IsFed a before Lacks source (stream mid new middle now) is_finished state end
      → IsFed (beginning_with first a) before Lacks source (stream old new was now) is_finished state end
  fed-first ends.Whole stays (there, finished) =
      (record { bytes = there.bytes; answered = answers-first there.bytes stays there.answered; at_end = there.at_end; within = there.within; end_is = there.end_is; state_is = there.state_is }, finished)
  fed-first (ends.Bad field place) stays f =
      record { bytes = f.bytes; answered = answers-first f.bytes stays f.answered; within = f.within; end_is = f.end_is; no_more = λ more. ap (λ w. first ++ w) (f.no_more more) }
  fed-first (ends.Cut place) stays there =
      record { bytes = there.bytes; answered = answers-first there.bytes stays there.answered; at_end = there.at_end; within = there.within; end_is = there.end_is; state_is = there.state_is }
  fed-first ends.TooLong stays f =
      record { bytes = f.bytes; answered = answers-first f.bytes stays f.answered; within = f.within; end_is = f.end_is; no_more = λ more. ap (λ w. first ++ w) (f.no_more more) }
  fed-first ends.ReadFailed stays f =
      record { bytes = f.bytes; answered = answers-first f.bytes stays f.answered; within = f.within; rose = f.rose; goes_on = f.goes_on }
  fed-first ends.WriteFailed stays f =
      record { bytes = f.bytes; taken = f.taken; within = f.within; rose = rose-late was middle now grown f.rose grows; front = prefix-after old mid new first (a.written (before ++ f.bytes)) wrote f.front }
  fed-first (ends.NoMemory _) stays f = record {
    bytes = f.bytes;
    front = f.front;
    rest = f.rest;
    later = f.later;
    taken = f.taken;
    parts = f.parts;
    within = f.within;
    written = Appends-append old mid new first (a.written f.front) wrote f.written;
    handed = both-handed first (a.written f.front) was_finished is_finished handed stays f.handed;
    begins = ap (λ w. first ++ w) f.begins ∙ sym (append_assoc first (a.written f.front) f.later);
    kept = f.kept;
    cause = f.cause;
  }

-- a source that was left alone before
pub fed-from : {S : Type 0} (a : Answering S) (before : List ℕ) (Lacks : List ℕ → List ℕ → Type 0) (old mid new : Known) (was middle now : ℕ) (sink : Stream) (is_finished : Type 0) (state : S) (end : FeedEnd)
    → mid ≡ old → middle ≡ was → IsFed a before Lacks (stream mid new middle now) sink is_finished state end → IsFed a before Lacks (stream old new was now) sink is_finished state end
fed-from a before Lacks old mid new was middle now sink is_finished state end same still fed =
    subst (λ (k : Known). IsFed a before Lacks (stream k new was now) sink is_finished state end) same
    (subst (λ (n : ℕ). IsFed a before Lacks (stream mid new n now) sink is_finished state end) still fed)

-- a write of an answer failed
pub front-of : (before now : ℕ) (old new : Known) (answer : List ℕ) (why : Unanswered) → why ≡ unanswered.Write → StopsAnswer before now old new answer why → Rose before now × AppendsPrefix old new answer
front-of before now old new answer why is stops = subst (StopsAnswer before now old new answer) is stops

-- the first frame can't be written
pub first-fails : {S : Type 0} (a : Answering S) (first before : List ℕ) (source source' : Known) (rb rn : ℕ) (old new : Known) (wb wn : ℕ) → source' ≡ source → Rose wb wn → AppendsPrefix old new first
    → FeedFailsToWrite (after before (beginning_with first a)) (stream source source' rb rn) (stream old new wb wn)
first-fails a first before source source' rb rn old new wb wn same rose front = record {
  bytes = [];
  taken = takes-nothing source source' same;
  within = omega arith;
  rose = rose;
  front = prefix-first old new first (a.written (before ++ [])) front;
}
