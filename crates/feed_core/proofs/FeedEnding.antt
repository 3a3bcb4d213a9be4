-- How an input ends from where its frames stand.
use Rattle.std.proofs.Common.{◌≡◌, ◌⊎◌, inl, inr, ℕ, suc, ◌+◌, ◌-◌, ◌<◌, ◌≤◌, Bool, true, false, nat_lt, Ok, Err, List, [], ◌∷◌, ◌++◌, length, take, drop, ap, sym, refl, subst, ◌∙◌, arith, append_assoc, length-append, append-nil}
use Rattle.std.proofs.lemmas.Bool.{lt-ltb, le-ltb}
use Rattle.std.proofs.lemmas.List.{take_all, take-append-le}
use Rattle.ccp_base.specs.Limits.{most_frame_bytes}
use Rattle.ccp_base.specs.Outside.{Known, Rose, Takes, IsAtEnd, Appends, AppendsPrefix, Takes-append, no_memory}
use Rattle.reply_frames.specs.declared.fault.BadKind.{BadKind}
use Rattle.ccp_messages.specs.declared.fault.DecodeFault.TheVariants.{More, Bad}
use Rattle.reply_frames.specs.declared.outline.Version.{Version}
use Rattle.ccp_messages.specs.declared.message.Message.{Message}
use Rattle.ccp_messages.specs.Messages.{frame_bytes}
use Rattle.ccp_messages.specs.Decoding.{Begins, BeginsInstall, decoded_of}
use Rattle.ccp_messages.proofs.DecodeLaws.{begins-decoded}
use Rattle.feed_core.specs.declared.ending.FeedEnd.{FeedEnd}
use Rattle.feed_core.specs.declared.ending.FeedEnd.TheVariants as ends
use Rattle.feed_core.specs.FeedBytes.{left, bad, Fed, answer_to, with_answers, fed_no_more, fed_on, fed, frames_from}
use Rattle.feed_core.specs.Answering.{Answering, after, end_from, answering}
use Rattle.feed_core.specs.FeedTurns.{Start, IsTaking, FailsOne, IsFeeding}
use Rattle.feed_core.specs.FeedEnds.{stream, AreHandedOn, AnswersInput, MayGoOn, IsFed}
use Rattle.feed_core.specs.FeedLacks.{BeginsTaking, AnswerLacksAt}
use Rattle.feed_core.specs.FeedLast.{IsLast}
use Rattle.feed_core.proofs.FrameEnds.{take-front, fed-part, fed-bad, fed-nothing, bad-on}
use Rattle.feed_core.proofs.FeedEats.{handed-still, some-used, fed-frame}
use Rattle.feed_core.proofs.StreamEnds.{appends-all, appends-front, rose-late}

-- ---- ends

end-whole : (place : ℕ) (rest : List ℕ) (waits : Bool) → length rest ≡ 0 → waits ≡ false → end_from (left place rest) waits false ≡ ends.Whole
end-whole place [] waits none not = ap (λ (w : Bool). end_from (left place []) w false) not
end-whole place (byte ∷ rest) waits none not = absurd (omega (arith, none))

end-cut : (place : ℕ) (rest : List ℕ) (waits : Bool) → (length rest ≡ 0 → waits ≡ true) → end_from (left place rest) waits false ≡ ends.Cut place
end-cut place [] waits if_none = ap (λ (w : Bool). end_from (left place []) w false) (if_none refl)
end-cut place (byte ∷ rest) waits if_none = refl

is-open : (place : ℕ) (rest : List ℕ) (waits : Bool) → MayGoOn (end_from (left place rest) waits false)
is-open place [] true = tt
is-open place [] false = tt
is-open place (byte ∷ rest) waits = tt

module _ {S : Type 0} (start : Start S) (waits : S → Bool) (Takes' : S → Message → Type 0) where
  -- what may be taken of the input from the start on, and what is made of it
  abbrev most : ℕ
  most = start.limit - start.place

  abbrev frames_of : List ℕ → Fed S
  frames_of bytes = frames_from start.answer start.limit start.place start.state bytes

  abbrev made : Answering S
  made = answering start.answer waits start.limit start.place start.state

  abbrev Lacks : List ℕ → List ℕ → Type 0
  Lacks = AnswerLacksAt start.answer Takes' start.place frames_of

  module _ (source source' sink sink' : Known) (is_finished : Type 0) (state : S) (eaten : ℕ) (rest : List ℕ) (feeding : IsFeeding start source source' sink sink' is_finished state eaten rest) where
    -- all that was read from the start on
    abbrev bytes : List ℕ
    bytes = start.before ++ feeding.bytes

    abbrev frames : ℕ
    frames = most - feeding.frames

    fits : length bytes ≤ most
    fits = omega (arith, feeding.within, feeding.eaten_is, ap length feeding.parts, length-append feeding.front rest)

    fits-after : length feeding.bytes ≤ most - length start.before
    fits-after = omega (arith, fits, length-append start.before feeding.bytes)

    here : frames_of (feeding.front ++ rest) ≡ with_answers feeding.answers (fed start.answer frames eaten state rest)
    unfolding frames_from
    here = ap (fed start.answer most start.place start.state) (take_all most (feeding.front ++ rest) (omega (arith, fits, ap length feeding.parts))) ∙ feeding.goes rest

    on : (more : List ℕ) → frames_of (start.before ++ (feeding.bytes ++ more)) ≡ with_answers feeding.answers (fed start.answer frames eaten state (rest ++ take (most - length bytes) more))
    unfolding frames_from
    on more =
        let rest' : List ℕ = take (most - length bytes) more in
        ap (fed start.answer most start.place start.state)
        (ap (take most) (sym (append_assoc start.before feeding.bytes more)) ∙ take-front most bytes more fits ∙ ap (λ (xs : List ℕ). xs ++ rest') feeding.parts ∙ append_assoc feeding.front rest rest')
        ∙ feeding.goes (rest ++ rest')

    -- ---- if the rest is a part of a frame

    module _ (needed : ℕ) (cut : decoded_of rest ≡ Err (More needed)) where
      abbrev stands : Fed S
      stands = record { answers = feeding.answers ++ []; tail = left eaten rest; state = state }

      left-here : frames_of bytes ≡ stands
      left-here = ap frames_of feeding.parts ∙ here ∙ ap (with_answers feeding.answers) (fed-part start.answer frames eaten state rest needed cut)

      answers-here : made.written bytes ≡ feeding.answers
      answers-here = ap (λ (f : Fed S). f.answers) left-here ∙ append-nil feeding.answers

      state-here : made.state bytes ≡ state
      state-here = ap (λ (f : Fed S). f.state) left-here

      -- the answers are handed on still, with a sink that was touched later
      pub all-answered : (now_finished : Type 0) (rb rn wb wn : ℕ) → AreHandedOn feeding.answers now_finished → AnswersInput (after start.before made) (stream source source' rb rn) (stream sink sink' wb wn) now_finished feeding.bytes
      all-answered now_finished rb rn wb wn handed = record {
        taken = feeding.taken;
        written = subst (Appends sink sink') (sym answers-here) feeding.written;
        handed = subst (λ (xs : List ℕ). AreHandedOn xs now_finished) (sym answers-here) handed;
      }

      end-here : made.end bytes ≡ end_from (left eaten rest) (waits state) false
      end-here =
          ap (λ (f : Fed S). end_from f.tail (waits f.state) (nat_lt most (length bytes))) left-here
          ∙ ap (λ (b : Bool). end_from (left eaten rest) (waits state) b) (le-ltb most (length bytes) fits)

      -- the source was read to its end
      pub ends-last : (now_finished : Type 0) (rb rn wb wm wn : ℕ) → IsAtEnd source' → wb ≤ wm → wm ≤ wn → (end : FeedEnd) → IsLast wm wn is_finished now_finished (waits state) eaten (length rest) end
          → IsFed made start.before Lacks (stream source source' rb rn) (stream sink sink' wb wn) now_finished state end
      ends-last now_finished rb rn wb wm wn at_end first grown ends.Whole last = (
        record {
          bytes = feeding.bytes;
          answered = all-answered now_finished rb rn wb wn (inr last.2);
          at_end = at_end;
          within = fits-after;
          end_is = end-here ∙ end-whole eaten rest (waits state) last.0 last.1;
          state_is = state-here;
        },
        last.2,
      )
      ends-last now_finished rb rn wb wm wn at_end first grown (ends.Cut place) last = record {
        bytes = feeding.bytes;
        answered = all-answered now_finished rb rn wb wn (handed-still feeding.answers is_finished now_finished feeding.handed last.2);
        at_end = at_end;
        within = fits-after;
        end_is = end-here ∙ end-cut eaten rest (waits state) last.0 ∙ ap ends.Cut (sym last.1);
        state_is = state-here;
      }
      ends-last now_finished rb rn wb wm wn at_end first grown ends.WriteFailed last = record {
        bytes = feeding.bytes;
        taken = feeding.taken;
        within = fits-after;
        rose = rose-late wb wm wn first last.2 grown;
        front = appends-all sink sink' (made.written bytes) (subst (Appends sink sink') (sym answers-here) feeding.written);
      }
      ends-last now_finished rb rn wb wm wn at_end first grown (ends.Bad field place) last = absurd last
      ends-last now_finished rb rn wb wm wn at_end first grown ends.TooLong last = absurd last
      ends-last now_finished rb rn wb wm wn at_end first grown ends.ReadFailed last = absurd last
      ends-last now_finished rb rn wb wm wn at_end first grown (ends.NoMemory _) last = absurd last

      -- a read failed
      pub ends-unread : (now : S) (rb rm rn wb wn : ℕ) → rb ≤ rm → rm ≤ rn → Rose rm rn → IsFed made start.before Lacks (stream source source' rb rn) (stream sink sink' wb wn) is_finished now ends.ReadFailed
      ends-unread now rb rm rn wb wn first grown rose = record {
        bytes = feeding.bytes;
        answered = all-answered is_finished rb rn wb wn feeding.handed;
        within = fits-after;
        rose = rose-late rb rm rn first rose grown;
        goes_on = subst MayGoOn (sym end-here) (is-open eaten rest (waits state));
      }

      -- a byte beyond the limit is there
      pub ends-long : (now : S) (source'' : Known) (piece : List ℕ) (rb rn wb wn : ℕ) → Takes source' source'' piece → length piece ≡ 1 → eaten + length rest ≡ start.limit
          → IsFed made start.before Lacks (stream source source'' rb rn) (stream sink sink' wb wn) is_finished now ends.TooLong
      ends-long now source'' piece rb rn wb wn takes one full =
          let taken : List ℕ = feeding.bytes ++ piece in
          let all : length bytes ≡ length start.before + length feeding.bytes = length-append start.before feeding.bytes in
          let long : length bytes ≡ most = omega (arith, full, feeding.eaten_is, ap length feeding.parts, length-append feeding.front rest) in
          let none : most - length bytes ≡ 0 = omega (arith, long) in
          let again : (more : List ℕ) → frames_of (start.before ++ (taken ++ more)) ≡ stands = λ more.
          ap (λ (xs : List ℕ). frames_of (start.before ++ xs)) (append_assoc feeding.bytes piece more)
          ∙ on (piece ++ more)
          ∙ ap (λ n. with_answers feeding.answers (fed start.answer frames eaten state (rest ++ take n (piece ++ more)))) none
          ∙ ap (λ xs. with_answers feeding.answers (fed start.answer frames eaten state xs)) (append-nil rest)
          ∙ ap (with_answers feeding.answers) (fed-part start.answer frames eaten state rest needed cut) in
          let answers : (more : List ℕ) → made.written (start.before ++ (taken ++ more)) ≡ feeding.answers = λ more. ap (λ (f : Fed S). f.answers) (again more) ∙ append-nil feeding.answers in
          let here : made.written (start.before ++ taken) ≡ feeding.answers = ap (λ (xs : List ℕ). made.written (start.before ++ xs)) (sym (append-nil taken)) ∙ answers [] in
          record {
            bytes = taken;
            answered = record {
              taken = Takes-append source source' source'' feeding.bytes piece feeding.taken takes;
              written = subst (Appends sink sink') (sym here) feeding.written;
              handed = subst (λ (xs : List ℕ). AreHandedOn xs is_finished) (sym here) feeding.handed;
            };
            within = omega (arith, long, one, all, length-append feeding.bytes piece);
            end_is = λ more.
                let over : most < length (start.before ++ (taken ++ more)) =
                omega (arith, long, one, all, length-append feeding.bytes piece, length-append taken more, length-append start.before (taken ++ more)) in
                ap (λ (f : Fed S). end_from f.tail (waits f.state) (nat_lt most (length (start.before ++ (taken ++ more))))) (again more)
                ∙ ap (λ (b : Bool). end_from (left eaten rest) (waits state) b) (lt-ltb most (length (start.before ++ (taken ++ more))) over);
            no_more = λ more. answers more ∙ sym here;
          }

    -- ---- if no frame begins so

    pub ends-bad : (now : S) (field : BadKind) (offset place rb rn wb wn : ℕ) → decoded_of rest ≡ Err (Bad field offset) → offset < length rest → place ≡ eaten + offset
        → IsFed made start.before Lacks (stream source source' rb rn) (stream sink sink' wb wn) is_finished now (ends.Bad field place)
    ends-bad now field offset place rb rn wb wn refused within at =
        let some : 0 < frames = omega (arith, within, feeding.few, feeding.eaten_is, feeding.within) in
        let again : (more : List ℕ) → frames_of (start.before ++ (feeding.bytes ++ more)) ≡ record { answers = feeding.answers ++ []; tail = bad field place; state = state } = λ more.
        on more
        ∙ ap (with_answers feeding.answers) (fed-bad start.answer frames eaten state (rest ++ take (most - length bytes) more) field offset some (bad-on rest (take (most - length bytes) more) field offset refused))
        ∙ ap (λ n. with_answers feeding.answers (fed_no_more (bad field n) state)) (sym at) in
        let answers : (more : List ℕ) → made.written (start.before ++ (feeding.bytes ++ more)) ≡ feeding.answers = λ more. ap (λ (f : Fed S). f.answers) (again more) ∙ append-nil feeding.answers in
        let here : made.written bytes ≡ feeding.answers = ap (λ (xs : List ℕ). made.written (start.before ++ xs)) (sym (append-nil feeding.bytes)) ∙ answers [] in
        record {
          bytes = feeding.bytes;
          answered = record {
            taken = feeding.taken;
            written = subst (Appends sink sink') (sym here) feeding.written;
            handed = subst (λ (xs : List ℕ). AreHandedOn xs is_finished) (sym here) feeding.handed;
          };
          within = fits-after;
          end_is = λ more. ap (λ (f : Fed S). end_from f.tail (waits f.state) (nat_lt most (length (start.before ++ (feeding.bytes ++ more))))) (again more);
          no_more = λ more. answers more ∙ sym here;
        }

    -- ---- if a write fails

    pub ends-unwritten : (now : S) (sink'' : Known) (now_finished : Type 0) (rb rn wb wm wn : ℕ) → wb ≤ wm → wm ≤ wn → FailsOne start.answer wm wn sink' sink'' state rest
        → IsFed made start.before Lacks (stream source source' rb rn) (stream sink sink'' wb wn) now_finished now ends.WriteFailed
    ends-unwritten now sink'' now_finished rb rn wb wm wn first grown fails =
        let some : 0 < fails.used = fails.some in
        let used : fails.used ≤ length rest = fails.within in
        let fuel : frames ≡ suc (frames - 1) = omega (arith, some, used, feeding.few, feeding.eaten_is, feeding.within) in
        let reply : List ℕ = answer_to start.answer state fails.message fails.version in
        let later : Fed S = fed start.answer (frames - 1) (eaten + fails.used) (start.answer state fails.message fails.version).1 (drop fails.used rest) in
        let step : frames_of bytes ≡ with_answers feeding.answers (with_answers reply later) =
        ap frames_of feeding.parts
        ∙ here
        ∙ ap (λ n. with_answers feeding.answers (fed start.answer n eaten state rest)) fuel
        ∙ ap (λ read. with_answers feeding.answers (fed_on start.answer (fed start.answer (frames - 1)) eaten state rest read)) (begins-decoded rest fails.message fails.version fails.used fails.begins) in
        record {
          bytes = feeding.bytes;
          taken = feeding.taken;
          within = fits-after;
          rose = rose-late wb wm wn first fails.rose grown;
          front = subst (AppendsPrefix sink sink'') (sym (ap (λ (f : Fed S). f.answers) step)) (appends-front sink sink' sink'' feeding.answers reply later.answers feeding.written fails.written);
        }

    -- ---- out of memory

    short : length feeding.front ≤ most
    short = omega (arith, feeding.within, feeding.eaten_is)

    front-here : frames_of feeding.front ≡ record { answers = feeding.answers; tail = left eaten []; state = state }
    unfolding frames_from
    front-here =
        ap (fed start.answer most start.place start.state) (take_all most feeding.front short ∙ sym (append-nil feeding.front))
        ∙ feeding.goes []
        ∙ ap (with_answers feeding.answers) (fed-nothing start.answer frames eaten state)
        ∙ ap (λ (xs : List ℕ). record { answers = xs; tail = left eaten []; state = state }) (append-nil feeding.answers)

    front-answers : made.written feeding.front ≡ feeding.answers
    front-answers = ap (λ (f : Fed S). f.answers) front-here

    front-state : (frames_of feeding.front).state ≡ state
    front-state = ap (λ (f : Fed S). f.state) front-here

    -- the answers to a further frame
    next-answers : (message : Message) (version : Version) (used : ℕ) → Begins rest message version used
        → (frames_of (feeding.front ++ take used rest)).answers ≡ (frames_of feeding.front).answers ++ answer_to start.answer (frames_of feeding.front).state message version
    unfolding frames_from
    next-answers message version used begins =
        let frame : List ℕ = frame_bytes version message in
        let used' = some-used rest message version used begins in
        let some : 0 < used = used'.0 in
        let fit : used ≤ length rest = used'.1 in
        let used_is : used ≡ length frame = begins.used_is in
        let first : take used rest ≡ frame =
        ap (λ n. take n rest) used_is ∙ ap (take (length frame)) begins.parts ∙ take-append-le (length frame) frame begins.rest (omega arith) ∙ take_all (length frame) frame (omega arith) in
        let fuel : frames ≡ suc (frames - 1) = omega (arith, some, fit, feeding.few, feeding.eaten_is, feeding.within) in
        let fits' : length (feeding.front ++ frame) ≤ most = omega (arith, feeding.within, feeding.eaten_is, fit, used_is, length-append feeding.front frame) in
        let read : decoded_of (frame ++ []) ≡ Ok (message, version, length frame) =
        begins-decoded (frame ++ []) message version (length frame) (record { rest = []; parts = refl; used_is = refl; meets = begins.meets; typed = begins.typed }) in
        let reply : List ℕ = answer_to start.answer state message version in
        let next : S = (start.answer state message version).1 in
        let later : Fed S = fed start.answer (frames - 1) (eaten + length frame) next [] in
        let on' : fed start.answer frames eaten state frame ≡ with_answers reply later =
        ap (λ n. fed start.answer n eaten state frame) fuel ∙ ap (fed start.answer (suc (frames - 1)) eaten state) (sym (append-nil frame)) ∙ fed-frame start.answer (frames - 1) eaten state frame [] message version refl read in
        let none : later.answers ≡ [] = ap (λ (f : Fed S). f.answers) (fed-nothing start.answer (frames - 1) (eaten + length frame) next) in
        ap (λ (xs : List ℕ). (frames_of (feeding.front ++ xs)).answers) first
        ∙ ap (λ (xs : List ℕ). (fed start.answer most start.place start.state xs).answers) (take_all most (feeding.front ++ frame) fits')
        ∙ ap (λ (f : Fed S). f.answers) (feeding.goes frame)
        ∙ ap (λ (f : Fed S). feeding.answers ++ f.answers) on'
        ∙ ap (λ (xs : List ℕ). feeding.answers ++ (reply ++ xs)) none
        ∙ ap (λ (xs : List ℕ). feeding.answers ++ xs) (append-nil reply)
        ∙ sym (ap (λ (f : Fed S). f.answers ++ answer_to start.answer f.state message version) front-here)

    lacks-for : BeginsInstall rest ⊎ IsTaking Takes' state rest → BeginsInstall rest ⊎ BeginsTaking start.answer Takes' frames_of feeding.front rest
    lacks-for (inl install) = inl install
    lacks-for (inr taking) = inr (record {
      message = taking.message;
      version = taking.version;
      used = taking.used;
      begins = taking.begins;
      takes = subst (λ (s : S). Takes' s taking.message) (sym front-state) taking.takes;
      next = next-answers taking.message taking.version taking.used taking.begins;
    })

    pub ends-wanting : (now : S) (rb rn wb wn : ℕ) → length rest ≤ most_frame_bytes → BeginsInstall rest ⊎ IsTaking Takes' state rest → IsFed made start.before Lacks (stream source source' rb rn) (stream sink sink' wb wn) is_finished now (ends.NoMemory no_memory)
    ends-wanting now rb rn wb wn few cause = record {
      bytes = feeding.bytes;
      front = feeding.front;
      rest = rest;
      later = (fed start.answer frames eaten state rest).answers;
      taken = feeding.taken;
      parts = feeding.parts;
      within = omega (arith, fits, ap length feeding.parts);
      written = subst (Appends sink sink') (sym front-answers) feeding.written;
      handed = subst (λ (xs : List ℕ). AreHandedOn xs is_finished) (sym front-answers) feeding.handed;
      begins = ap (λ (f : Fed S). f.answers) here ∙ ap (λ xs. xs ++ (fed start.answer frames eaten state rest).answers) (sym front-answers);
      kept = few;
      cause = record {
        whole = ap (λ (f : Fed S). f.tail) front-here ∙ ap (λ n. left n []) (sym feeding.eaten_is);
        cause = lacks-for cause;
      };
    }
