-- The blanks at the end of a line, and a text that is read line by line.
use Rattle.std.proofs.Common.{◌≡◌, ◌≢◌, ℕ, suc, ◌+◌, ◌-◌, ◌<◌, Bool, true, false, cond, nat_eq, List, [], ◌∷◌, ◌++◌, length, get_or, Option, Some, None, Result, Ok, Err, refl, ap, sym, ◌∙◌, arith}
use Rattle.std.proofs.lemmas.Bool.Decides.{nat_tests}
use Rattle.std.proofs.lemmas.List.{get_or_default}
use Rattle.std.specs.Option.{option_or}
use Rattle.ccp_base.specs.Parts.{separates}
use Rattle.ccp_base.specs.declared.outside.NoMemory.{NoMemory}
use Rattle.ccp_base.specs.declared.parts.Separator.TheVariants.{Blank}
use Rattle.link_model.specs.declared.trace_text.TraceLine.{TraceLine}
use Rattle.link_model.specs.declared.trace_text.TraceLine.TheVariants.{Nothing, Time, Bad}
use Rattle.link_model.specs.declared.trace.TraceFault.{TraceFault}
use Rattle.link_model.specs.declared.trace.TraceFault.TheVariants.{BadLine, EmptyTrace, NotRising, ZeroPeriod}
use Rattle.link_model.specs.Traces.{period}
use Rattle.link_model.specs.TraceText.{in_front, without_last_blanks, trace_line, with_time, time_after, times_of, first_bad_line, first_fall, unless_at, checked, text_lines, IsAtFirstBad, trace_of}

in_front-push : (byte : ℕ) (front : List ℕ) (last : ℕ) → in_front byte (front ++ last ∷ []) ≡ byte ∷ (front ++ last ∷ [])
in_front-push byte [] last = refl
in_front-push byte (next ∷ front) last = refl

pub without_last_blanks-push : (front : List ℕ) (last : ℕ) → without_last_blanks (front ++ last ∷ []) ≡ cond (separates Blank last) (without_last_blanks front) (front ++ last ∷ [])
without_last_blanks-push [] last = refl
without_last_blanks-push (byte ∷ front) last =
    ap (in_front byte) (without_last_blanks-push front last)
    ∙ elim (separates Blank last) as (λ b. in_front byte (cond b (without_last_blanks front) (front ++ last ∷ [])) ≡ cond b (in_front byte (without_last_blanks front)) (byte ∷ (front ++ last ∷ [])))
    [ true ↦ refl | false ↦ in_front-push byte front last ]

pub without_last_blanks-blank : (line front : List ℕ) (last : ℕ) → line ≡ front ++ last ∷ [] → separates Blank last ≡ true → without_last_blanks front ≡ without_last_blanks line
without_last_blanks-blank line front last split blank =
    sym (ap without_last_blanks split ∙ without_last_blanks-push front last ∙ ap (λ b. cond b (without_last_blanks front) (front ++ last ∷ [])) blank)

pub without_last_blanks-other : (line front : List ℕ) (last : ℕ) → line ≡ front ++ last ∷ [] → separates Blank last ≡ false → line ≡ without_last_blanks line
without_last_blanks-other line front last split other =
    split ∙ sym (ap without_last_blanks split ∙ without_last_blanks-push front last ∙ ap (λ b. cond b (without_last_blanks front) (front ++ last ∷ [])) other)

-- the last time of lines, or this one if they have none
abbrev pub last_after : ℕ → List (List ℕ) → ℕ
last_after before [] = before
last_after before (line ∷ rest) = last_after (time_after (trace_line line) before) rest

last_in_front : (time : ℕ) (later : List ℕ) (before : ℕ) → get_or later (length later - 1) time ≡ get_or (time ∷ later) (length (time ∷ later) - 1) before
last_in_front time [] before = refl
last_in_front time (next ∷ later) before =
    let here : length (next ∷ later) - 1 ≡ length later = omega arith in
    let there : length (time ∷ next ∷ later) - 1 ≡ suc (length later) = omega arith in
    ap (λ i. get_or (next ∷ later) i time) here
    ∙ get_or_default (next ∷ later) (length later) time before (omega arith)
    ∙ sym (ap (λ i. get_or (time ∷ next ∷ later) i before) there)

last_with : (said : TraceLine) (before : ℕ) (rest : List (List ℕ)) → ((from : ℕ) → last_after from rest ≡ get_or (times_of rest) (length (times_of rest) - 1) from)
    → last_after (time_after said before) rest ≡ get_or (with_time said (times_of rest)) (length (with_time said (times_of rest)) - 1) before
last_with Nothing before rest is = is before
last_with Bad before rest is = is before
last_with (Time time) before rest is = is time ∙ last_in_front time (times_of rest) before

-- the last time of lines is the last of their times
pub last_after-is : (lines : List (List ℕ)) (before : ℕ) → last_after before lines ≡ get_or (times_of lines) (length (times_of lines) - 1) before
last_after-is [] before = refl
last_after-is (line ∷ rest) before = last_with (trace_line line) before rest (last_after-is rest)

pub none_left : (xs : List ℕ) → true ≡ nat_eq (length xs) 0 → xs ≡ []
none_left [] is = refl
none_left (x ∷ xs) is = absurd (grind (arith, nat_tests))

-- what was read of the lines, with what is left of them, is what all of them say
pub record IsReadingOf (all left : List (List ℕ)) (times : List ℕ) (refused : Option NoMemory) (count before number : ℕ) (fall : Option ℕ) : Type 0 where
  pub goods : first_bad_line number left ≡ first_bad_line 1 all
  pub read : refused ≡ None → times ++ times_of left ≡ times_of all
  pub counts : count + length (times_of left) ≡ length (times_of all)
  pub lasts : last_after before left ≡ last_after 0 all
  pub falls : option_or fall (first_fall number before left) ≡ first_fall 1 0 all

-- ---- a text by what was read of it

bad_by : (bad : Option ℕ) (fault : TraceFault) (other : Result (List ℕ) TraceFault) → bad ≢ None → ((number : ℕ) → bad ≡ Some number → fault ≡ BadLine number) → unless_at bad BadLine other ≡ Err fault
bad_by None fault other some at = absurd (some refl)
bad_by (Some number) fault other some at = ap Err (sym (at number refl))

checked-empty : (times : List ℕ) (fall : Option ℕ) → length times ≡ 0 → checked times fall ≡ Err EmptyTrace
checked-empty [] fall none = refl
checked-empty (time ∷ later) fall none = absurd (omega arith)

checked-falls : (times : List ℕ) (line : ℕ) → 0 < length times → checked times (Some line) ≡ Err (NotRising line)
checked-falls [] line some = absurd (omega arith)
checked-falls (time ∷ later) line some = refl

checked-by : (times : List ℕ) (b : Bool) → 0 < length times → nat_eq (period times) 0 ≡ b → checked times None ≡ cond b (Err ZeroPeriod) (Ok times)
checked-by [] b some is = absurd (omega arith)
checked-by (time ∷ later) b some is = ap (λ zero. cond zero (Err ZeroPeriod) (Ok (time ∷ later))) is

module _ (text : List ℕ) where
  pub trace_of-bad : (fault : TraceFault) → first_bad_line 1 (text_lines text) ≢ None → IsAtFirstBad text fault → trace_of text ≡ Err fault
  trace_of-bad fault some at = bad_by (first_bad_line 1 (text_lines text)) fault (checked (times_of (text_lines text)) (first_fall 1 0 (text_lines text))) some at

  module _ (good : first_bad_line 1 (text_lines text) ≡ None) where
    trace_of-good : trace_of text ≡ checked (times_of (text_lines text)) (first_fall 1 0 (text_lines text))
    trace_of-good = ap (λ bad. unless_at bad BadLine (checked (times_of (text_lines text)) (first_fall 1 0 (text_lines text)))) good

    pub trace_of-empty : length (times_of (text_lines text)) ≡ 0 → trace_of text ≡ Err EmptyTrace
    trace_of-empty none = trace_of-good ∙ checked-empty (times_of (text_lines text)) (first_fall 1 0 (text_lines text)) none

    module _ (some : 0 < length (times_of (text_lines text))) where
      pub trace_of-falls : (line : ℕ) → first_fall 1 0 (text_lines text) ≡ Some line → trace_of text ≡ Err (NotRising line)
      trace_of-falls line falls = trace_of-good ∙ ap (checked (times_of (text_lines text))) falls ∙ checked-falls (times_of (text_lines text)) line some

      module _ (rises : first_fall 1 0 (text_lines text) ≡ None) where
        pub trace_of-zero : period (times_of (text_lines text)) ≡ 0 → trace_of text ≡ Err ZeroPeriod
        trace_of-zero none = trace_of-good ∙ ap (checked (times_of (text_lines text))) rises ∙ checked-by (times_of (text_lines text)) true some (grind (arith, nat_tests))

        pub trace_of-times : 0 < period (times_of (text_lines text)) → trace_of text ≡ Ok (times_of (text_lines text))
        trace_of-times above = trace_of-good ∙ ap (checked (times_of (text_lines text))) rises ∙ checked-by (times_of (text_lines text)) false some (grind (arith, nat_tests))

-- a text that is a trace has no refusal
pub other_than_ok : (times : List ℕ) (fault : TraceFault) → Ok times ≡ Err fault → ⊥
other_than_ok times fault is = cc
