-- The times of lines of which none falls, and of which the last is above 0, are a trace.
use Rattle.std.proofs.Common.{◌≡◌, ℕ, zero, suc, ◌+◌, ◌<◌, ◌≤◌, Bool, true, false, cond, leb, List, [], ◌∷◌, length, get_or, Option, Some, None, refl, sym, subst, arith}
use Rattle.std.proofs.lemmas.Bool.Decides.{nat_tests}
use Rattle.ccp_base.specs.Numerals.{numeral_of}
use Rattle.ccp_base.specs.Parts.{without_last}
use Rattle.link_model.specs.Traces.{period, IsTrace}
use Rattle.link_model.specs.declared.trace_text.TraceLine.{TraceLine}
use Rattle.link_model.specs.declared.trace_text.TraceLine.TheVariants.{Nothing, Time, Bad}
use Rattle.link_model.specs.TraceText.{without_first_blanks, without_last_blanks, trace_time, word_line, trace_line, is_below, with_time, time_after, times_of, first_fall}

-- times that don't fall, each at least this one and up to an hour
abbrev pub RisesFrom : ℕ → List ℕ → Type 0
RisesFrom before [] = Unit {0}
RisesFrom before (time ∷ later) = (before ≤ time) × (time ≤ 3600000) × RisesFrom time later

abbrev HasTimeWithin : TraceLine → Type 0
HasTimeWithin Nothing = Unit {0}
HasTimeWithin (Time time) = time ≤ 3600000
HasTimeWithin Bad = Unit {0}

if_within : (time : ℕ) (b : Bool) → leb time 3600000 ≡ b → HasTimeWithin (cond b (Time time) Bad)
if_within time true is = grind (arith, nat_tests)
if_within time false is = tt

time_of-within : (number : Option ℕ) → HasTimeWithin (trace_time number)
time_of-within None = tt
time_of-within (Some time) = if_within time (leb time 3600000) refl

word_line-within : (word : List ℕ) → HasTimeWithin (word_line word)
word_line-within [] = tt
word_line-within (byte ∷ rest) = time_of-within (numeral_of (byte ∷ rest))

one_more : (said : TraceLine) (before : ℕ) (later : List ℕ) → HasTimeWithin said → is_below said before ≡ false → RisesFrom (time_after said before) later → RisesFrom before (with_time said later)
one_more Nothing before later within not_below rest = rest
one_more (Time time) before later within not_below rest = (grind (arith, nat_tests), within, rest)
one_more Bad before later within not_below rest = rest

not_here : (b : Bool) (number : ℕ) (other : Option ℕ) → cond b (Some number) other ≡ None → (b ≡ false) × (other ≡ None)
not_here true number other none = absurd (let h : Some number ≡ None = none in (cc))
not_here false number other none = (refl, none)

-- lines of which none falls have times that rise
pub times_rise : (lines : List (List ℕ)) (number before : ℕ) → first_fall number before lines ≡ None → RisesFrom before (times_of lines)
times_rise [] number before none = tt
times_rise (line ∷ rest) number before none =
    let here = not_here (is_below (trace_line line) before) number (first_fall (number + 1) (time_after (trace_line line) before) rest) none in
    one_more (trace_line line) before (times_of rest) (word_line-within (without_last_blanks (without_first_blanks (without_last 13 line)))) here.0
    (times_rise rest (number + 1) (time_after (trace_line line) before) here.1)

at_least_before : (before : ℕ) (times : List ℕ) → RisesFrom before times → (j d : ℕ) → j < length times → before ≤ get_or times j d
at_least_before before [] rises j d within = absurd (omega arith)
at_least_before before (time ∷ later) rises zero d within = rises.0
at_least_before before (time ∷ later) rises (suc j) d within =
    let here = at_least_before time later rises.2 j d (omega arith) in omega (arith, rises.0)

non_decreasing : (before : ℕ) (times : List ℕ) → RisesFrom before times → (i j d : ℕ) → i ≤ j → j < length times → get_or times i d ≤ get_or times j d
non_decreasing before [] rises i j d order within = absurd (omega arith)
non_decreasing before (time ∷ later) rises zero zero d order within = omega arith
non_decreasing before (time ∷ later) rises zero (suc j) d order within = at_least_before time later rises.2 j d (omega arith)
non_decreasing before (time ∷ later) rises (suc i) zero d order within = absurd (omega arith)
non_decreasing before (time ∷ later) rises (suc i) (suc j) d order within = non_decreasing time later rises.2 i j d (omega arith) (omega arith)

up_to_an_hour : (before : ℕ) (times : List ℕ) → RisesFrom before times → (i : ℕ) → get_or times i 0 ≤ 3600000
up_to_an_hour before [] rises i = omega arith
up_to_an_hour before (time ∷ later) rises zero = rises.1
up_to_an_hour before (time ∷ later) rises (suc i) = up_to_an_hour time later rises.2 i

-- times of lines of which none falls, and of which the last is above 0, are a trace
pub are_trace : (lines : List (List ℕ)) (times : List ℕ) → times ≡ times_of lines → first_fall 1 0 lines ≡ None → 0 < length times → 0 < period times → IsTrace times
are_trace lines times same none some above =
    let rises : RisesFrom 0 times = subst (RisesFrom 0) (sym same) (times_rise lines 1 0 none) in
    record {
      some = some;
      rising = non_decreasing 0 times rises;
      period = above;
      within = up_to_an_hour 0 times rises;
    }
