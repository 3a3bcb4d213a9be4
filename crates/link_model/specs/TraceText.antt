-- The trace of a text: one time a line, and the first refusal.
use Rattle.std.specs.Prelude.{◌≡◌, ℕ, ◌+◌, Bool, true, false, ◌==◌, nat_lt, nat_le, Option, Some, None, Result, Ok, Err, if◌then◌else◌, List, [], ◌∷◌}
use Rattle.std.specs.Option.{option_or}
use Rattle.ccp_base.specs.Limits.{most_trace_ms}
use Rattle.ccp_base.specs.Numerals.{numeral_of}
use Rattle.ccp_base.specs.Parts.{separates, parts_of, without_last}
use Rattle.link_model.specs.Traces.{period}
use Rattle.ccp_base.specs.declared.parts.Separator.TheVariants.{LineFeed, Blank}
use Rattle.link_model.specs.declared.trace_text.TraceLine.{TraceLine}
use Rattle.link_model.specs.declared.trace_text.TraceLine.TheVariants.{Nothing, Time, Bad}
use Rattle.link_model.specs.declared.trace.TraceFault.{TraceFault}
use Rattle.link_model.specs.declared.trace.TraceFault.TheVariants.{BadLine, EmptyTrace, NotRising, ZeroPeriod}

-- bytes without the blanks at their begin
abbrev pub without_first_blanks : List ℕ → List ℕ
without_first_blanks [] = []
without_first_blanks (byte ∷ rest) = if separates Blank byte then without_first_blanks rest else byte ∷ rest

-- a byte in front of the rest; a blank in front of nothing is dropped
abbrev pub in_front : ℕ → List ℕ → List ℕ
in_front byte [] = if separates Blank byte then [] else byte ∷ []
in_front byte (next ∷ rest) = byte ∷ next ∷ rest

-- bytes without the blanks at their end
abbrev pub without_last_blanks : List ℕ → List ℕ
without_last_blanks [] = []
without_last_blanks (byte ∷ rest) = in_front byte (without_last_blanks rest)

-- a time in milliseconds: a whole number up to an hour
abbrev pub trace_time : Option ℕ → TraceLine
trace_time None = Bad
trace_time (Some time) = if nat_le time most_trace_ms then Time time else Bad

abbrev pub word_line : List ℕ → TraceLine
word_line [] = Nothing
word_line (byte ∷ rest) = trace_time (numeral_of (byte ∷ rest))

-- what a line says: one CR at its end is dropped, then the blanks around
abbrev pub trace_line : List ℕ → TraceLine
trace_line line = word_line (without_last_blanks (without_first_blanks (without_last 13 line)))

abbrev pub is_bad_line : TraceLine → Bool
is_bad_line Bad = true
is_bad_line Nothing = false
is_bad_line (Time time) = false

-- a line's time in front of the later ones
abbrev pub with_time : TraceLine → List ℕ → List ℕ
with_time (Time time) later = time ∷ later
with_time Nothing later = later
with_time Bad later = later

abbrev pub is_below : TraceLine → ℕ → Bool
is_below (Time time) before = nat_lt time before
is_below Nothing before = false
is_below Bad before = false

-- the last time up to this line
abbrev pub time_after : TraceLine → ℕ → ℕ
time_after (Time time) before = time
time_after Nothing before = before
time_after Bad before = before

-- the times of lines, in order
abbrev pub times_of : List (List ℕ) → List ℕ
times_of [] = []
times_of (line ∷ rest) = with_time (trace_line line) (times_of rest)

-- the number of the first line that is neither a time nor blank; the first line here has this number
abbrev pub first_bad_line : ℕ → List (List ℕ) → Option ℕ
first_bad_line number [] = None
first_bad_line number (line ∷ rest) =
    if is_bad_line (trace_line line) then Some number else first_bad_line (number + 1) rest

-- the number of the first line whose time is below the one before
abbrev pub first_fall : ℕ → ℕ → List (List ℕ) → Option ℕ
first_fall number before [] = None
first_fall number before (line ∷ rest) =
    if is_below (trace_line line) before then Some number
    else first_fall (number + 1) (time_after (trace_line line) before) rest

-- the first line that falls, with one more line after those before
abbrev pub fall_after : Option ℕ → TraceLine → ℕ → ℕ → Option ℕ
fall_after fall line before number = option_or fall (if is_below line before then Some number else None)

-- refused at a line if there is one
abbrev pub unless_at : Option ℕ → (ℕ → TraceFault) → Result (List ℕ) TraceFault → Result (List ℕ) TraceFault
unless_at (Some number) fault other = Err (fault number)
unless_at None fault other = other

abbrev pub with_period : List ℕ → Result (List ℕ) TraceFault
with_period times = if period times == 0 then Err ZeroPeriod else Ok times

-- times with the first line that falls, if one does
abbrev pub checked : List ℕ → Option ℕ → Result (List ℕ) TraceFault
checked [] fall = Err EmptyTrace
checked (time ∷ later) fall = unless_at fall NotRising (with_period (time ∷ later))

abbrev pub trace_of_lines : List (List ℕ) → Result (List ℕ) TraceFault
trace_of_lines lines = unless_at (first_bad_line 1 lines) BadLine (checked (times_of lines) (first_fall 1 0 lines))

-- the lines of a text
abbrev pub text_lines : List ℕ → List (List ℕ)
text_lines text = parts_of LineFeed text

-- the fault has the number of the first bad line, if there is one
abbrev pub IsAtFirstBad : List ℕ → TraceFault → Type 0
IsAtFirstBad text fault = (number : ℕ) → first_bad_line 1 (text_lines text) ≡ Some number → fault ≡ BadLine number

-- a trace text: its times, or the first of its refusals
abbrev pub trace_of : List ℕ → Result (List ℕ) TraceFault
trace_of text = trace_of_lines (text_lines text)
