-- The scenario that a stream begins with, which its first line `---` ends, and what a call that reads it has taken.
use Rattle.std.specs.Prelude.{◌≡◌, ◌⊎◌, ℕ, ◌+◌, ◌<◌, ◌≤◌, Bool, true, Option, Some, None, option_map, Result, Ok, Err, if◌then◌else◌, List, [], ◌∷◌, ◌++◌, length}
use Rattle.ccp_base.specs.Outside.{Known, Rose, Takes, IsAtEnd}
use Rattle.ccp_base.specs.Limits.{most_frame_bytes, most_input_bytes}
use Rattle.ccp_base.specs.declared.parts.Separator.TheVariants.{LineFeed}
use Rattle.ccp_base.specs.Parts.{separates}
use Rattle.fold_run.specs.Separated.{is_separator}
use Rattle.feed_core.specs.FeedEnds.{Stream}
use Rattle.driven_flow.specs.declared.front.Front.{Front}
use Rattle.driven_flow.specs.declared.front.FrontFault.{FrontFault}
use Rattle.driven_flow.specs.declared.front.FrontFault.TheVariants.{TooLong, NoSeparator, ReadFailed, NoMemory}

-- ---- where the scenario ends

-- a text and a rest, with more bytes at the text's front
abbrev pub with_front : List ℕ → Option (List ℕ × List ℕ) → Option (List ℕ × List ℕ)
with_front front = option_map (λ (text, rest). (front ++ text, rest))

-- how bytes divide after the first bytes of a line: at its line feed if the line is `---`; else the line is text, and
-- the next one begins
abbrev pub divided_from : List ℕ → List ℕ → Option (List ℕ × List ℕ)
divided_from line [] = None
divided_from line (byte ∷ rest) =
    if separates LineFeed byte
    then (if is_separator line then Some ([], rest) else with_front (line ++ byte ∷ []) (divided_from [] rest))
    else divided_from (line ++ byte ∷ []) rest

-- the bytes before the first line `---` that a line feed ends, and the bytes after that line feed
abbrev pub divided : List ℕ → Option (List ℕ × List ℕ)
divided bytes = divided_from [] bytes

abbrev pub front_in : List ℕ → Option (List ℕ × List ℕ) → List ℕ
front_in bytes None = bytes
front_in bytes (Some (text, rest)) = text

-- the bytes before the first line `---`, or all without one
abbrev pub front_of : List ℕ → List ℕ
front_of bytes = front_in bytes (divided bytes)

-- more bytes than the limit come before the first line `---`, or without one
abbrev pub IsOverlong : List ℕ → Type 0
IsOverlong bytes = most_input_bytes < length (front_of bytes)

-- no line `---` is there yet, and bytes can follow with which no more than the limit come before it, or without it
pub record IsOpen (bytes : List ℕ) : Type 0 where
  pub none : divided bytes ≡ None
  pub more : List ℕ
  pub within : length (front_of (bytes ++ more)) ≤ most_input_bytes

-- ---- what the call has taken

-- a read is allowed in every state that comes from this one in which nothing was written, and what was taken since is
-- open
abbrev pub AllowsFront : {D : Type 0} (remaining written : D → Known) (is_finished : D → Type 0)
    (Follows : D → D → Type 0) (MayRead : D → Type 0) → D → Type 0
AllowsFront {D = D} remaining written is_finished Follows MayRead begin = (now : D) (taken : List ℕ)
    → Follows begin now → Takes (remaining begin) (remaining now) taken → written now ≡ written begin
    → (is_finished begin → is_finished now) → IsOpen taken → MayRead now

-- the text, the line `---` and the rest were taken; `eaten` bytes come before the rest
pub record IsDivided (source : Stream) (text rest : List ℕ) (eaten : ℕ) : Type 0 where
  pub bytes : List ℕ
  pub taken : Takes source.old source.new bytes
  pub divided_is : divided bytes ≡ Some (text, rest)
  pub within : length text ≤ most_input_bytes
  pub eaten_is : eaten + length rest ≡ length bytes
  pub short : length rest < most_frame_bytes
  pub few : length bytes ≤ most_input_bytes + most_frame_bytes

-- what was taken is too long: as the source ends there, or whatever follows
pub record IsTooLong (source : Stream) : Type 0 where
  pub bytes : List ℕ
  pub taken : Takes source.old source.new bytes
  pub few : length bytes ≤ most_input_bytes + most_frame_bytes
  pub long : (IsAtEnd source.new × IsOverlong bytes) ⊎ ((more : List ℕ) → IsOverlong (bytes ++ more))

-- the source was read to its end, and has no line `---`
pub record HasNoSeparator (source : Stream) : Type 0 where
  pub bytes : List ℕ
  pub taken : Takes source.old source.new bytes
  pub at_end : IsAtEnd source.new
  pub within : length bytes ≤ most_input_bytes
  pub none : divided bytes ≡ None

-- a read failed, and what was taken before is open
pub record FailsToReadFront (source : Stream) : Type 0 where
  pub bytes : List ℕ
  pub taken : Takes source.old source.new bytes
  pub few : length bytes ≤ most_input_bytes + most_frame_bytes
  pub rose : Rose source.before source.now
  pub not_over : IsOpen bytes

-- out of memory: a front without a line `---` was taken, and then a rest of at most a frame's bytes
pub record LacksMemoryForFront (source : Stream) : Type 0 where
  pub front : List ℕ
  pub rest : List ℕ
  pub taken : Takes source.old source.new (front ++ rest)
  pub few : length (front ++ rest) ≤ most_input_bytes + most_frame_bytes
  pub none : divided front ≡ None
  pub kept : length rest ≤ most_frame_bytes

-- what each fault of the call says
abbrev pub IsFrontFault : Stream → FrontFault → Type 0
IsFrontFault source TooLong = IsTooLong source
IsFrontFault source NoSeparator = HasNoSeparator source
IsFrontFault source ReadFailed = FailsToReadFront source
IsFrontFault source (NoMemory _) = LacksMemoryForFront source

-- what each result of the call says, with the bytes that are left in its rest
abbrev pub IsFrontRead : Stream → List ℕ → Result Front FrontFault → Type 0
IsFrontRead source rest (Ok front) = IsDivided source front.text rest front.eaten
IsFrontRead source rest (Err fault) = IsFrontFault source fault

-- ---- laws

-- no bytes, or a line feed at the end
abbrev pub is_ended : List ℕ → Bool
is_ended [] = true
is_ended (byte ∷ []) = separates LineFeed byte
is_ended (byte ∷ next ∷ rest) = is_ended (next ∷ rest)

-- bytes are whole lines of text, the line `---` with its line feed, and the rest
pub record HasSeparator (bytes text rest : List ℕ) : Type 0 where
  pub line : List ℕ
  pub separator : is_separator line ≡ true
  pub whole : bytes ≡ text ++ line ++ 10 ∷ rest
  pub ended : is_ended text ≡ true

-- bytes are divided, and no later than after this text
pub record DividesBy (bytes text : List ℕ) : Type 0 where
  pub first : List ℕ
  pub rest : List ℕ
  pub divided_is : divided bytes ≡ Some (first, rest)
  pub no_later : length first ≤ length text

-- bytes are divided at a line `---`
abbrev pub DividedAtSeparator : Type 0
DividedAtSeparator = (bytes text rest : List ℕ) → divided bytes ≡ Some (text, rest) → HasSeparator bytes text rest

-- with a line `---` they are divided, and at the first one
abbrev pub DividedAtFirst : Type 0
DividedAtFirst = (bytes text rest : List ℕ) → HasSeparator bytes text rest → DividesBy bytes text

-- what follows comes behind the rest
abbrev pub DividedGoesOn : Type 0
DividedGoesOn = (bytes more text rest : List ℕ) → divided bytes ≡ Some (text, rest)
    → divided (bytes ++ more) ≡ Some (text, rest ++ more)
