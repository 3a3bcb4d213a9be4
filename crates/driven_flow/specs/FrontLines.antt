-- How the bytes that come begin within a line, and how far a scenario's text has come.
use Rattle.std.specs.Prelude.{◌≡◌, ◌⊎◌, ℕ, ◌+◌, ◌<◌, ◌≤◌, Bool, true, false, Some, None, Result, Ok, Err, List, [], ◌∷◌, ◌++◌, length, take, drop}
use Rattle.ccp_base.specs.Outside.{Known, Rose, Takes, IsAtEnd}
use Rattle.ccp_base.specs.Limits.{most_input_bytes}
use Rattle.fold_run.specs.Separated.{is_separator}
use Rattle.driven_flow.specs.declared.front.FrontFault.{FrontFault}
use Rattle.driven_flow.specs.declared.front.FrontFault.TheVariants.{TooLong, NoSeparator, ReadFailed, NoMemory}
use Rattle.driven_flow.specs.declared.front.Line.{Line}
use Rattle.driven_flow.specs.declared.front.Line.TheVariants.{Separator, Text, Open}
use Rattle.feed_core.specs.FeedEnds.{Stream}
use Rattle.driven_flow.specs.Front.{with_front, divided_from, divided, IsDivided, IsFrontFault}

-- `---` with a CR at its end, the longest line that ends a scenario
abbrev pub longest_separator : List ℕ
longest_separator = 45 ∷ 45 ∷ 45 ∷ 13 ∷ []

-- a line that begins with these bytes isn't `---`, whatever follows
abbrev pub IsOther : List ℕ → Type 0
IsOther bytes = (more : List ℕ) → is_separator (bytes ++ more) ≡ false

-- the bytes of a line that the text ends with: where it ends within a line, that line isn't `---`; else none
abbrev pub IsWithinLine : Bool → List ℕ → Type 0
IsWithinLine false line = line ≡ []
IsWithinLine true line = IsOther line

-- the first bytes, after those of their line that came before, are the line `---` and its line feed
pub record EndsText (line bytes : List ℕ) (count : ℕ) : Type 0 where
  pub first : line ≡ []
  pub divided_is : divided_from line bytes ≡ Some ([], drop count bytes)

-- the first bytes are text, which then ends within a line or not
pub record GoesOn (line bytes : List ℕ) (count : ℕ) (inside : Bool) : Type 0 where
  pub whole : List ℕ
  pub line' : List ℕ
  pub parts : line ++ take count bytes ≡ whole ++ line'
  pub inside_is : IsWithinLine inside line'
  pub goes : (more : List ℕ) → divided_from line (take count bytes ++ more) ≡ with_front whole (divided_from line' more)

-- more bytes make the line `---`
pub record CanEnd (line bytes : List ℕ) : Type 0 where
  pub more : List ℕ
  pub ends : divided_from line (bytes ++ more) ≡ Some ([], [])

-- what the bytes are depends on those that follow: there are none, or they can become the line `---`
pub record IsUndecided (line bytes : List ℕ) : Type 0 where
  pub none : divided_from line bytes ≡ None
  pub cause : (bytes ≡ []) ⊎ CanEnd line bytes

-- how bytes begin, after those of their line that came before
abbrev pub IsNext : List ℕ → List ℕ → Line → Type 0
IsNext line bytes (Separator count) = EndsText line bytes count
IsNext line bytes (Text count inside) = GoesOn line bytes count inside
IsNext line bytes Open = IsUndecided line bytes

-- the bytes that a beginning counts are some of those that are there; undecided bytes are few
abbrev pub IsCounted : ℕ → Line → Type 0
IsCounted length (Separator count) = (0 < count) × (count ≤ length)
IsCounted length (Text count inside) = (0 < count) × (count ≤ length)
IsCounted length Open = length ≤ 4

-- bytes are moved from the front of the rest to the end of the text, if the text isn't too long then
abbrev pub IsMoved : ℕ → (text rest text' rest' : List ℕ) → Result Unit FrontFault → Type 0
IsMoved count text rest text' rest' (Ok done) =
    (text' ≡ text ++ take count rest) × (rest' ≡ drop count rest) × (length text + count ≤ most_input_bytes)
IsMoved count text rest text' rest' (Err TooLong) = most_input_bytes < length text + count
IsMoved count text rest text' rest' (Err (NoMemory _)) = Unit {0}
IsMoved count text rest text' rest' (Err _) = ⊥

-- some bytes were taken and appended to the rest
pub record AddsBytes (old new : Known) (rest rest' : List ℕ) : Type 0 where
  pub piece : List ℕ
  pub taken : Takes old new piece
  pub some : 0 < length piece
  pub added : rest' ≡ rest ++ piece

-- what a read adds to the rest, or what its end or its failure says after this many bytes of text
abbrev pub IsMore : (before now : ℕ) (old new : Known) (text : ℕ) (rest rest' : List ℕ) → Result Unit FrontFault → Type 0
IsMore before now old new text rest rest' (Ok done) = AddsBytes old new rest rest'
IsMore before now old new text rest rest' (Err TooLong) =
    (new ≡ old) × IsAtEnd old × (most_input_bytes < text + length rest)
IsMore before now old new text rest rest' (Err NoSeparator) =
    (new ≡ old) × IsAtEnd old × (text + length rest ≤ most_input_bytes)
IsMore before now old new text rest rest' (Err ReadFailed) = Rose before now × (new ≡ old)
IsMore before now old new text rest rest' (Err (NoMemory _)) = ⊥

-- how far the reading has come: the text is whole lines and the beginning of one, and what follows decides
pub record IsReading (source source' : Known) (text rest : List ℕ) (inside : Bool) : Type 0 where
  pub taken : Takes source source' (text ++ rest)
  pub whole : List ℕ
  pub line : List ℕ
  pub text_is : text ≡ whole ++ line
  pub inside_is : IsWithinLine inside line
  pub goes : (more : List ℕ) → divided (text ++ more) ≡ with_front whole (divided_from line more)

-- what the loop's result says, with the text and the bytes that are left in the rest
abbrev pub IsTextRead : Stream → List ℕ → List ℕ → Result ℕ FrontFault → Type 0
IsTextRead source text rest (Ok eaten) = IsDivided source text rest eaten
IsTextRead source text rest (Err fault) = IsFrontFault source fault
