-- A flow comes nearer to the end of its word, letter by letter.
use Rattle.std.specs.Prelude.{◌≡◌, ◌<◌, Bool, true, false, is_some}
use Rattle.flow_core.specs.declared.letter.Letter.{Letter}
use Rattle.flow_core.specs.declared.letter.Letter.TheVariants as letters
use Rattle.flow_core.specs.Words.{can_take}
use Rattle.flow_core.specs.Cells.{CellState, world_at, with_letter}
use Rattle.flow_core.specs.LettersLeft.{left_at}

-- the same flow, of whose word fewer letters are left
pub record IsNearer (old new : CellState) : Type 0 where
  pub case : new.case ≡ old.case
  pub fewer : left_at new < left_at old

-- the next letter, by whether a ticket is out and whether something can be taken
abbrev pub next_letter : Bool → Bool → Letter
next_letter true can = letters.C
next_letter false true = letters.T
next_letter false false = letters.A

-- the letter that the caller makes next: the answer to the ticket that is out, else a taking if something can be
-- taken, else an acknowledgement
abbrev pub next_at : CellState → Letter
next_at cell = next_letter (is_some (world_at cell).out) (can_take (world_at cell))

-- the flow has got the letter that the caller makes next
abbrev pub HasNext : CellState → CellState → Type 0
HasNext old new = new ≡ with_letter (next_at old) old
