-- The bytes of an input that no frame has taken yet, and what a read adds to them.
use Rattle.std.specs.Prelude.{◌≡◌, ℕ, ◌-◌, ◌<◌, ◌≤◌, List, ◌++◌, length, take, drop}
use Rattle.ccp_base.specs.Outside.{Known, Rose, Takes, IsAtEnd}
use Rattle.feed_core.specs.declared.piece.Piece.{Piece}
use Rattle.feed_core.specs.declared.piece.Piece.TheVariants.{Bytes, End, Further, Failed}

-- the bytes from the start up to the end
abbrev pub between : List ℕ → ℕ → ℕ → List ℕ
between bytes start end = take (end - start) (drop start bytes)

-- some bytes were taken, within the room, and appended to those before
pub record AddsPiece (old new : Known) (room : ℕ) (rest rest' : List ℕ) (count : ℕ) : Type 0 where
  pub piece : List ℕ
  pub taken : Takes old new piece
  pub long : length piece ≡ count
  pub some : 0 < count
  pub within : count ≤ room
  pub added : rest' ≡ rest ++ piece

-- there was no more room, and the source had a further byte, which was taken
pub record HasFurther (old new : Known) (room : ℕ) : Type 0 where
  pub piece : List ℕ
  pub taken : Takes old new piece
  pub one : length piece ≡ 1
  pub none : room ≡ 0

abbrev pub IsPiece : (before now : ℕ) (old new : Known) (room : ℕ) (rest rest' : List ℕ) → Piece → Type 0
IsPiece before now old new room rest rest' (Bytes count) = AddsPiece old new room rest rest' count
IsPiece before now old new room rest rest' End = (new ≡ old) × IsAtEnd old
IsPiece before now old new room rest rest' Further = HasFurther old new room
IsPiece before now old new room rest rest' Failed = Rose before now × (new ≡ old)
