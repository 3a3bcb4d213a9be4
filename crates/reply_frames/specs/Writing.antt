-- Bytes that are written into others.
use Rattle.std.specs.Prelude.{◌≡◌, ℕ, ◌+◌, List, ◌++◌, length, take, drop}

-- the bytes `old` with `bytes` written over them from a place on; those before and after stay
abbrev pub placed : ℕ → List ℕ → List ℕ → List ℕ
placed at bytes old = take at old ++ bytes ++ drop (at + length bytes) old

-- bytes written over the front; those after them stay
abbrev pub over : List ℕ → List ℕ → List ℕ
over bytes old = bytes ++ drop (length bytes) old

-- these bytes were written at the front, and the answer is their number
abbrev pub WroteFront : ℕ → List ℕ → List ℕ → List ℕ → ℕ → Type 0
WroteFront count bytes old out answer = (answer ≡ count) × (out ≡ over bytes old)

-- bytes were written from a place on, up to this end
pub record Wrote (at : ℕ) (bytes old out : List ℕ) (end : ℕ) : Type 0 where
  pub is : out ≡ placed at bytes old
  pub end_is : end ≡ at + length bytes
