-- Reading parts of a frame from the front of bytes, with the first byte that can't stand there.
use Rattle.std.specs.Prelude.{ℕ, zero, suc, ◌+◌, ◌-◌, ◌*◌, ◌/◌, ◌%◌, ◌&&◌, ◌≡◌, nat_lt, nat_le, List, [], ◌∷◌, length, take, drop, Result, Ok, Err, if◌then◌else◌}
use Rattle.std.specs.Int.{Width, byte_len, from_le_bytes}
use Rattle.reply_frames.specs.declared.fault.BadKind.{BadKind}
use Rattle.reply_frames.specs.declared.fault.Stop.{Stop}
use Rattle.reply_frames.specs.declared.fault.Stop.TheVariants.{Cut, Bad}

-- a part that was read and the bytes after it, or where reading stopped
abbrev pub Read : Type 0 → Type 0
Read A = Result (A × List ℕ) Stop

infixl 10 ◌>>=◌
abbrev pub ◌>>=◌ : {A B : Type 0} → Result A Stop → (A → Result B Stop) → Result B Stop
(Ok x) >>= next = next x
(Err stop) >>= next = Err stop

-- the bytes after a part alone
abbrev pub passed : {A : Type 0} → Read A → Result (List ℕ) Stop
passed (Ok x) = Ok x.1
passed (Err stop) = Err stop

-- what a function returned, by `view`, is what reading gives
abbrev pub Gives : {X Y : Type 0} → (X → Y) → Result X Stop → Result Y Stop → Type 0
Gives view (Ok x) read = read ≡ Ok (view x)
Gives view (Err stop) read = read ≡ Err stop

-- a byte between two bounds
abbrev pub byte_at : BadKind → ℕ → ℕ → List ℕ → Read ℕ
byte_at field least most [] = Err Cut
byte_at field least most (byte ∷ rest) =
    if nat_le least byte && nat_le byte most then Ok (byte, rest) else Err (Bad field (length (byte ∷ rest)))

-- a number of any value
abbrev pub number_at : Width → List ℕ → Read ℕ
number_at w bytes =
    if nat_lt (length bytes) (byte_len w) then Err Cut
    else Ok (from_le_bytes w (take (byte_len w) bytes), drop (byte_len w) bytes)

-- a number of `width` bytes that is at most `most`: a byte is bad if every completion is above `most`
unfoldable pub limited_at : BadKind → ℕ → ℕ → List ℕ → Read ℕ
limited_at field zero most bytes = Ok (0, bytes)
limited_at field (suc width) most bytes = do
  low ← byte_at field 0 most bytes
  high ← limited_at field width ((most - low.0) / 256) low.1
  Ok (low.0 + 256 * high.0, high.1)

-- only this number, in `width` bytes
unfoldable pub exactly_at : BadKind → ℕ → ℕ → List ℕ → Read ℕ
exactly_at field zero number bytes = Ok (0, bytes)
exactly_at field (suc width) number bytes = do
  low ← byte_at field (number % 256) (number % 256) bytes
  high ← exactly_at field width (number / 256) low.1
  Ok (low.0 + 256 * high.0, high.1)

-- `count` parts of one form
unfoldable pub repeated_at : {A : Type 0} → (List ℕ → Read A) → ℕ → List ℕ → Read (List A)
repeated_at part zero bytes = Ok ([], bytes)
repeated_at part (suc count) bytes = do
  first ← part bytes
  others ← repeated_at part count first.1
  Ok (first.0 ∷ others.0, others.1)
