-- Whole frames, and bytes that are cut or bad.
use Rattle.std.specs.Prelude.{◌≡◌, ◌≢◌, ℕ, ◌+◌, ◌-◌, ◌<◌, List, [], ◌++◌, length, take, Ok, Err}
use Rattle.std.specs.List.{AllByRecursion}
use Rattle.reply_frames.specs.declared.fault.BadKind.{BadKind}
use Rattle.reply_frames.specs.declared.fault.Stop.TheVariants.{Bad}
use Rattle.reply_frames.specs.Frames.{Frame, frame_at}

abbrev pub AreBytes : List ℕ → Type 0
AreBytes bytes = AllByRecursion (λ byte. byte < 256) bytes

-- these are one whole frame
pub record IsFrame (bytes : List ℕ) : Type 0 where
  pub frame : Frame
  pub whole : frame_at bytes ≡ Ok (frame, [])

-- they are a proper prefix of a frame
pub record IsFrameFront (bytes : List ℕ) : Type 0 where
  pub more : List ℕ
  pub are_bytes : AreBytes more
  pub some : more ≢ []
  pub frame : IsFrame (bytes ++ more)

-- the bytes before this place are a proper prefix of a frame, and no frame begins with one byte more
pub record IsBadFrom (bytes : List ℕ) (place : ℕ) : Type 0 where
  pub within : place < length bytes
  pub cut : IsFrameFront (take place bytes)
  pub none : (more : List ℕ) → ¬ IsFrame (take (place + 1) bytes ++ more)

-- the same, and the byte at this place belongs to this field
abbrev pub IsBadIn : List ℕ → BadKind → ℕ → Type 0
IsBadIn bytes field place = IsBadFrom bytes place × (frame_at bytes ≡ Err (Bad field (length bytes - place)))

-- the bytes begin with this whole frame
pub record BeginsWithFrame (bytes : List ℕ) (frame : Frame) : Type 0 where
  pub front : List ℕ
  pub rest : List ℕ
  pub parts : bytes ≡ front ++ rest
  pub whole : frame_at front ≡ Ok (frame, [])
