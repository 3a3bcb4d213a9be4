-- What makes the reading of a part sound: a part that is read is determined by its bytes alone, bytes that are cut can be
-- completed, and a byte that is bad ends the longest front that can be completed.
use Rattle.std.specs.Prelude.{◌≡◌, ℕ, List, [], ◌∷◌, ◌++◌, length, Ok, Err}
use Rattle.reply_frames.specs.declared.fault.BadKind.{BadKind}
use Rattle.reply_frames.specs.declared.fault.Stop.TheVariants.{Cut, Bad}
use Rattle.reply_frames.specs.Parts.{Read}
use Rattle.reply_frames.specs.Whole.{AreBytes}

-- the bytes begin with a front that is read so, whatever follows it
pub record Takes {A : Type 0} (part : List ℕ → Read A) (bytes : List ℕ) (value : A) (rest : List ℕ) : Type 0 where
  pub front : List ℕ
  pub parts : bytes ≡ front ++ rest
  pub again : (other : List ℕ) → part (front ++ other) ≡ Ok (value, other)

-- with further bytes they are one whole part
pub record Completes {A : Type 0} (part : List ℕ → Read A) (bytes : List ℕ) : Type 0 where
  pub more : List ℕ
  pub are_bytes : AreBytes more
  pub value : A
  pub whole : part (bytes ++ more) ≡ Ok (value, [])

-- the front before the bad byte can be completed, and with the bad byte it can't
pub record Refuses {A : Type 0} (part : List ℕ → Read A) (bytes : List ℕ) (field : BadKind) (left : ℕ) : Type 0 where
  pub front : List ℕ
  pub byte : ℕ
  pub after : List ℕ
  pub parts : bytes ≡ front ++ byte ∷ after
  pub left_is : left ≡ length (byte ∷ after)
  pub cut : part front ≡ Err Cut
  pub again : (other : List ℕ) → part (front ++ byte ∷ other) ≡ Err (Bad field (length (byte ∷ other)))

pub record IsExact {A : Type 0} (part : List ℕ → Read A) : Type 0 where
  pub taken : (bytes : List ℕ) (value : A) (rest : List ℕ) → part bytes ≡ Ok (value, rest) → Takes part bytes value rest
  pub cut : (bytes : List ℕ) → part bytes ≡ Err Cut → Completes part bytes
  pub bad : (bytes : List ℕ) (field : BadKind) (left : ℕ) → part bytes ≡ Err (Bad field left) → Refuses part bytes field left
