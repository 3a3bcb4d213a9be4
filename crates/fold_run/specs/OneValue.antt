-- The words of private contracts: one more acknowledgement, and a line that gives one value alone.
use Rattle.std.specs.Prelude.{◌≡◌, ℕ, ◌<◌, nat_lt, if◌then◌else◌, Result, Ok, Err, List, [], ◌∷◌, ◌++◌, length, replicate, slice_set}
use Rattle.ccp_base.specs.declared.ack.Ack.{Ack}
use Rattle.ccp_base.specs.declared.parts.Separator.TheVariants.{LineFeed}
use Rattle.ccp_base.specs.Acknowledgement.{ack_of}
use Rattle.ccp_base.specs.Limits.{most_acks, primitive_count}
use Rattle.ccp_base.specs.Parts.{without_last}
use Rattle.fold_run.specs.declared.acks.LineFault.{LineFault}
use Rattle.fold_run.specs.declared.acks.LineFault.TheVariants.{TooMany}
use Rattle.fold_run.specs.AckLine.{given, read_ack_line}
use Rattle.fold_run.specs.FirstPart.{first_of, after_separator}

-- the acknowledgements with one more
abbrev pub with_ack : List Ack → Ack → Result (List Ack) LineFault
with_ack acks ack = if nat_lt (length acks) most_acks then Ok (acks ++ ack ∷ []) else Err TooMany

-- the acknowledgement with this value for the primitive of this number, and 0 for the others
abbrev pub ack_with : ℕ → ℕ → Ack
ack_with number value = ack_of (slice_set (replicate primitive_count 0) number value)

-- the first line of a text gives the primitive of this number this value, and no other one a value; this follows it
pub record GivesOne (text : List ℕ) (number value : ℕ) (rest : List ℕ) : Type 0 where
  pub said : read_ack_line (without_last 13 (first_of LineFeed text)) ≡ given (ack_with number value)
  pub after : rest ≡ after_separator LineFeed text
  pub shorter : length rest < length text
