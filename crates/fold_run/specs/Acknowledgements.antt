-- The acknowledgements of the lines below the separator.
use Rattle.std.specs.Prelude.{ℕ, ◌+◌, nat_lt, if◌then◌else◌, Result, Ok, Err, List, [], ◌∷◌, ◌++◌, length}
use Rattle.ccp_base.specs.declared.ack.Ack.{Ack}
use Rattle.ccp_base.specs.Limits.{most_acks}
use Rattle.ccp_base.specs.Parts.{without_last}
use Rattle.fold_run.specs.declared.acks.LineFault.{LineFault}
use Rattle.fold_run.specs.declared.acks.LineFault.TheVariants.{Line, TooMany}
use Rattle.fold_run.specs.AckLine.{AckLine, nothing, given, refused, read_ack_line}

-- the acknowledgements with what the line of this number says, or why there are none
abbrev pub with_line : ℕ → List Ack → AckLine → Result (List Ack) LineFault
with_line number acks nothing = Ok acks
with_line number acks refused = Err (Line number)
with_line number acks (given ack) = if nat_lt (length acks) most_acks then Ok (acks ++ ack ∷ []) else Err TooMany

-- the same with each of the lines, numbered from this number on
abbrev pub with_lines : ℕ → Result (List Ack) LineFault → List (List ℕ) → Result (List Ack) LineFault
with_lines number (Err fault) lines = Err fault
with_lines number (Ok acks) [] = Ok acks
with_lines number (Ok acks) (line ∷ rest) =
    with_lines (number + 1) (with_line number acks (read_ack_line (without_last 13 line))) rest

-- the acknowledgements of lines of which the first has this number, or the first fault among them
abbrev pub acks_of_lines : ℕ → List (List ℕ) → Result (List Ack) LineFault
acks_of_lines next lines = with_lines next (Ok []) lines
