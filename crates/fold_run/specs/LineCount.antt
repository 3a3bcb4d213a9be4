-- The words of private contracts: what a reading finds that only counts its acknowledgements.
use Rattle.std.specs.Prelude.{ℕ, ◌+◌, nat_lt, if◌then◌else◌, Result, Ok, Err, List, [], ◌∷◌}
use Rattle.ccp_base.specs.Outside.{no_memory}
use Rattle.ccp_base.specs.Limits.{most_acks}
use Rattle.ccp_base.specs.Parts.{without_last}
use Rattle.fold_run.specs.declared.acks.LineFault.{LineFault}
use Rattle.fold_run.specs.declared.acks.LineFault.TheVariants.{Line, TooMany, NoMemory}
use Rattle.fold_run.specs.AckLine.{AckLine, nothing, given, refused, read_ack_line}

-- the count with what the line of this number says, or why there is none
abbrev pub counted_line : ℕ → ℕ → AckLine → Result ℕ LineFault
counted_line number count nothing = Ok count
counted_line number count refused = Err (Line number)
counted_line number count (given ack) = if nat_lt count most_acks then Ok (count + 1) else Err TooMany

-- the same with each of the lines, numbered from this number on
abbrev pub counted_lines : ℕ → Result ℕ LineFault → List (List ℕ) → Result ℕ LineFault
counted_lines number (Err fault) lines = Err fault
counted_lines number (Ok count) [] = Ok count
counted_lines number (Ok count) (line ∷ rest) =
    counted_lines (number + 1) (counted_line number count (read_ack_line (without_last 13 line))) rest

-- the fault of a count, and out of memory if there is none
abbrev pub fault_counted : Result ℕ LineFault → LineFault
fault_counted (Ok count) = NoMemory no_memory
fault_counted (Err fault) = fault
