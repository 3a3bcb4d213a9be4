-- A reading that counts its acknowledgements ends as one that keeps them.
use Rattle.std.proofs.Common.{◌≡◌, ◌≢◌, ℕ, ◌+◌, Bool, true, false, nat_lt, Result, Ok, Err, List, [], ◌∷◌, ◌++◌, length, refl, ap, sym, ◌∙◌, cond, length-append}
use Rattle.ccp_base.specs.Outside.{no_memory}
use Rattle.ccp_base.specs.declared.ack.Ack.{Ack}
use Rattle.ccp_base.specs.Limits.{most_acks}
use Rattle.ccp_base.specs.Parts.{without_last}
use Rattle.fold_run.specs.declared.acks.LineFault.{LineFault}
use Rattle.fold_run.specs.declared.acks.LineFault.TheVariants.{TooMany, NoMemory}
use Rattle.fold_run.specs.AckLine.{AckLine, nothing, given, refused, read_ack_line}
use Rattle.fold_run.specs.Acknowledgements.{with_line, with_lines, acks_of_lines}
use Rattle.fold_run.specs.LineCount.{counted_line, counted_lines, fault_counted}

abbrev counted : Result (List Ack) LineFault → Result ℕ LineFault
counted (Ok acks) = Ok (length acks)
counted (Err fault) = Err fault

same_given : (within : Bool) (acks : List Ack) (ack : Ack) → cond within (Ok (length acks + 1)) (Err TooMany) ≡ counted (cond within (Ok (acks ++ ack ∷ [])) (Err TooMany))
same_given true acks ack = ap Ok (sym (length-append acks (ack ∷ [])))
same_given false acks ack = refl

same_line : (number : ℕ) (acks : List Ack) (told : AckLine) → counted_line number (length acks) told ≡ counted (with_line number acks told)
same_line number acks nothing = refl
same_line number acks refused = refl
same_line number acks (given ack) = same_given (nat_lt (length acks) most_acks) acks ack

same_lines : (number : ℕ) (came : Result (List Ack) LineFault) (lines : List (List ℕ)) → counted_lines number (counted came) lines ≡ counted (with_lines number came lines)
same_lines number (Err fault) lines = refl
same_lines number (Ok acks) [] = refl
same_lines number (Ok acks) (line ∷ rest) =
    let told = read_ack_line (without_last 13 line) in
    ap (λ came. counted_lines (number + 1) came rest) (same_line number acks told) ∙ same_lines (number + 1) (with_line number acks told) rest

fault_from : (came : Result (List Ack) LineFault) (fault : LineFault) → fault ≡ fault_counted (counted came) → fault ≢ NoMemory no_memory → came ≡ Err fault
fault_from (Ok acks) fault is other = absurd (other is)
fault_from (Err e) fault is other = ap Err (sym is)

-- the fault of a count is that of the lines
pub counted-err : (next : ℕ) (lines : List (List ℕ)) (fault : LineFault) → fault ≡ fault_counted (counted_lines next (Ok 0) lines) → fault ≢ NoMemory no_memory → acks_of_lines next lines ≡ Err fault
counted-err next lines fault is other = fault_from (acks_of_lines next lines) fault (is ∙ ap fault_counted (same_lines next (Ok []) lines)) other

pub counted-first : (next : ℕ) (lines : List (List ℕ)) (fault : LineFault) → fault ≡ fault_counted (counted_lines next (Ok 0) lines) → (e : LineFault) → acks_of_lines next lines ≡ Err e → fault ≡ e
counted-first next lines fault is e h = is ∙ ap fault_counted (same_lines next (Ok []) lines ∙ ap counted h)
