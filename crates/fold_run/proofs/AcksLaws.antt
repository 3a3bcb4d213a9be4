-- That the acknowledgements of lines are those that the lines give.
use Rattle.std.proofs.Common.{◌≡◌, ℕ, ◌+◌, ◌≤◌, Bool, true, false, ◌&&◌, nat_lt, Ok, Err, List, [], ◌∷◌, ◌++◌, length, refl, ap, sym, subst, ◌∙◌, arith, cond, length-append, append-nil, append_assoc}
use Rattle.std.proofs.lemmas.Bool.Decides.{nat_tests}
use Rattle.std.specs.List.{list_all}
use Rattle.ccp_base.specs.declared.ack.Ack.{Ack}
use Rattle.ccp_base.specs.Limits.{most_acks}
use Rattle.ccp_base.specs.Parts.{without_last}
use Rattle.fold_run.specs.declared.acks.LineFault.TheVariants.{TooMany}
use Rattle.fold_run.specs.AckLine.{AckLine, nothing, given, refused, read_ack_line}
use Rattle.fold_run.specs.Acknowledgements.{with_line, with_lines}
use Rattle.fold_run.specs.ReadingLaws.{said_by, is_accepted, given_by, AcksLaw}

-- the acknowledgements before lines and those of the lines
record Said (before : List Ack) (lines : List (List ℕ)) (acks : List Ack) : Type 0 where
  accepted : list_all is_accepted (said_by lines) ≡ true
  whole : acks ≡ before ++ given_by (said_by lines)
  few : length acks ≤ most_acks

said : (number : ℕ) (before : List Ack) (lines : List (List ℕ)) (acks : List Ack) → length before ≤ most_acks → with_lines number (Ok before) lines ≡ Ok acks → Said before lines acks
said number before [] acks few is =
    let same : before ≡ acks = cc in
    record { accepted = refl; whole = sym same ∙ sym (append-nil before); few = subst (λ (xs : List Ack). length xs ≤ most_acks) same few }
said number before (line ∷ rest) acks few is =
    go (said (number + 1) before rest acks few) (λ (ack : Ack) fits. said (number + 1) (before ++ ack ∷ []) rest acks fits) (read_ack_line (without_last 13 line)) refl is
  where
    go : (with_lines (number + 1) (Ok before) rest ≡ Ok acks → Said before rest acks)
        → ((ack : Ack) → length (before ++ ack ∷ []) ≤ most_acks → with_lines (number + 1) (Ok (before ++ ack ∷ [])) rest ≡ Ok acks → Said (before ++ ack ∷ []) rest acks)
        → (told : AckLine) → read_ack_line (without_last 13 line) ≡ told → with_lines (number + 1) (with_line number before told) rest ≡ Ok acks → Said before (line ∷ rest) acks
    go passed more nothing told is =
        let later = passed is in
        record {
          accepted = ap (λ x. is_accepted x && list_all is_accepted (said_by rest)) told ∙ later.accepted;
          whole = later.whole ∙ sym (ap (λ x. before ++ given_by (x ∷ said_by rest)) told);
          few = later.few;
        }
    go passed more refused told is = cc
    go passed more (given ack) told is = fits (nat_lt (length before) most_acks) refl is
      where
        fits : (within : Bool) → nat_lt (length before) most_acks ≡ within → with_lines (number + 1) (cond within (Ok (before ++ ack ∷ [])) (Err TooMany)) rest ≡ Ok acks → Said before (line ∷ rest) acks
        fits false within is = cc
        fits true within is =
            let count = length-append before (ack ∷ []) in
            let room : length (before ++ ack ∷ []) ≤ most_acks = grind (arith, nat_tests, count, within) in
            let later = more ack room is in
            record {
              accepted = ap (λ x. is_accepted x && list_all is_accepted (said_by rest)) told ∙ later.accepted;
              whole = later.whole ∙ append_assoc before (ack ∷ []) (given_by (said_by rest)) ∙ sym (ap (λ x. before ++ given_by (x ∷ said_by rest)) told);
              few = later.few;
            }

read : (number : ℕ) (before : List Ack) (lines : List (List ℕ)) → list_all is_accepted (said_by lines) ≡ true → length (before ++ given_by (said_by lines)) ≤ most_acks → with_lines number (Ok before) lines ≡ Ok (before ++ given_by (said_by lines))
read number before [] accepted few = ap Ok (sym (append-nil before))
read number before (line ∷ rest) accepted few =
    go (read (number + 1) before rest) (λ (ack : Ack). read (number + 1) (before ++ ack ∷ []) rest) (read_ack_line (without_last 13 line)) refl accepted few
  where
    go : (list_all is_accepted (said_by rest) ≡ true → length (before ++ given_by (said_by rest)) ≤ most_acks → with_lines (number + 1) (Ok before) rest ≡ Ok (before ++ given_by (said_by rest)))
        → ((ack : Ack) → list_all is_accepted (said_by rest) ≡ true → length ((before ++ ack ∷ []) ++ given_by (said_by rest)) ≤ most_acks → with_lines (number + 1) (Ok (before ++ ack ∷ [])) rest ≡ Ok ((before ++ ack ∷ []) ++ given_by (said_by rest)))
        → (told : AckLine) → read_ack_line (without_last 13 line) ≡ told → (is_accepted (read_ack_line (without_last 13 line)) && list_all is_accepted (said_by rest)) ≡ true
        → length (before ++ given_by (read_ack_line (without_last 13 line) ∷ said_by rest)) ≤ most_acks
        → with_lines number (Ok before) (line ∷ rest) ≡ Ok (before ++ given_by (read_ack_line (without_last 13 line) ∷ said_by rest))
    go passed more nothing told accepted few =
        let others : list_all is_accepted (said_by rest) ≡ true = sym (ap (λ x. is_accepted x && list_all is_accepted (said_by rest)) told) ∙ accepted in
        let room : length (before ++ given_by (said_by rest)) ≤ most_acks = subst (λ (x : AckLine). length (before ++ given_by (x ∷ said_by rest)) ≤ most_acks) told few in
        ap (λ x. with_lines (number + 1) (with_line number before x) rest) told ∙ passed others room ∙ sym (ap (λ x. Ok (before ++ given_by (x ∷ said_by rest))) told)
    go passed more refused told accepted few =
        let bad : false ≡ true = sym (ap (λ x. is_accepted x && list_all is_accepted (said_by rest)) told) ∙ accepted in cc
    go passed more (given ack) told accepted few =
        let others : list_all is_accepted (said_by rest) ≡ true = sym (ap (λ x. is_accepted x && list_all is_accepted (said_by rest)) told) ∙ accepted in
        let room : length (before ++ ack ∷ given_by (said_by rest)) ≤ most_acks = subst (λ (x : AckLine). length (before ++ given_by (x ∷ said_by rest)) ≤ most_acks) told few in
        let joined = append_assoc before (ack ∷ []) (given_by (said_by rest)) in
        let count = length-append before (ack ∷ given_by (said_by rest)) in
        let within : nat_lt (length before) most_acks ≡ true = grind (arith, nat_tests, count, room) in
        ap (λ x. with_lines (number + 1) (with_line number before x) rest) told
        ∙ ap (λ b. with_lines (number + 1) (cond b (Ok (before ++ ack ∷ [])) (Err TooMany)) rest) within
        ∙ more ack others (subst (λ (xs : List Ack). length xs ≤ most_acks) (sym joined) room)
        ∙ ap Ok joined
        ∙ sym (ap (λ x. Ok (before ++ given_by (x ∷ said_by rest))) told)

pub acks-law : AcksLaw
acks-law next lines acks = (
  (λ is. let s = said next [] lines acks (omega arith) is in record { accepted = s.accepted; given = s.whole; few = s.few }),
  (λ are. read next [] lines are.accepted (subst (λ (xs : List Ack). length xs ≤ most_acks) are.given are.few) ∙ sym (ap Ok are.given)),
)
