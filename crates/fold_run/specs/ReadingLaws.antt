-- The result of reading an input, in words that name no order of reading.
use Rattle.std.specs.Prelude.{◌≡◌, ℕ, ◌≤◌, ◌⊎◌, Bool, true, false, not, Some, Ok, List, [], ◌∷◌, ◌++◌, length, map}
use Rattle.std.specs.List.{list_all}
use Rattle.ccp_base.specs.declared.ack.Ack.{Ack}
use Rattle.ccp_base.specs.declared.parts.Separator.TheVariants.{LineFeed}
use Rattle.ccp_base.specs.Limits.{most_acks}
use Rattle.ccp_base.specs.Parts.{parts_of, without_last}
use Rattle.fold_run.specs.AckLine.{AckLine, nothing, given, refused, read_ack_line}
use Rattle.fold_run.specs.Acknowledgements.{acks_of_lines}
use Rattle.fold_run.specs.Separated.{Cut, is_separator, cut_of}

abbrev pub is_other : List ℕ → Bool
is_other line = not (is_separator line)

-- a text is a program, a separator line and the rest, and no line of the program is a separator
pub record IsCutAt (text : List ℕ) (cut : Cut) : Type 0 where
  pub line : List ℕ
  pub separator : is_separator line ≡ true
  pub whole : (text ≡ cut.program ++ line ++ 10 ∷ cut.rest) ⊎ ((text ≡ cut.program ++ line) × (cut.rest ≡ []))
  pub others : list_all is_other (parts_of LineFeed cut.program) ≡ true

abbrev pub CutLaw : Type 0
CutLaw = (text : List ℕ) (cut : Cut) → cut_of text ≡ Some cut → IsCutAt text cut

-- what lines say, each without the CR at its end
abbrev pub said_by : List (List ℕ) → List AckLine
said_by lines = map (λ line. read_ack_line (without_last 13 line)) lines

abbrev pub is_accepted : AckLine → Bool
is_accepted nothing = true
is_accepted (given ack) = true
is_accepted refused = false

abbrev pub given_by : List AckLine → List Ack
given_by [] = []
given_by (nothing ∷ rest) = given_by rest
given_by (given ack ∷ rest) = ack ∷ given_by rest
given_by (refused ∷ rest) = given_by rest

-- no line is refused, and these are the acknowledgements of the lines, at most 65,536
pub record AreAcks (lines : List (List ℕ)) (acks : List Ack) : Type 0 where
  pub accepted : list_all is_accepted (said_by lines) ≡ true
  pub given : acks ≡ given_by (said_by lines)
  pub few : length acks ≤ most_acks

abbrev pub AcksLaw : Type 0
AcksLaw =
    (next : ℕ) (lines : List (List ℕ)) (acks : List Ack)
    → (acks_of_lines next lines ≡ Ok acks → AreAcks lines acks)
    × (AreAcks lines acks → acks_of_lines next lines ≡ Ok acks)
