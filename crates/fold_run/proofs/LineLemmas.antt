-- What a line says, by whether its first byte is a blank.
use Rattle.std.proofs.Common.{◌≡◌, Bool, true, false, not, ◌&&◌, ◌||◌, cond, ℕ, List, [], ◌∷◌, Some, refl}
use Rattle.std.specs.List.{list_all}
use Rattle.ccp_base.specs.declared.parts.Separator.TheVariants.{Blank}
use Rattle.ccp_base.specs.Parts.{separates, parts_of}
use Rattle.fold_run.specs.AckLine.{AckLine, nothing, refused, with_each_word, no_values, given_or_refused, begins_word, ends_blank, read_ack_line}

word-first : (blank all ends : Bool) (rest : AckLine) → not blank ≡ true → cond (blank && all) nothing (cond (blank || ends) refused rest) ≡ cond ends refused rest
word-first true all ends rest is = cc
word-first false all ends rest is = refl

blank-first : (blank all ends : Bool) (rest : AckLine) → not blank ≡ false → cond (blank && all) nothing (cond (blank || ends) refused rest) ≡ cond (blank && all) nothing refused
blank-first true all ends rest is = refl
blank-first false all ends rest is = cc

pub line_begun : (line : List ℕ) → begins_word line ≡ true → read_ack_line line ≡ cond (ends_blank line) refused (given_or_refused (with_each_word (Some no_values) (parts_of Blank line)))
line_begun [] is = cc
line_begun (byte ∷ rest) is =
    word-first (separates Blank byte) (list_all (separates Blank) rest) (ends_blank (byte ∷ rest)) (given_or_refused (with_each_word (Some no_values) (parts_of Blank (byte ∷ rest)))) is

pub line_unbegun : (line : List ℕ) → begins_word line ≡ false → read_ack_line line ≡ cond (list_all (separates Blank) line) nothing refused
line_unbegun [] is = refl
line_unbegun (byte ∷ rest) is =
    blank-first (separates Blank byte) (list_all (separates Blank) rest) (ends_blank (byte ∷ rest)) (given_or_refused (with_each_word (Some no_values) (parts_of Blank (byte ∷ rest)))) is
