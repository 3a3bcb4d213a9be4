-- A text after some of its lines, and the search for a separator among them.
use Rattle.std.proofs.Common.{◌≡◌, ℕ, zero, suc, ◌+◌, ◌-◌, ◌<◌, true, false, Some, None, List, ◌∷◌, length, take, position, nat_lt, not, cond, refl, ap, sym, ◌∙◌, arith, add-one}
use Rattle.std.proofs.lemmas.Bool.Decides.{nat_tests}
use Rattle.std.specs.List.{position_or_len}
use Rattle.std.specs.Prelude.{option_map}
use Rattle.ccp_base.specs.declared.parts.Separator.TheVariants.{LineFeed}
use Rattle.ccp_base.specs.Parts.{parts_of}
use Rattle.fold_run.specs.FirstPart.{after_separator}
use Rattle.fold_run.specs.Separated.{is_separator, after_lines, cut_at, cut_of}

-- one more line
pub after_lines-next : (n : ℕ) (text : List ℕ) → after_lines (n + 1) text ≡ after_separator LineFeed (after_lines n text)
after_lines-next n text = ap (λ k. after_lines k text) (add-one n) ∙ go n text
  where
    go : (n : ℕ) (text : List ℕ) → after_lines (suc n) text ≡ after_separator LineFeed (after_lines n text)
    go zero text = refl
    go (suc n) text = go n (after_separator LineFeed text)

-- the line at the front is skipped
pub past-line : (line : List ℕ) (lines : List (List ℕ)) → is_separator line ≡ false → position_or_len is_separator (line ∷ lines) ≡ 1 + position_or_len is_separator lines
past-line line lines other = ap (λ b. cond (not b) (1 + position_or_len is_separator lines) 0) other

pub at-line : (line : List ℕ) (lines : List (List ℕ)) → is_separator line ≡ true → position_or_len is_separator (line ∷ lines) ≡ 0
at-line line lines is = ap (λ b. cond (not b) (1 + position_or_len is_separator lines) 0) is

found : (text : List ℕ) (n : ℕ) → position_or_len is_separator (parts_of LineFeed text) ≡ n → n < length (parts_of LineFeed text) → position is_separator (parts_of LineFeed text) ≡ Some n
found text n is within =
    let test : nat_lt (position_or_len is_separator (parts_of LineFeed text)) (length (parts_of LineFeed text)) ≡ true = grind (arith, nat_tests) in
    ap (λ b. cond b (Some (position_or_len is_separator (parts_of LineFeed text))) None) test ∙ ap (λ k. Some k) is

-- the cut at the first separator
pub cut-found : (text left rest : List ℕ) (n : ℕ) → position_or_len is_separator (parts_of LineFeed text) ≡ n → n < length (parts_of LineFeed text) → left ≡ after_lines n text → rest ≡ after_separator LineFeed left
    → cut_of text ≡ Some (record { program = take (length text - length left) text; rest = rest; next = n + 2 })
cut-found text left rest n is within here after =
    ap (option_map (cut_at text)) (found text n is within)
    ∙ λ i. Some (record {
      program = take (length text - length (sym here i)) text;
      rest = (after_lines-next n text ∙ ap (after_separator LineFeed) (sym here) ∙ sym after) i;
      next = n + 2;
    })
