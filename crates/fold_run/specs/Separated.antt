-- A text that is cut in two at its first line `---`.
use Rattle.std.specs.Prelude.{ℕ, zero, suc, ◌+◌, ◌-◌, Bool, Option, List, length, take, position, option_map, codes}
use Rattle.std.specs.Str.{bytes_eq}
use Rattle.ccp_base.specs.declared.parts.Separator.TheVariants.{LineFeed}
use Rattle.ccp_base.specs.Parts.{parts_of, without_last}
use Rattle.fold_run.specs.FirstPart.{after_separator}
use Rattle.fold_run.specs.declared.separated.Separated.{Separated}

-- the bytes before a line, the bytes after it, and the number in the whole text, counted from 1, of the first line
-- after it
pub record Cut : Type 0 where
  pub program : List ℕ
  pub rest : List ℕ
  pub next : ℕ

-- `---`, with or without a CR at its end
abbrev pub is_separator : List ℕ → Bool
is_separator line = bytes_eq (without_last 13 line) (codes "---")

-- the text after its first `n` lines
abbrev pub after_lines : ℕ → List ℕ → List ℕ
after_lines zero text = text
after_lines (suc n) text = after_lines n (after_separator LineFeed text)

-- the cut at the line with this number, counted from 0
abbrev pub cut_at : List ℕ → ℕ → Cut
cut_at text n = record {
  program = take (length text - length (after_lines n text)) text;
  rest = after_lines (n + 1) text;
  next = n + 2;
}

-- the cut of a text at its first separator
abbrev pub cut_of : List ℕ → Option Cut
cut_of text = option_map (cut_at text) (position is_separator (parts_of LineFeed text))

-- the cut that a separated text is
abbrev pub cut_as : Separated → Cut
cut_as s = record { program = s.program.now; rest = s.rest.now; next = s.next }
