-- The letters of tickets as a flow's part of the text shows them, read off its lines.
use Rattle.std.specs.Prelude.{ℕ, Option, Some, None, if◌then◌else◌, List, [], ◌∷◌, ◌++◌, length, drop, codes, nat_eq}
use Rattle.std.specs.List.{starts_with}
use Rattle.ccp_base.specs.declared.parts.Separator.TheVariants.{LineFeed, Blank}
use Rattle.ccp_base.specs.Numerals.{numeral_of}
use Rattle.ccp_base.specs.Parts.{parts_of}
use Rattle.flow_core.specs.declared.book.TicketLine.{TicketLine}
use Rattle.flow_core.specs.declared.letter.Letter.TheVariants.{T, C}
use Rattle.run_audit.specs.declared.mark.Mark.{Mark}

-- ---- of tickets

-- a ticket was taken after one number of acknowledgements and answered after another
abbrev pub marks_at : ℕ → ℕ → List Mark
marks_at taken answered = record { at = taken; letter = T } ∷ record { at = answered; letter = C } ∷ []

abbrev pub ticket_marks : List TicketLine → List Mark
ticket_marks [] = []
ticket_marks (ticket ∷ rest) = marks_at ticket.taken ticket.answered ++ ticket_marks rest

-- ---- of lines

-- what follows the first place at which a line has this name
abbrev pub past : List ℕ → List ℕ → Option (List ℕ)
past name [] = None
past name (byte ∷ rest) =
    if starts_with nat_eq (byte ∷ rest) name then Some (drop (length name) (byte ∷ rest)) else past name rest

abbrev pub first_number : List (List ℕ) → Option ℕ
first_number [] = None
first_number (word ∷ rest) = numeral_of word

-- the number that the first word of a text is
abbrev pub marked_number : Option (List ℕ) → Option ℕ
marked_number None = None
marked_number (Some text) = first_number (parts_of Blank text)

-- the number that a line has by this name
abbrev pub number_by : List ℕ → List ℕ → Option ℕ
number_by name line = marked_number (past name line)

abbrev pub marks_if : Option ℕ → Option ℕ → List Mark
marks_if (Some taken) (Some answered) = marks_at taken answered
marks_if (Some taken) None = []
marks_if None answered = []

-- if a line says when a ticket was taken and answered, these two
abbrev pub marks_in : List ℕ → List Mark
marks_in line = marks_if (number_by (codes "taken=") line) (number_by (codes "answered=") line)

-- those of all lines before the first one that begins with `end `
abbrev pub marks_of_lines : List (List ℕ) → List Mark
marks_of_lines [] = []
marks_of_lines (line ∷ rest) =
    if starts_with nat_eq line (codes "end ") then [] else marks_in line ++ marks_of_lines rest

abbrev pub text_marks : List ℕ → List Mark
text_marks text = marks_of_lines (parts_of LineFeed text)
