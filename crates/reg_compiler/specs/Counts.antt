-- How many instructions a program may have: its count, and its lean count.
use Rattle.std.specs.Prelude.{ℕ, ◌+◌, max, Option, Some, None, List, [], ◌∷◌}
use Rattle.portus_core.specs.Programs.{Term, number, truth, name, pair, Action, set, set_if, set_unless, ewma, zero_micros, report, fall, Part, Form}
use Rattle.reg_compiler.specs.Known.{known_value}

-- each operation counts one
abbrev pub term_count : Term → ℕ
term_count (number n) = 0
term_count (truth b) = 0
term_count (name v) = 0
term_count (pair op place left right) = 1 + (term_count left + term_count right)

abbrev pub action_count : Action → ℕ
action_count (set v term) = 1 + term_count term
action_count (set_if place v condition term) = 1 + (term_count condition + term_count term)
action_count (set_unless place v condition term) = 1 + (term_count condition + term_count term)
action_count (ewma place v weight term) = 1 + term_count term
action_count zero_micros = 1
action_count report = 1
action_count fall = 1

abbrev pub body_count : List Action → ℕ
body_count [] = 0
body_count (action ∷ rest) = action_count action + body_count rest

abbrev pub parts_count : List Part → ℕ
parts_count [] = 0
parts_count (part ∷ rest) = (1 + term_count part.condition) + (body_count part.body + parts_count rest)

-- the count of a program
abbrev pub form_count : Form → ℕ
form_count form = parts_count form.blocks

-- a known expression counts nothing
abbrev pub lean_where : Option ℕ → ℕ → ℕ
lean_where (Some value) lean = 0
lean_where None lean = lean

-- each operation counts one, except those of known expressions
abbrev pub lean_of : Term → ℕ
lean_of (number n) = 0
lean_of (truth b) = 0
lean_of (name v) = 0
lean_of (pair op place left right) =
    lean_where (known_value (pair op place left right)) (1 + (lean_of left + lean_of right))

abbrev pub action_lean : Action → ℕ
action_lean (set v term) = max 1 (lean_of term)
action_lean (set_if place v condition term) = 1 + (lean_of condition + lean_of term)
action_lean (set_unless place v condition term) = 1 + (lean_of condition + lean_of term)
action_lean (ewma place v weight term) = 1 + lean_of term
action_lean zero_micros = 1
action_lean report = 1
action_lean fall = 1

abbrev pub body_lean : List Action → ℕ
body_lean [] = 0
body_lean (action ∷ rest) = action_lean action + body_lean rest

abbrev pub parts_lean : List Part → ℕ
parts_lean [] = 0
parts_lean (part ∷ rest) = max 1 (lean_of part.condition) + (body_lean part.body + parts_lean rest)

-- the lean count of a program
abbrev pub lean : Form → ℕ
lean form = parts_lean form.blocks
