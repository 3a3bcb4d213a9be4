-- How many temporaries an expression needs.
use Rattle.std.specs.Prelude.{ℕ, ◌+◌, nat_lt, max, if◌then◌else◌, Option, Some, None, List, [], ◌∷◌}
use Rattle.std.specs.Option.{option_or}
use Rattle.ccp_base.specs.declared.place.Place.{Place}
use Rattle.ccp_base.specs.Limits.{most_temps}
use Rattle.portus_core.specs.Programs.{Term, number, truth, name, pair, Action, set, set_if, set_unless, ewma, zero_micros, report, fall, Part, Form}

-- a part that is no leaf takes a temporary while the part after it is computed
abbrev pub kept_temporaries : Term → ℕ
kept_temporaries (number n) = 0
kept_temporaries (truth b) = 0
kept_temporaries (name v) = 0
kept_temporaries (pair op place left right) = 1

abbrev pub need_of : Term → ℕ
need_of (number n) = 0
need_of (truth b) = 0
need_of (name v) = 0
need_of (pair op place left right) = max 1 (max (need_of left) (need_of right + kept_temporaries left))

-- the need of two expressions, if the first one's value is kept while the second is computed
abbrev pub need_of_both : Term → Term → ℕ
need_of_both left right = max (need_of left) (need_of right + kept_temporaries left)

-- the need of an assigned value
abbrev pub action_need : Action → ℕ
action_need (set v term) = need_of term
action_need (set_if place v condition term) = need_of_both condition term
action_need (set_unless place v condition term) = need_of_both condition term
action_need (ewma place v weight term) = need_of term
action_need zero_micros = 0
action_need report = 0
action_need fall = 0

abbrev pub body_need : List Action → ℕ
body_need [] = 0
body_need (action ∷ rest) = max (action_need action) (body_need rest)

abbrev pub parts_need : List Part → ℕ
parts_need [] = 0
parts_need (part ∷ rest) = max (max (need_of part.condition) (body_need part.body)) (parts_need rest)

-- the greatest need of a program's expressions, 0 if it has none
abbrev pub form_need : Form → ℕ
form_need form = parts_need form.blocks

-- a need above the number of temporaries, with its place
abbrev pub deep_at : ℕ → Place → Option Place
deep_at need place = if nat_lt most_temps need then Some place else None

-- the head atom of an expression that needs too many; a leaf needs none
abbrev pub deep_term : Term → Option Place
deep_term (pair op place left right) = deep_at (need_of (pair op place left right)) place
deep_term (number n) = None
deep_term (truth b) = None
deep_term (name v) = None

abbrev pub deep_action : Action → Option Place
deep_action (set v term) = deep_term term
deep_action (set_if place v condition term) = deep_at (action_need (set_if place v condition term)) place
deep_action (set_unless place v condition term) = deep_at (action_need (set_unless place v condition term)) place
deep_action (ewma place v weight term) = deep_at (need_of term) place
deep_action zero_micros = None
deep_action report = None
deep_action fall = None

abbrev pub deep_body : List Action → Option Place
deep_body [] = None
deep_body (action ∷ rest) = option_or (deep_action action) (deep_body rest)

abbrev pub deep_block : Term → List Action → Option Place
deep_block condition body = option_or (deep_term condition) (deep_body body)

abbrev pub deep_parts : List Part → Option Place
deep_parts [] = None
deep_parts (part ∷ rest) = option_or (deep_term part.condition) (option_or (deep_body part.body) (deep_parts rest))

-- the first expression of a program, in the order of the text, that needs more temporaries than there are
abbrev pub deep_form : Form → Option Place
deep_form form = deep_parts form.blocks
