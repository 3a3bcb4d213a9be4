-- The line of an acknowledgement by labels: each is a blank, a primitive's name and `=`.
use Rattle.std.specs.Prelude.{ℕ, zero, suc, ◌+◌, ◌*◌, if◌then◌else◌, List, [], ◌++◌, map, codes, decimal, slice_index, slice_index_or}
use Rattle.ccp_base.specs.Limits.{primitive_count}
use Rattle.ccp_base.specs.PrimitiveNames.{PrimitiveName, primitive_names}
use Rattle.campaign_report.specs.AcksText.{is_shown}

-- the most bytes of a label, of an item, and of a line
abbrev pub label_size : ℕ
label_size = 20

abbrev pub item_size : ℕ
item_size = 40

abbrev pub line_size : ℕ
line_size = item_size * primitive_count + 1

abbrev pub label_of : PrimitiveName → List ℕ
label_of known = codes " " ++ (known.1 ++ codes "=")

-- the label of the primitive with this number
abbrev pub label_at : ℕ → List ℕ
label_at number = slice_index_or (map label_of primitive_names) number []

-- the item of a primitive with this number and value, if it is shown
abbrev pub item_of : ℕ → ℕ → List ℕ
item_of number value = if is_shown number value then label_at number ++ decimal value else []

-- the items of the primitives below this number, by the list of all values
abbrev pub first_items : ℕ → List ℕ → List ℕ
first_items zero values = []
first_items (suc number) values = first_items number values ++ item_of number (slice_index values number)
