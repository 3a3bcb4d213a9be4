-- Where a value stands in a scenario, as the text that a refusal shows.
use Rattle.std.specs.Prelude.{ℕ, ◌&&◌, nat_le, if◌then◌else◌, List, [], ◌∷◌, codes, decimal}
use Rattle.ccp_base.specs.Text.{◌⧺◌}
use Rattle.scene_members.specs.declared.key.Key.{Key}
use Rattle.scene_members.specs.declared.json_place.JsonPlace.{JsonPlace}
use Rattle.scene_members.specs.declared.json_place.JsonPlace.TheVariants.{Whole, Top, Case, In, Item, Shared}
use Rattle.scene_members.specs.Keys.{key_word}

-- the path of a place; the whole has the empty one
abbrev pub path_of : JsonPlace → List ℕ
path_of Whole = []
path_of (Top key) = key_word key
path_of (Case i) = codes "cases[" ⧺ decimal i ⧺ codes "]"
path_of (In i key) = codes "cases[" ⧺ decimal i ⧺ codes "]." ⧺ key_word key
path_of (Item i key j) = codes "cases[" ⧺ decimal i ⧺ codes "]." ⧺ key_word key ⧺ codes "[" ⧺ decimal j ⧺ codes "]"
path_of (Shared key) = codes "shared." ⧺ key_word key

-- a byte of a name as paths show it: `?` for each one that isn't printable ASCII
abbrev pub shown_byte : ℕ → ℕ
shown_byte byte = if nat_le 32 byte && nat_le byte 126 then byte else 63

abbrev pub printable : List ℕ → List ℕ
printable [] = []
printable (byte ∷ rest) = shown_byte byte ∷ printable rest

-- the path of a member that a scenario names by itself, as a program or a trace
abbrev pub named_path : Key → List ℕ → List ℕ
named_path key name = key_word key ⧺ codes "." ⧺ printable name
