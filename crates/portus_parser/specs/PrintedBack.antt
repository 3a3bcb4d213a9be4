-- A printed source is read back as that source.
use Rattle.std.specs.Prelude.{◌≡◌, ℕ, ◌≤◌, List, length}
use Rattle.ccp_base.specs.Limits.{most_text_bytes}
use Rattle.portus_core.specs.Trees.{Node, number, word, list, Nodes, none, more}
use Rattle.portus_core.specs.PrintedTree.{printed_forms}
use Rattle.portus_lexer.specs.Places.{first_place}
use Rattle.portus_parser.specs.Spelling.{Spells}

abbrev mutual
  -- a node with all its places set to the first place of a text
  pub node_without_places : Node → Node
  node_without_places (number place value) = number first_place value
  node_without_places (word place name) = word first_place name
  node_without_places (list place parts) = list first_place (without_places parts)

  pub without_places : Nodes → Nodes
  without_places none = none
  without_places (more node rest) = more (node_without_places node) (without_places rest)

-- the two differ in nothing but their places
abbrev pub SameButPlaces : Nodes → Nodes → Type 0
SameButPlaces left right = without_places left ≡ without_places right

-- what a text spells is printed as a text that spells the same but for places, if the printed text isn't too long
abbrev pub PrintsBack : Type 0
PrintsBack =
    (text : List ℕ) (forms : Nodes) → Spells text forms → length (printed_forms forms) ≤ most_text_bytes
    → (again : Nodes) × (Spells (printed_forms forms) again × SameButPlaces forms again)
