-- The text of a tree.
use Rattle.std.specs.Prelude.{ℕ, List, [], ◌++◌, codes}
use Rattle.std.specs.Fmt.{decimal}
use Rattle.portus_core.specs.Trees.{Node, number, word, list, Nodes, none, more}

-- the text of a tree: numerals without leading zeros, and one space between the parts of a list
abbrev mutual
  pub printed_of : Node → List ℕ
  printed_of (number place value) = decimal value
  printed_of (word place name) = name
  printed_of (list place parts) = codes "(" ++ (printed_after [] parts ++ codes ")")

  -- the first part after this gap, and each later one after a space
  pub printed_after : List ℕ → Nodes → List ℕ
  printed_after gap none = []
  printed_after gap (more node rest) = gap ++ (printed_of node ++ printed_after (codes " ") rest)

-- the text of a source: each form with a line feed after it
abbrev pub printed_forms : Nodes → List ℕ
printed_forms none = []
printed_forms (more form rest) = printed_of form ++ (codes "\n" ++ printed_forms rest)
