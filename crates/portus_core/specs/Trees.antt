-- Trees as data.
use Rattle.std.specs.Prelude.{◌≡◌, ℕ, ◌≤◌, length, List, [], ◌∷◌, map}
use Rattle.std.proofs.Common.{arith, ap, ◌∙◌, sym}
use Rattle.std.specs.declared.vec.Vec.{Vec}
use Rattle.std.specs.declared.alloc.Global.{Global}
use Rattle.ccp_base.specs.declared.place.Place.{Place}
use Rattle.portus_core.specs.declared.tree.Tree.{Tree, List as Group}
use Rattle.portus_core.specs.declared.tree.Tree.TheOpen.{Tree-F}
use Rattle.portus_core.specs.declared.tree.Tree.TheOpen as layer
use Rattle.portus_core.specs.declared.tree.Tree.TheFolds.{fold-Tree, fold-roll-Tree}
use Rattle.portus_core.specs.declared.tree.Tree.TheViews.{rolls-List}
use Rattle.portus_core.specs.declared.tree.Parts.{Parts}
use Rattle.portus_core.specs.declared.tree.Parts.TheVariants.{Nothing, One, Two, Three, Many}

-- a tree as data: what definitions speak of
mutual
  pub data Node : Type 0 where
    number : Place → ℕ → Node
    word : Place → List ℕ → Node
    list : Place → Nodes → Node

  pub data Nodes : Type 0 where
    none : Nodes
    more : Node → Nodes → Nodes

abbrev pub collected : List Node → Nodes
collected [] = none
collected (node ∷ rest) = more node (collected rest)

-- one part of a text, with the data of its own parts in their place
abbrev pub node_step : Tree-F Node → Node
node_step (layer.Num place value) = number place value
node_step (layer.Word place name) = word place name
node_step (layer.List place parts) = list place (collected parts.items)

-- the data of a tree
abbrev pub node_of : Tree → Node
node_of = fold-Tree Node node_step

-- the data of the trees of a list
abbrev pub nodes_of : List Tree → Nodes
nodes_of trees = collected (map node_of trees)

pub node_of-List : (place : Place) (parts : Vec Tree Global)
    → node_of (Group place parts) ≡ list place (nodes_of parts.items)
node_of-List place parts =
    ap node_of (sym (rolls-List place parts)) ∙ fold-roll-Tree Node node_step (layer.List place parts)

-- there are more than three parts
abbrev pub IsMany : Nodes → Type 0
IsMany (more a (more b (more c (more d rest)))) = Unit {0}
IsMany _ = ⊥

pub IsMany-from_length : (trees : List Tree) → 4 ≤ length trees → IsMany (nodes_of trees)
IsMany-from_length [] long = absurd (omega arith)
IsMany-from_length (a ∷ []) long = absurd (omega arith)
IsMany-from_length (a ∷ b ∷ []) long = absurd (omega arith)
IsMany-from_length (a ∷ b ∷ c ∷ []) long = absurd (omega arith)
IsMany-from_length (a ∷ b ∷ c ∷ d ∷ rest) long = tt

-- the parts of a list by their number
abbrev pub SplitsInto : Nodes → Parts → Type 0
SplitsInto nodes Nothing = nodes ≡ none
SplitsInto nodes (One a) = nodes ≡ more (node_of a.now) none
SplitsInto nodes (Two a b) = nodes ≡ more (node_of a.now) (more (node_of b.now) none)
SplitsInto nodes (Three a b c) = nodes ≡ more (node_of a.now) (more (node_of b.now) (more (node_of c.now) none))
SplitsInto nodes Many = IsMany nodes

pub ruleset many = (IsMany-from_length)
