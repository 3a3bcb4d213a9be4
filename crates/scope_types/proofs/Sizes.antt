-- The parts of an operation are smaller trees than it.
use Rattle.std.proofs.Common.{◌≡◌, ℕ, ◌+◌, ◌<◌, List, ap, ◌∙◌, sym, arith}
use Rattle.ccp_base.specs.declared.place.Place.{Place}
use Rattle.std.specs.declared.vec.Vec.{Vec}
use Rattle.std.specs.declared.alloc.Global.{Global}
use Rattle.portus_core.specs.declared.tree.Tree.{Tree, List as Group}
use Rattle.portus_core.specs.Trees.{Node, Nodes, number, word, list, none, more, node_of, nodes_of, node_of-List}

-- how many parts there are, the tree itself and the ends of its lists included
abbrev mutual
  pub node_size : Node → ℕ
  node_size (number at n) = 1
  node_size (word at w) = 1
  node_size (list at parts) = 1 + nodes_size parts

  pub nodes_size : Nodes → ℕ
  nodes_size none = 1
  nodes_size (more node rest) = node_size node + nodes_size rest

-- the parts of an operation are smaller than it
pub size_of_operation : (tree : Tree) (at : Place) (parts : Vec Tree Global) (slice : List Tree) (head left right : Node) → tree ≡ Group at parts → slice ≡ parts.items → nodes_of slice ≡ more head (more left (more right none)) → node_size (node_of tree) ≡ node_size head + node_size left + node_size right + 2
size_of_operation tree at parts slice head left right d e f =
    ap (λ t. node_size (node_of t)) d
    ∙ ap node_size (node_of-List at parts)
    ∙ ap (λ ts. node_size (list at (nodes_of ts))) (sym e)
    ∙ ap (λ ns. node_size (list at ns)) f
    ∙ omega arith

pub falls_left : (t : ℕ) (tree : Tree) (at : Place) (parts : Vec Tree Global) (slice : List Tree) (head left right : Node) → node_size (node_of tree) ≡ t → tree ≡ Group at parts → slice ≡ parts.items → nodes_of slice ≡ more head (more left (more right none)) → node_size left < t
falls_left t tree at parts slice head left right m d e f = let g = size_of_operation tree at parts slice head left right d e f in omega arith

pub falls_right : (t : ℕ) (tree : Tree) (at : Place) (parts : Vec Tree Global) (slice : List Tree) (head left right : Node) → node_size (node_of tree) ≡ t → tree ≡ Group at parts → slice ≡ parts.items → nodes_of slice ≡ more head (more left (more right none)) → node_size right < t
falls_right t tree at parts slice head left right m d e f = let g = size_of_operation tree at parts slice head left right d e f in omega arith
