-- A list's first part and the parts after it, and the place of a part.
use Rattle.std.specs.Prelude.{◌≡◌}
use Rattle.ccp_base.specs.declared.place.Place.{Place}
use Rattle.portus_core.specs.Trees.{Node, Nodes, number, word, list, none, more, node_of, nodes_of}
use Rattle.scope_types.specs.declared.cut.Cut.{Cut}
use Rattle.scope_types.specs.declared.cut.Cut.TheVariants.{Nothing, First}

-- the place of a part
abbrev pub node_place : Node → Place
node_place (number at n) = at
node_place (word at w) = at
node_place (list at parts) = at

-- a list is its first part and the parts after it
abbrev pub CutsInto : Nodes → Cut → Type 0
CutsInto nodes Nothing = nodes ≡ none
CutsInto nodes (First one rest) = nodes ≡ more (node_of one.now) (nodes_of rest.now)
