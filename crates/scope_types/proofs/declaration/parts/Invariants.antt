use Rattle.std.proofs.Common.{◌≡◌, length}
use Rattle.portus_core.specs.Trees.{nodes_of}
use Rattle.scope_types.specs.DeclarationWalk.{parts_walk, declaring_of}
use Rattle.scope_types.proofs.declaration.parts.Given as goal

abbrev pub invariant-loop-tree : goal.invariant-loop-tree
invariant-loop-tree l = parts_walk (declaring_of l.fn.declared) (nodes_of l.trees) ≡ parts_walk (declaring_of l.declared) (nodes_of l.rest)

abbrev pub decreases-loop-tree : goal.decreases-loop-tree
decreases-loop-tree l = length l.rest
