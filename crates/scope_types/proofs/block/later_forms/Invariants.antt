use Rattle.std.proofs.Common.{◌≡◌, [], length}
use Rattle.portus_core.specs.Trees.{nodes_of}
use Rattle.scope_types.specs.ProgramWalk.{blocks_walk}
use Rattle.scope_types.specs.WalkResults.{block_parts}
use Rattle.scope_types.specs.Scope.{scope_of}
use Rattle.scope_types.proofs.block.later_forms.Given as goal

abbrev pub invariant-loop-tree : goal.invariant-loop-tree
invariant-loop-tree l = blocks_walk (scope_of l.fn.names) [] (nodes_of l.trees) ≡ blocks_walk (scope_of l.names) (block_parts l.blocks.items) (nodes_of l.rest)

abbrev pub decreases-loop-tree : goal.decreases-loop-tree
decreases-loop-tree l = length l.rest
