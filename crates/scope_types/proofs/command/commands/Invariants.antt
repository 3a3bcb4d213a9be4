use Rattle.std.proofs.Common.{◌≡◌, [], length}
use Rattle.portus_core.specs.Trees.{nodes_of}
use Rattle.scope_types.specs.CommandWalk.{body_walk}
use Rattle.scope_types.specs.WalkResults.{actions_of}
use Rattle.scope_types.specs.Scope.{scope_of}
use Rattle.scope_types.proofs.command.commands.Given as goal

abbrev pub invariant-loop-tree : goal.invariant-loop-tree
invariant-loop-tree l = body_walk (scope_of l.fn.names) [] (nodes_of l.trees) ≡ body_walk (scope_of l.names) (actions_of l.commands.items) (nodes_of l.rest)

abbrev pub decreases-loop-tree : goal.decreases-loop-tree
decreases-loop-tree l = length l.rest
