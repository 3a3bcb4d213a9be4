use Rattle.portus_core.specs.Trees.{node_of}
use Rattle.scope_types.proofs.Sizes.{node_size}
use Rattle.scope_types.proofs.expression.+expression.Given as goal

abbrev pub decreases-expression : goal.decreases-expression
decreases-expression l = node_size (node_of l.tree.now)
