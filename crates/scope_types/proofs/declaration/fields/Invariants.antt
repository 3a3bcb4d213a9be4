use Rattle.std.proofs.Common.{◌≡◌, length}
use Rattle.portus_core.specs.Trees.{nodes_of}
use Rattle.scope_types.specs.DeclarationWalk.{fields_walk}
use Rattle.scope_types.specs.Scope.{scope_of}
use Rattle.scope_types.proofs.declaration.fields.Given as goal

abbrev pub invariant-loop-part : goal.invariant-loop-part
invariant-loop-part l = fields_walk (scope_of l.fn.names) (nodes_of l.parts) ≡ fields_walk (scope_of l.names) (nodes_of l.rest)

abbrev pub decreases-loop-part : goal.decreases-loop-part
decreases-loop-part l = length l.rest
