use Rattle.portus_core.specs.Trees.{node_of, nodes_of}
use Rattle.scope_types.specs.Scope.{scope_of}
use Rattle.scope_types.specs.WalkResults.{block_parts}
use Rattle.scope_types.proofs.ValidSource.{parts_declared, parts_valid}
use Rattle.scope_types.proofs.source.scope_forms_over.Goals as goal

pub program-requires-clause-declared : goal.program-requires-clause-declared
program-requires-clause-declared c =
    parts_declared (node_of c.in-First.first.now) (nodes_of c.in-First.rest.now) (scope_of c.def.new.declared.names)
    (block_parts c.in_ok-blocks.blocks.items, scope_of c.later_forms.new.names) c.in_ok-def.ensures.ok c.in_ok-blocks.ensures.ok

pub program-requires-clause-valid : goal.program-requires-clause-valid
program-requires-clause-valid c =
    parts_valid (node_of c.in-First.first.now) (nodes_of c.in-First.rest.now) (scope_of c.def.new.declared.names)
    (block_parts c.in_ok-blocks.blocks.items, scope_of c.later_forms.new.names) c.in_ok-def.ensures.ok c.in_ok-blocks.ensures.ok
