-- The walk over a block, once its condition is cut off, is the walk over its condition and its commands.
use Rattle.std.proofs.Common.{◌≡◌, Result, ap, ◌∙◌, sym}
use Rattle.ccp_base.specs.declared.place.Place.{Place}
use Rattle.portus_core.specs.Programs.{Part}
use Rattle.portus_core.specs.Trees.{Node, Nodes, more}
use Rattle.scope_types.specs.declared.fault.ScopeFault.{ScopeFault}
use Rattle.scope_types.specs.Scope.{Scope}
use Rattle.scope_types.specs.ProgramWalk.{without_locals, inner_walk, block_walk}

-- the walk of a block is that of its condition and its commands
pub block_walk-inner : (names inside : Scope) (at : Place) (nodes : Nodes) (first : Node) (rest : Nodes) (r : Result (Part × Scope) ScopeFault) → nodes ≡ more first rest → inside ≡ without_locals names → inner_walk inside first rest ≡ r → block_walk names at nodes ≡ r
block_walk-inner names inside at nodes first rest r e f g =
    ap (block_walk names at) e ∙ ap (λ s. inner_walk s first rest) (sym f) ∙ g
