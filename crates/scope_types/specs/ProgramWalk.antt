-- The walk over the forms of a text, which gives their program or their first refusal.
use Rattle.std.specs.Prelude.{ℕ, true, false, not, nat_le, List, [], ◌∷◌, ◌++◌, length, Result, Ok, Err, codes, if◌then◌else◌, bytes_eq}
use Rattle.ccp_base.specs.Limits.{most_blocks}
use Rattle.ccp_base.specs.declared.place.Place.{Place}
use Rattle.portus_core.specs.Programs.{Term, Action, Part, Form}
use Rattle.portus_core.specs.Trees.{Node, Nodes, word, list, none, more}
use Rattle.scope_types.specs.declared.fault.ScopeFault.{ScopeFault}
use Rattle.scope_types.specs.declared.fault.ScopeFault.TheVariants.{Misplaced, TooMany}
use Rattle.scope_types.specs.declared.fault.What.TheVariants.{Blocks}
use Rattle.scope_types.specs.Scope.{Scope}
use Rattle.scope_types.specs.Cuts.{node_place}
use Rattle.scope_types.specs.WalkResults.{and_then}
use Rattle.scope_types.specs.ExpressionWalk.{expression_walk}
use Rattle.scope_types.specs.DeclarationWalk.{Declaring, parts_walk}
use Rattle.scope_types.specs.CommandWalk.{kind_walk, body_walk}

-- the names before the first declaration
abbrev pub no_names : Scope
no_names = record { fields = []; controls = []; locals = [] }

abbrev pub nothing_declared : Declaring
nothing_declared = record { names = no_names; grouped = false }

-- a block begins without locals
abbrev pub without_locals : Scope → Scope
without_locals names = record names { locals = [] }

abbrev pub walked_part : Term → List Action × Scope → Part
walked_part condition body = record { condition = condition; body = body.0; locals = length body.1.locals }

-- a condition that is a Bool
abbrev pub condition_walk : Scope → Node → Result Term ScopeFault
condition_walk names node =
    and_then (expression_walk names node) (λ term. kind_walk names true (node_place node) term)

-- a block that begins with these names: its condition, then its commands
abbrev pub inner_walk : Scope → Node → Nodes → Result (Part × Scope) ScopeFault
inner_walk names condition commands =
    and_then (condition_walk names condition) (λ c.
    and_then (body_walk names [] commands) (λ body. Ok (walked_part c body, body.1)))

-- a block, with the names after it
abbrev pub block_walk : Scope → Place → Nodes → Result (Part × Scope) ScopeFault
block_walk names at none = Err (Misplaced at)
block_walk names at (more condition commands) = inner_walk (without_locals names) condition commands

-- a form after the first, with `count` blocks before it
abbrev pub form_walk : Scope → ℕ → Node → Result (Part × Scope) ScopeFault
form_walk names count (list at (more (word head w) parts)) =
    if not (bytes_eq w (codes "when")) then Err (Misplaced at)
    else if nat_le most_blocks count then Err (TooMany at Blocks)
    else block_walk names at parts
form_walk names count node = Err (Misplaced (node_place node))

-- the forms after the first, after those that are done
abbrev pub blocks_walk : Scope → List Part → Nodes → Result (List Part × Scope) ScopeFault
blocks_walk names done none = Ok (done, names)
blocks_walk names done (more node rest) =
    and_then (form_walk names (length done) node) (λ block. blocks_walk block.1 (done ++ block.0 ∷ []) rest)

-- the first form
abbrev pub def_walk : Node → Result Scope ScopeFault
def_walk (list at (more (word head w) parts)) =
    if bytes_eq w (codes "def") then and_then (parts_walk nothing_declared parts) (λ declared. Ok declared.names)
    else Err (Misplaced at)
def_walk node = Err (Misplaced (node_place node))

abbrev pub walked_form : List Part × Scope → Form
walked_form body = record { fields = body.1.fields; controls = body.1.controls; blocks = body.0 }

-- the program of a text's forms, or the first refusal in the order of the text
abbrev pub source_walk : Nodes → Result Form ScopeFault
source_walk none = Err (Misplaced (record { line = 1; column = 1 }))
source_walk (more first rest) =
    and_then (def_walk first) (λ names. and_then (blocks_walk names [] rest) (λ body. Ok (walked_form body)))
