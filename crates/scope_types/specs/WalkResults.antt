-- Walks one after the other, and their results as the data of the code's commands, blocks and refusals.
use Rattle.std.specs.Prelude.{◌≡◌, ◌≢◌, map, List, Result, Ok, Err}
use Rattle.ccp_base.specs.Outside.{no_memory}
use Rattle.portus_core.specs.Programs.{Term, Action, action_of, set, Part, part_of}
use Rattle.portus_core.specs.declared.program.Cmd.{Cmd}
use Rattle.portus_core.specs.declared.program.Block.{Block}
use Rattle.portus_core.specs.declared.program.Var.{Var}
use Rattle.scope_types.specs.declared.fault.ScopeFault.{ScopeFault}
use Rattle.scope_types.specs.declared.fault.ScopeFault.TheVariants.{NoMemory}
use Rattle.scope_types.specs.declared.names.Names.{Names}
use Rattle.scope_types.specs.Scope.{Scope, scope_of}

-- the second walk continues from the result of the first; a refusal of the first is that of both
abbrev pub and_then : {A B E : Type 0} → Result A E → (A → Result B E) → Result B E
and_then (Ok a) walk = walk a
and_then (Err e) walk = Err e

-- a refusal in the code is that of the walk, or out of memory
abbrev pub EndsWalk : {A : Type 0} → Result A ScopeFault → ScopeFault → Type 0
EndsWalk outcome fault = fault ≢ NoMemory no_memory → outcome ≡ Err fault

-- the data of the commands of a body
abbrev pub actions_of : List Cmd → List Action
actions_of commands = map action_of commands

-- the data of blocks
abbrev pub block_parts : List Block → List Part
block_parts blocks = map part_of blocks

-- the walk gives these names
abbrev pub GivesNames : Result Scope ScopeFault → Names → Type 0
GivesNames outcome after = outcome ≡ Ok (scope_of after)

-- the walk gives the assignment of this term to the variable, and these names after it
abbrev pub GivesSet : Result (Action × Scope) ScopeFault → Names → Term → Var → Type 0
GivesSet outcome after term variable = outcome ≡ Ok (set variable term, scope_of after)

-- the walk gives this command, and these names after it
abbrev pub GivesCommand : Result (Action × Scope) ScopeFault → Names → Cmd → Type 0
GivesCommand outcome after command = outcome ≡ Ok (action_of command, scope_of after)

-- the walk gives these commands, and these names after them
abbrev pub GivesCommands : Result (List Action × Scope) ScopeFault → Names → List Cmd → Type 0
GivesCommands outcome after commands = outcome ≡ Ok (actions_of commands, scope_of after)

-- the walk gives this block, and these names after it
abbrev pub GivesBlock : Result (Part × Scope) ScopeFault → Names → Block → Type 0
GivesBlock outcome after block = outcome ≡ Ok (part_of block, scope_of after)

-- the walk gives these blocks, and these names after them
abbrev pub GivesBlocks : Result (List Part × Scope) ScopeFault → Names → List Block → Type 0
GivesBlocks outcome after blocks = outcome ≡ Ok (block_parts blocks, scope_of after)
