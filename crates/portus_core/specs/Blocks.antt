-- What the blocks of a program make of an acknowledgement.
use Rattle.std.specs.Prelude.{Bool, true, false, Result, Ok, List, [], ◌∷◌}
use Rattle.ccp_base.specs.declared.ack.Ack.{Ack}
use Rattle.ccp_base.specs.Chaining.{then_do}
use Rattle.ccp_base.specs.Truth.{is_true}
use Rattle.portus_core.specs.declared.env.Env.{Env}
use Rattle.portus_core.specs.Programs.{Action, Part}
use Rattle.portus_core.specs.Value.{Cause, no_locals}
use Rattle.portus_core.specs.Command.{Going, value_in, run_commands}

-- before the first block
abbrev pub before_blocks : Env → Going
before_blocks env = record { env = env; locals = no_locals; asked = false; falls = false }

-- a block begins without locals, and doesn't fall through by itself
abbrev pub at_block : Going → Going
at_block going = record { env = going.env; locals = no_locals; asked = going.asked; falls = false }

-- the rest follows a body only if the body falls through
abbrev pub after_body : Bool → (Going → Result Going Cause) → Going → Result Going Cause
after_body true rest going = rest going
after_body false rest going = Ok going

-- the body runs if the condition is true
abbrev pub after_condition : Bool → List Action → (Going → Result Going Cause) → Ack → Going → Result Going Cause
after_condition true body rest ack going =
    then_do (run_commands body ack going) (λ done. after_body done.falls rest done)
after_condition false body rest ack going = rest going

-- the blocks in order
abbrev pub blocks_of : List Part → Ack → Going → Result Going Cause
blocks_of [] ack going = Ok going
blocks_of (part ∷ rest) ack going =
    then_do (value_in part.condition ack (at_block going)) (λ held.
    after_condition (is_true held) part.body (blocks_of rest ack) ack (at_block going))
