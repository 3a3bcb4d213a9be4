-- What a run of a program's blocks makes of an acknowledgement.
use Rattle.std.specs.Prelude.{◌≡◌, Bool, Result, List}
use Rattle.std.proofs.Common.{ap, sym, ◌∙◌}
use Rattle.ccp_base.specs.declared.ack.Ack.{Ack}
use Rattle.portus_core.specs.declared.env.Env.{Env}
use Rattle.portus_core.specs.Programs.{Part, Form}
use Rattle.portus_core.specs.Value.{Cause}
use Rattle.portus_core.specs.Command.{Going}
use Rattle.portus_core.specs.Blocks.{before_blocks, blocks_of}
use Rattle.portus_core.specs.OneAcknowledgement.{settled, one_of}

-- a run of these blocks from here is the program's
pub settled-run : (form : Form) (env : Env) (ack : Ack) (room : Bool) (parts : List Part) (going : Going) (run : Result Going Cause)
    → parts ≡ form.blocks → going ≡ before_blocks env → blocks_of parts ack going ≡ run → settled form env room run ≡ one_of form env ack room
settled-run form env ack room parts going run same begins runs =
    ap (settled form env room) (sym runs) ∙ (λ i. settled form env room (blocks_of (same i) ack (begins i)))
