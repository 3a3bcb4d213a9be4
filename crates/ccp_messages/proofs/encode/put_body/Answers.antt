use Rattle.std.proofs.Common.{sym, subst}
use Rattle.reply_frames.specs.FrameBytes.{body_bytes}
use Rattle.reply_frames.specs.Writing.{Wrote}
use Rattle.ccp_messages.specs.declared.message.Message.{Message}
use Rattle.ccp_messages.specs.Messages.{message_body}
use Rattle.ccp_messages.proofs.encode.put_body.Goals as goal

pub returns-in-Install-clause-wrote : goal.returns-in-Install-clause-wrote
returns-in-Install-clause-wrote c =
    subst (λ (m : Message). Wrote 16 (body_bytes c.args.version (message_body m)) c.args.out.now c.put_code.new.out c.put_code.result) (sym c.in-Install.is) c.put_code.ensures.wrote
