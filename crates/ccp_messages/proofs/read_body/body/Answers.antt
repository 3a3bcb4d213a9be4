use Rattle.std.proofs.Common.{◌≡◌, ℕ, List, Bor, sym, ap, ◌∙◌, subst}
use Rattle.reply_frames.specs.Parts.{Read}
use Rattle.reply_frames.specs.Frames.{body_at}
use Rattle.ccp_messages.specs.declared.message.Message.{Message}
use Rattle.ccp_messages.specs.Messages.{message_of}
use Rattle.ccp_messages.specs.Decoding.{ReturnsReading, made, install_message_at}
use Rattle.ccp_messages.proofs.Reading.{made-install}
use Rattle.ccp_messages.proofs.read_body.body.Goals as goal

pub returns-in-Install-clause-read : goal.returns-in-Install-clause-read
returns-in-Install-clause-read c =
    let head = c.args.head in
    let is : install_message_at head.flow head.counts c.args.bytes.now ≡ made (message_of head.flow) (body_at head.kind head.version head.counts c.args.bytes.now) =
    sym (made-install head.flow head.counts c.args.bytes.now) ∙ ap (λ kind. made (message_of head.flow) (body_at kind head.version head.counts c.args.bytes.now)) (sym c.in-Install.is) in
    subst (λ (read : Read Message). ReturnsReading {X = Message × Bor (List ℕ)} (λ x. (x.0, x.1.now)) c.install.result read) is c.install.ensures
