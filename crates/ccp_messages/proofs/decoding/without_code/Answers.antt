use Rattle.std.proofs.Common.{sym, subst}
use Rattle.ccp_messages.specs.declared.fault.DecodeFault.{DecodeFault}
use Rattle.ccp_messages.specs.Decoding.{decoded_of, LacksCode}
use Rattle.ccp_messages.proofs.DecodeLaws.{lacks-fault, lacks-reply}
use Rattle.ccp_messages.proofs.decoding.without_code.Goals as goal

pub returns-in-Err : goal.returns-in-Err
returns-in-Err c =
    subst (λ (fault : DecodeFault). LacksCode fault (decoded_of c.args.bytes.now)) (sym c.frame_lack.ensures)
    (lacks-fault c.args.bytes.now c.in-Err.fault c.decode_fields.result c.in-Err.is c.decode_fields.ensures.more c.decode_fields.ensures.bad c.in-Err.ensures.fault)

pub returns-in-Ok : goal.returns-in-Ok
returns-in-Ok c = lacks-reply c.args.bytes.now _ c.in-Ok.ensures.found
