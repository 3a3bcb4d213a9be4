use Rattle.std.proofs.Common.{◌∙◌, arith}
use Rattle.ccp_messages.specs.Reasons.{reason_of}
use Rattle.ccp_messages.proofs.ReasonLaws.{refused-some}
use Rattle.ccp_messages.proofs.read_body.refusal.Goals as goal

pub unreachable-requires : goal.unreachable-requires
unreachable-requires c =
    let read = c.in_ok-number in
    let some = refused-some c.args.bytes.now read.number read.index read.rest.now
    (λ i. omega (arith, c.type_inv.bytes i)) read.ensures in
    c.in_default.not-Some (reason_of read.number) (c.of_number.ensures.reason ∙ some)
