use Rattle.std.proofs.Common.{arith}
use Rattle.ccp_messages.proofs.DecodeLaws.{told_found, told_only, told_more, cut_always, told_bad, refused_always, told_whole}
use Rattle.ccp_messages.proofs.decoding.decode.Goals as goal

pub returns-clause-found : goal.returns-clause-found
returns-clause-found c = told_found c.args.bytes.now c.decode_exactly.result (λ i. omega (arith, c.type_inv.bytes i)) c.decode_exactly.ensures.told

pub returns-clause-only : goal.returns-clause-only
returns-clause-only c = told_only c.args.bytes.now c.decode_exactly.result c.decode_exactly.ensures.told

pub returns-clause-more : goal.returns-clause-more
returns-clause-more c = told_more c.args.bytes.now c.decode_exactly.result c.decode_exactly.ensures.told

pub returns-clause-cut : goal.returns-clause-cut
returns-clause-cut c = cut_always c.args.bytes.now c.decode_exactly.result c.decode_exactly.ensures.told c.decode_exactly.ensures.whole

pub returns-clause-bad : goal.returns-clause-bad
returns-clause-bad c = told_bad c.args.bytes.now c.decode_exactly.result c.decode_exactly.ensures.told

pub returns-clause-refused : goal.returns-clause-refused
returns-clause-refused c = refused_always c.args.bytes.now c.decode_exactly.result (λ i. omega (arith, c.type_inv.bytes i)) c.decode_exactly.ensures.told c.decode_exactly.ensures.whole

pub returns-clause-whole : goal.returns-clause-whole
returns-clause-whole c none = told_whole c.args.bytes.now (λ i. omega (arith, c.type_inv.bytes i)) (c.decode_exactly.ensures.whole none)
