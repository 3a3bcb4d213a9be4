use Rattle.std.proofs.Common.{arith}
use Rattle.reply_frames.proofs.FrameLaws.{told_more, told_bad, told_cut, told_refused}
use Rattle.reply_frames.proofs.ReplyLaws.{told_only, told_reply, told_other, told_passed}
use Rattle.reply_frames.proofs.decode.decode_fields.Goals as goal

pub returns-clause-spelled : goal.returns-clause-spelled
returns-clause-spelled c = told_reply c.args.bytes.now c.read_reply.result c.read_reply.new.fields (λ i. omega (arith, c.type_inv.bytes i)) c.read_reply.ensures.found

pub returns-clause-only : goal.returns-clause-only
returns-clause-only c = told_only c.args.bytes.now c.read_reply.result c.read_reply.new.fields c.read_reply.ensures.found c.read_reply.ensures.fault

pub returns-clause-more : goal.returns-clause-more
returns-clause-more c = told_more c.args.bytes.now c.read_reply.result c.read_reply.ensures.fault

pub returns-clause-cut : goal.returns-clause-cut
returns-clause-cut c = told_cut c.args.bytes.now c.read_reply.result c.read_reply.new.fields c.read_reply.ensures.found c.read_reply.ensures.fault

pub returns-clause-other : goal.returns-clause-other
returns-clause-other c = told_other c.args.bytes.now c.read_reply.result (λ i. omega (arith, c.type_inv.bytes i)) c.read_reply.ensures.fault

pub returns-clause-passed : goal.returns-clause-passed
returns-clause-passed c = told_passed c.args.bytes.now c.read_reply.result c.read_reply.new.fields c.read_reply.ensures.found c.read_reply.ensures.fault

pub returns-clause-bad : goal.returns-clause-bad
returns-clause-bad c = told_bad c.args.bytes.now c.read_reply.result c.read_reply.ensures.fault

pub returns-clause-refused : goal.returns-clause-refused
returns-clause-refused c = told_refused c.args.bytes.now c.read_reply.result c.read_reply.new.fields c.read_reply.ensures.found c.read_reply.ensures.fault
