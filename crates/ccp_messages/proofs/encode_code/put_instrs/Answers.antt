use Rattle.std.proofs.Common.{◌≡◌, slice_index_or, subst, ◌∙◌, arith}
use Rattle.reg_code.specs.declared.code.Instr.{Instr}
use Rattle.reply_frames.specs.FrameBytes.{instruction_bytes}
use Rattle.reply_frames.specs.Writing.{Wrote}
use Rattle.reply_frames.proofs.Placing.{wrote-more}
use Rattle.reply_frames.proofs.Taken.{all-more, all-taken}
use Rattle.ccp_messages.specs.Messages.{IsTypedInstr}
use Rattle.ccp_messages.specs.CodeParts.{instruction_part}
use Rattle.ccp_messages.proofs.encode_code.put_instrs.Goals as goal

pub loop-instr-preserved : goal.loop-instr-preserved
loop-instr-preserved c =
    let instrs = c.args.instrs.now in
    let at = c.loop-instr.instr-index in
    let put : Instr = c.instr-item.result in
    let is : c.instr.result ≡ slice_index_or instrs at put = c.instr.ensures ∙ c.instr-item.is in
    record {
      end = omega (arith, c.loop-instr.invariant.end, c.put_instr-end.ensures.wrote.end_is);
      wrote = wrote-more (λ instr. instruction_bytes (instruction_part instr)) instrs at c.args.at put c.args.out.now c.loop-instr.out c.put_instr-end.new.out c.loop-instr.end c.put_instr-end.result c.loop-instr-test.true (omega arith) c.loop-instr.invariant.wrote
          (subst (λ instr. Wrote c.loop-instr.end (instruction_bytes (instruction_part instr)) c.loop-instr.out c.put_instr-end.new.out c.put_instr-end.result) is c.put_instr-end.ensures.wrote);
      typed = all-more IsTypedInstr instrs at put c.loop-instr-test.true c.loop-instr.invariant.typed (subst IsTypedInstr is c.put_instr-end.ensures.typed);
    }

pub returns-clause-typed : goal.returns-clause-typed
returns-clause-typed c = all-taken IsTypedInstr c.args.instrs.now c.loop-instr.instr-index c.loop-instr-test.false c.loop-instr.invariant.typed
