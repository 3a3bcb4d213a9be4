use Rattle.std.proofs.Common.{◌≡◌, ◌+◌, ◌*◌, take}
use Rattle.std.specs.List.{AllByRecursion}
use Rattle.reply_frames.specs.Writing.{Wrote}
use Rattle.ccp_messages.specs.Messages.{IsTypedInstr}
use Rattle.ccp_messages.specs.CodeParts.{instrs_bytes}
use Rattle.ccp_messages.proofs.encode_code.put_instrs.Given as goal

abbrev pub invariant-loop-instr : goal.invariant-loop-instr
invariant-loop-instr l = record {
  end : l.end ≡ l.at + 28 * l.instr-index;
  wrote : Wrote l.at (instrs_bytes (take l.instr-index l.instrs)) l.initial.out l.out l.end;
  typed : AllByRecursion IsTypedInstr (take l.instr-index l.instrs);
}
