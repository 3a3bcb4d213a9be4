use Rattle.std.proofs.Common.{◌≡◌, ◌+◌, ◌*◌, take}
use Rattle.std.specs.List.{AllByRecursion}
use Rattle.reply_frames.specs.Writing.{Wrote}
use Rattle.ccp_messages.specs.Messages.{IsTypedStart}
use Rattle.ccp_messages.specs.CodeParts.{starts_bytes}
use Rattle.ccp_messages.proofs.encode_code.put_starts.Given as goal

abbrev pub invariant-loop-start : goal.invariant-loop-start
invariant-loop-start l = record {
  end : l.end ≡ l.at + 9 * l.start-index;
  wrote : Wrote l.at (starts_bytes (take l.start-index l.starts)) l.initial.out l.out l.end;
  typed : AllByRecursion IsTypedStart (take l.start-index l.starts);
}
