use Rattle.std.proofs.Common.{◌≡◌, ◌+◌, ◌*◌, take}
use Rattle.std.specs.List.{AllByRecursion}
use Rattle.reply_frames.specs.FrameBytes.{numbers_bytes, IsNumber}
use Rattle.reply_frames.specs.Writing.{Wrote}
use Rattle.ccp_messages.proofs.writing.put_numbers.Given as goal

abbrev pub invariant-loop-number : goal.invariant-loop-number
invariant-loop-number l = record {
  end : l.end ≡ l.at + 8 * l.number-index;
  wrote : Wrote l.at (numbers_bytes (take l.number-index l.numbers)) l.initial.out l.out l.end;
  typed : AllByRecursion IsNumber (take l.number-index l.numbers);
}
