use Rattle.std.proofs.Common.{◌≡◌, ◌+◌, ◌*◌, take}
use Rattle.std.specs.List.{AllByRecursion}
use Rattle.reply_frames.specs.ValueBytes.{values_bytes, ValueFits}
use Rattle.reply_frames.specs.Writing.{placed}
use Rattle.reply_frames.proofs.encode.put_values.Given as goal

abbrev pub invariant-loop-reg : goal.invariant-loop-reg
invariant-loop-reg l = record {
  end : l.end ≡ l.at + 10 * l.reg-index;
  written : l.out ≡ placed l.at (values_bytes (take l.reg-index l.values)) l.initial.out;
  typed : AllByRecursion ValueFits (take l.reg-index l.values);
}
