use Rattle.std.proofs.Common.{◌≡◌, ◌+◌, ◌*◌, take}
use Rattle.std.specs.List.{AllByRecursion}
use Rattle.reply_frames.specs.Writing.{Wrote}
use Rattle.ccp_messages.specs.Messages.{IsTypedEvent}
use Rattle.ccp_messages.specs.CodeParts.{events_bytes}
use Rattle.ccp_messages.proofs.encode_code.put_events.Given as goal

abbrev pub invariant-loop-event : goal.invariant-loop-event
invariant-loop-event l = record {
  end : l.end ≡ l.at + 4 * l.event-index;
  wrote : Wrote l.at (events_bytes (take l.event-index l.events)) l.initial.out l.out l.end;
  typed : AllByRecursion IsTypedEvent (take l.event-index l.events);
}
