use Rattle.std.proofs.Common.{◌≡◌, ◌≤◌, ◌-◌, length, take}
use Rattle.ccp_base.specs.Outside.{Appends}
use Rattle.feed_core.proofs.duplex.hand_over.Given as goal

abbrev pub invariant-loop-done : goal.invariant-loop-done
invariant-loop-done g l = record {
  follows : g.D.Duplex.Follows l.initial.duplex l.duplex;
  within : l.done ≤ length l.bytes;
  counted : g.D.Duplex.write_faults l.duplex ≡ g.D.Duplex.write_faults l.initial.duplex;
  remaining : g.D.Duplex.remaining l.duplex ≡ g.D.Duplex.remaining l.initial.duplex;
  read_faults : g.D.Duplex.read_faults l.duplex ≡ g.D.Duplex.read_faults l.initial.duplex;
  appends : Appends (g.D.Duplex.written l.initial.duplex) (g.D.Duplex.written l.duplex) (take l.done l.bytes);
}

abbrev pub decreases-loop-done : goal.decreases-loop-done
decreases-loop-done g l = length l.bytes - l.done
