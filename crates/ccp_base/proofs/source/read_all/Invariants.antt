use Rattle.std.proofs.Common.{◌≡◌, ◌≤◌, ◌-◌, length}
use Rattle.ccp_base.specs.Outside.{Takes}
use Rattle.ccp_base.proofs.source.read_all.Given as goal

abbrev pub invariant-loop-count : goal.invariant-loop-count
invariant-loop-count g l = record {
  within : length l.bytes ≤ l.limit;
  counted : g.S.Source.faults l.source ≡ g.S.Source.faults l.initial.source;
  takes : Takes (g.S.Source.remaining l.initial.source) (g.S.Source.remaining l.source) l.bytes;
}

abbrev pub decreases-loop-count : goal.decreases-loop-count
decreases-loop-count g l = l.limit - length l.bytes
