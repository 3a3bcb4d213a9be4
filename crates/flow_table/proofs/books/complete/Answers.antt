use Rattle.std.proofs.Common.{rules}
use Rattle.flow_table.proofs.LedLemmas.{leads-on}
use Rattle.flow_table.proofs.books.complete.Goals as goal

pub loop-alloc-preserved : goal.loop-alloc-preserved
loop-alloc-preserved g c = record {
  case = search rules;
  led = leads-on g.F.LockedFlow.HasNext c.args.flow.now c.loop-alloc.flow c.make_next.new.self c.loop-alloc.invariant.led c.in_ok-make_next.ensures.next;
}
