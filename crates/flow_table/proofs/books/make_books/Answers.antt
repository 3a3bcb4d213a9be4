use Rattle.std.proofs.Common.{rules, map}
use Rattle.flow_table.proofs.LedLemmas.{are-led}
use Rattle.flow_table.proofs.books.make_books.Goals as goal

pub returns-clause-led : goal.returns-clause-led
returns-clause-led g c =
    are-led g.F.LockedFlow.HasNext c.args.flows (map g.F.LockedFlow.flow_in c.loop-alloc.books) c.loop-alloc.left.items c.loop-alloc.invariant.led
    (search rules)
