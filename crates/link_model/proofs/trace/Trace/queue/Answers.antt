use Rattle.std.proofs.Common.{sym, ◌∙◌, arith}
use Rattle.link_model.specs.Chances.{chance_number}
use Rattle.link_model.proofs.SendingLemmas.{not_before, before_due, none_waits}
use Rattle.link_model.proofs.trace.Trace.queue.Goals as goal

pub returns-then-own-now-clause-next : goal.returns-then-own-now-clause-next
returns-then-own-now-clause-next c =
    let times = c.args.self.now in
    let chance = chance_number times c.args.next in
    sym (not_before times c.time_of-own.ensures.valid c.args.now chance (omega (arith, c.time_of-own.ensures.time)))

pub returns-then-own-now-2-clause-next : goal.returns-then-own-now-2-clause-next
returns-then-own-now-2-clause-next c =
    let times = c.args.self.now in
    let chance = chance_number times c.args.next in
    c.find_first_chance-due.ensures.number ∙ sym (before_due times c.time_of-own.ensures.valid c.args.now chance (omega (arith, c.time_of-own.ensures.time)))

pub returns-then-own-now-2-clause-waiting : goal.returns-then-own-now-2-clause-waiting
returns-then-own-now-2-clause-waiting c =
    let times = c.args.self.now in
    let chance = chance_number times c.args.next in
    sym (none_waits times c.time_of-own.ensures.valid c.args.now chance (omega (arith, c.time_of-own.ensures.time)))

pub returns-clause-next : goal.returns-clause-next
returns-clause-next c =
    let times = c.args.self.now in
    let chance = chance_number times c.args.next in
    sym (not_before times c.time_of-own.ensures.valid c.args.now chance (omega (arith, c.time_of-own.ensures.time)))

pub returns-clause-waiting : goal.returns-clause-waiting
returns-clause-waiting c =
    let times = c.args.self.now in
    let chance = chance_number times c.args.next in
    sym (none_waits times c.time_of-own.ensures.valid c.args.now chance (omega (arith, c.time_of-own.ensures.time)))
