use Rattle.std.proofs.Common.{arith}
use Rattle.link_model.specs.Chances.{chance_number}
use Rattle.shared_link.proofs.TimeLemmas.{next_late}
use Rattle.shared_link.proofs.sending.Sending.at.Goals as goal

pub queue-queue-requires-clause-fits : goal.queue-queue-requires-clause-fits
queue-queue-requires-clause-fits c =
    let times = c.args.trace.now in
    omega (arith, next_late times c.requires.valid c.args.now (chance_number times c.args.next) c.requires.waiting, c.requires.now)

pub returns-clause-sending : goal.returns-clause-sending
returns-clause-sending c = record {
  valid = c.requires.valid;
  rounds = c.requires.rounds;
  now = c.requires.now;
  next_place = c.requires.place;
  place = c.queue-queue.ensures.place;
  next = c.queue-queue.ensures.next;
  waiting = c.queue-queue.ensures.waiting;
  few = omega (arith, c.queue-queue.ensures.waiting, c.requires.waiting);
}
