use Rattle.std.proofs.Common.{arith}
use Rattle.shared_link.proofs.TimeLemmas.{turn_fits, after_next, one_waits, none_waits}
use Rattle.shared_link.proofs.sending.Sending.serve.Goals as goal

pub after-self-requires-clause-fits : goal.after-self-requires-clause-fits
after-self-requires-clause-fits c =
    turn_fits c.args.trace.now c.requires.sending.valid c.args.self.now c.requires.sending c.requires.waiting

pub returns-then-own-self-clause-sending : goal.returns-then-own-self-clause-sending
returns-then-own-self-clause-sending c =
    let times = c.args.trace.now in
    let old = c.args.self.now in
    let is = c.requires.sending in
    record {
      valid = is.valid;
      rounds = is.rounds;
      now = is.now;
      next_place = c.after-self.ensures.place;
      place = c.after-self.ensures.place;
      next = after_next times is.valid old is c.requires.waiting c.after-self.result c.after-self.ensures.number;
      waiting = one_waits times is.valid old is c.requires.waiting c.after-self.result c.after-self.ensures.number (omega (arith, c.if-own-self.true, c.requires.own));
      few = omega (arith, c.requires.waiting);
    }

pub returns-else-own-self-clause-sending : goal.returns-else-own-self-clause-sending
returns-else-own-self-clause-sending c =
    let times = c.args.trace.now in
    let old = c.args.self.now in
    let is = c.requires.sending in
    record {
      valid = is.valid;
      rounds = is.rounds;
      now = is.now;
      next_place = c.after-self.ensures.place;
      place = c.after-self.ensures.place;
      next = after_next times is.valid old is c.requires.waiting c.after-self.result c.after-self.ensures.number;
      waiting = none_waits times is.valid old is c.requires.waiting c.after-self.result c.after-self.ensures.number (omega (arith, c.if-own-self.false, c.requires.own));
      few = omega (arith, c.requires.waiting);
    }
