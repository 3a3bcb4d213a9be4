use Rattle.std.proofs.Common.{rules, inr, sym, subst, arith}
use Rattle.feed_core.specs.FeedTurns.{IsTurn, KeepsFinished}
use Rattle.feed_core.proofs.FeedEats.{some-used}
use Rattle.feed_core.proofs.TurnLemmas.{turns-without, keeps-without}
use Rattle.feed_core.proofs.turn.other_frame.Goals as goal

pub returns-in-Ok-answer-clause-turn : goal.returns-in-Ok-answer-clause-turn
returns-in-Ok-answer-clause-turn g c =
    let used = some-used c.args.bytes.now c.in-Ok.message c.in-Ok.version c.in-Ok.used c.in-Ok.ensures.found in
    record {
      message = c.in-Ok.message;
      version = c.in-Ok.version;
      begins = c.in-Ok.ensures.found;
      some = used.0;
      within = used.1;
      next = sym c.in-Ok-answer.ensures.state;
      counted = c.in-Ok-answer.ensures.one;
      written = c.in-Ok-answer.ensures.written;
      handed = c.in-Ok-answer.ensures.handed;
    }

pub returns-in-Err-clause-turn : goal.returns-in-Err-clause-turn
returns-in-Err-clause-turn g c =
    subst (IsTurn g.A.Answerer.answer_of g.A.Answerer.room g.A.Answerer.Takes (g.D.Duplex.write_faults c.args.duplex.now) (g.D.Duplex.write_faults c.args.duplex.now) (g.D.Duplex.is_finished c.args.duplex.now) (g.D.Duplex.written c.args.duplex.now) (g.D.Duplex.written c.args.duplex.now) c.args.answerer.now c.args.answerer.now c.args.bytes.now)
    (sym c.without_frame.ensures)
    (turns-without g.A.Answerer.answer_of g.A.Answerer.room g.A.Answerer.Takes (g.D.Duplex.write_faults c.args.duplex.now) (g.D.Duplex.is_finished c.args.duplex.now) (g.D.Duplex.written c.args.duplex.now) c.args.answerer.now c.args.bytes.now (λ i. omega (arith, c.type_inv.bytes i))
    c.decode.result c.decode.ensures.told c.decode.ensures.more c.decode.ensures.bad c.decode.ensures.memory c.in-Err.fault c.in-Err.is)

pub returns-in-Err-NoMemory-clause-turn : goal.returns-in-Err-NoMemory-clause-turn
returns-in-Err-NoMemory-clause-turn g c = record {
  cause = inr (record {
    message = c.in-Ok.message;
    version = c.in-Ok.version;
    used = c.in-Ok.used;
    begins = c.in-Ok.ensures.found;
    takes = c.answer.ensures.memory (search rules);
  });
  nothing = search rules;
}

pub returns-in-Err-clause-kept : goal.returns-in-Err-clause-kept
returns-in-Err-clause-kept g c =
    subst (KeepsFinished (g.D.Duplex.is_finished c.args.duplex.now) (g.D.Duplex.is_finished c.args.duplex.now)) (sym c.without_frame.ensures)
    (keeps-without (g.D.Duplex.is_finished c.args.duplex.now) c.in-Err.fault)

pub returns-in-Err-NoMemory-clause-kept : goal.returns-in-Err-NoMemory-clause-kept
returns-in-Err-NoMemory-clause-kept g c =
    subst (λ duplex. g.D.Duplex.is_finished duplex) (sym (c.answer.ensures.untouched (search rules)))
