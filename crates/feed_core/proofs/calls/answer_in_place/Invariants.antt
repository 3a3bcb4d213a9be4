use Rattle.std.proofs.Common.{◌≡◌, ◌+◌, ◌-◌, ◌≤◌, None, length}
use Rattle.feed_core.specs.FeedTurns.{IsFeeding}
use Rattle.feed_core.proofs.calls.answer_in_place.Given as goal

abbrev pub invariant-loop-used : goal.invariant-loop-used
invariant-loop-used g l = record {
  follows : g.D.Duplex.Follows l.initial.duplex l.duplex;
  reads : g.D.Duplex.read_faults l.initial.duplex ≤ g.D.Duplex.read_faults l.duplex;
  writes : g.D.Duplex.write_faults l.initial.duplex ≤ g.D.Duplex.write_faults l.duplex;
  kept : g.D.Duplex.is_finished l.initial.duplex → g.D.Duplex.is_finished l.duplex;
  none : l.answer ≡ None;
  feeding : IsFeeding
      (record { answer = g.A.Answerer.answer_of; room = g.A.Answerer.room; limit = l.limit; place = l.eaten; state = l.initial.answerer; before = l.initial.rest })
      (g.D.Duplex.remaining l.initial.duplex) (g.D.Duplex.remaining l.duplex)
      (g.D.Duplex.written l.initial.duplex) (g.D.Duplex.written l.duplex) (g.D.Duplex.is_finished l.duplex) l.answerer l.place l.rest;
}

abbrev pub decreases-loop-used : goal.decreases-loop-used
decreases-loop-used g l = (l.limit - l.place) + (l.limit - (l.place + length l.rest))
