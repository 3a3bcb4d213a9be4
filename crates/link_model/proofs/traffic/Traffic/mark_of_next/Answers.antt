use Rattle.std.proofs.Common.{max, ◌<◌, arith}
use Rattle.link_model.specs.Chances.{chance_number}
use Rattle.link_model.specs.LinkMoves.{standing_in, waiting_now}
use Rattle.link_model.specs.Lines.{least_noticed}
use Rattle.link_model.specs.Rings.{arrivals_in}
use Rattle.link_model.proofs.LineLemmas.{fewer_wait}
use Rattle.link_model.proofs.SendingLemmas.{least_noticed-queue, least_noticed-mark}
use Rattle.link_model.proofs.traffic.Traffic.mark_of_next.Goals as goal

pub returns-then-self-clause-room : goal.returns-then-self-clause-room
returns-then-self-clause-room c =
    let case = c.args.case.now in
    let old = c.args.self.now in
    let line = c.requires.kept.line in
    let fewer = fewer_wait case c.requires.kept.valid old.time (chance_number case.trace old.line.next.chance) (max old.line.gone old.flight.taken) old.flight.taken old.flight.put (arrivals_in old.flight) line.queued in
    omega (arith, fewer, line.free, line.gone, c.if-self.true, least_noticed-queue case.queue case.mark)

pub returns-then-self-clause-mark : goal.returns-then-self-clause-mark
returns-then-self-clause-mark c =
    let case = c.args.case.now in
    let old = c.args.self.now in
    let line = c.requires.kept.line in
    let fewer = fewer_wait case c.requires.kept.valid old.time (chance_number case.trace old.line.next.chance) (max old.line.gone old.flight.taken) old.flight.taken old.flight.put (arrivals_in old.flight) line.queued in
    let few : waiting_now case (standing_in case.trace old) < least_noticed case.queue case.mark = omega (arith, fewer, line.free, line.gone, c.if-self.true) in
    least_noticed-mark case.queue (waiting_now case (standing_in case.trace old)) case.mark few
