use Rattle.std.proofs.Common.{◌<◌, ◌+◌, ◌-◌, arith}
use Rattle.link_model.specs.Chances.{chance_number}
use Rattle.link_model.specs.Rings.{arrival_at, arrivals_in}
use Rattle.link_model.proofs.LineLemmas.{all_wait}
use Rattle.link_model.proofs.line.Line.count_waiting.Goals.{then-loop-from-test+else-arrival_time-now, else-loop-from-test}
use Rattle.link_model.proofs.line.Line.count_waiting.Goals as goal

pub returns-clause-waiting : goal.returns-clause-waiting
returns-clause-waiting c =
    let case = c.args.case.now in
    let flight = c.args.flight.now in
    let from = c.loop-from.from in
    let kept = c.loop-from.invariant in
    let late : from < flight.put → c.args.now + case.delay_us < (arrival_at (arrivals_in flight) (from - flight.taken)).at =
    elim c.loop-from-test.branch as (λ _. from < flight.put → c.args.now + case.delay_us < (arrival_at (arrivals_in flight) (from - flight.taken)).at) [
      | then-loop-from-test+else-arrival_time-now w ↦ (λ some. omega (arith, w.if-arrival_time-now.false, w.arrival_time.ensures))
      | else-loop-from-test w ↦ (λ some. absurd (omega (arith, w.loop-from-test.false, some)))
    ] in
    all_wait case c.requires.valid c.args.now (chance_number case.trace c.args.self.now.next.chance) from flight.taken flight.put (arrivals_in flight) kept.3 kept.2 late
