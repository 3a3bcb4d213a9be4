use Rattle.std.proofs.Common.{◌+◌, ap, sym, ◌∙◌}
use Rattle.flow_core.specs.Cores.{acked_as}
use Rattle.flow_core.specs.States.{outcome_by}
use Rattle.flow_core.proofs.RunningLemmas.{acked-by, met-kept, ran-kept, step-ran, is-ran, fits-framed}
use Rattle.flow_core.proofs.running.Running.ack.Goals as goal

pub returns-clause-running : goal.returns-clause-running
returns-clause-running g c =
    let s = c.args.self.now in
    let ack = c.args.ack.now in
    let code = c.args.code.now.code in
    let machine = c.run-acked.new.machine in
    let met = sym (met-kept s ack code c.room-room.result c.room-room.ensures) ∙ c.run-acked.ensures.met in
    is-ran s ack c.args.flow code (outcome_by c.run-acked.result machine.report) machine c.record_outcome.new.self met
    c.run-acked.ensures.stopped c.run-acked.ensures.further c.record_outcome.ensures c.requires.running

pub returns-clause-fits : goal.returns-clause-fits
returns-clause-fits g c =
    fits-framed c.run-acked.new.machine c.record_outcome.new.self.machine c.args.code.now.code c.record_outcome.ensures.machine c.run-acked.ensures.fits

pub returns-clause-step : goal.returns-clause-step
returns-clause-step g c =
    let s = c.args.self.now in
    let ack = c.args.ack.now in
    let code = c.args.code.now.code in
    let machine = c.run-acked.new.machine in
    let met = sym (met-kept s ack code c.room-room.result c.room-room.ensures) ∙ c.run-acked.ensures.met in
    step-ran s ack c.args.flow code (outcome_by c.run-acked.result machine.report) machine c.record_outcome.new.self met
    c.run-acked.ensures.stopped c.run-acked.ensures.further c.record_outcome.ensures

pub returns-clause-acked : goal.returns-clause-acked
returns-clause-acked g c =
    let s = c.args.self.now in
    let machine = c.run-acked.new.machine in
    let met = sym (met-kept s c.args.ack.now c.args.code.now.code c.room-room.result c.room-room.ensures) ∙ c.run-acked.ensures.met in
    sym (acked-by c.run-acked.result machine.report) ∙ ap (λ m. acked_as m.0) (sym met)

pub returns-clause-steps : goal.returns-clause-steps
returns-clause-steps g c =
    c.run-acked.ensures.steps
    ∙ ap (λ n. c.args.steps.now + n) (ran-kept c.args.self.now c.args.ack.now c.args.code.now.code c.room-room.result c.room-room.ensures)
