use Rattle.std.proofs.Common.{sym, ◌∙◌}
use Rattle.portus_core.specs.ProgramForm.{form_of}
use Rattle.portus_core.specs.OneAcknowledgement.{reset_of}
use Rattle.program_bounds.proofs.SettleLemmas.{settled_asked, without_room}
use Rattle.program_bounds.proofs.settle.settle_case.Goals as goal

pub returns-clause-settled : goal.returns-clause-settled
returns-clause-settled c ack going room is shape has_room =
    let form = form_of c.args.program.now in
    settled_asked form c.show.new.report c.widen-2.new.self going.asked room going.env (sym is.asked ∙ c.if-not-case.false)
    (λ none. c.widen-2.ensures.own going.env (c.hold.ensures.held (without_room c.args.has_room room has_room none) going.env is.kept))
    (c.widen-2.ensures.others (reset_of form going.env) (c.after_report.ensures going.env shape is.kept))
    (c.show.ensures.shown going.env is.kept)
