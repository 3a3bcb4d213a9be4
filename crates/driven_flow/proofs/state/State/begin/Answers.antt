use Rattle.std.proofs.Common.{sym, subst}
use Rattle.flow_core.specs.Books.{line_of}
use Rattle.driven_flow.specs.Driven.{DrivenState}
use Rattle.driven_flow.specs.DrivenStates.{IsDriven}
use Rattle.driven_flow.proofs.StateLemmas.{driven-open, opened-same}
use Rattle.driven_flow.proofs.state.State.begin.Goals as goal

pub returns-clause-is : goal.returns-clause-is
returns-clause-is c =
    let opened = c.args.opened in
    let line = line_of opened.running.epoch 0 opened.running.machine.kept.cwnd in
    subst (λ (d : DrivenState). IsDriven d opened.running opened.link opened.journal c.none.result c.cwnd-peak.result)
    (sym (opened-same c.args.programs.now c.args.case c.args.program c.args.values.now line opened.journal c.requires.journal))
    (driven-open c.args.programs.now c.args.case c.args.program c.args.values.now opened c.requires c.none.result c.cwnd-peak.result
    c.none.ensures c.cwnd-peak.ensures)

pub returns-clause-begun : goal.returns-clause-begun
returns-clause-begun c =
    let opened = c.args.opened in
    let line = line_of opened.running.epoch 0 opened.running.machine.kept.cwnd in
    opened-same c.args.programs.now c.args.case c.args.program c.args.values.now line opened.journal c.requires.journal
