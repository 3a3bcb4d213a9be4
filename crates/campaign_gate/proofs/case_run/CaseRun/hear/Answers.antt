use Rattle.std.proofs.Common.{ap, Bool, ◌∙◌}
use Rattle.flow_core.specs.declared.letter.Letter.TheVariants.{A}
use Rattle.flow_core.specs.Bares.{BareState}
use Rattle.link_model.specs.Rated.{rated}
use Rattle.campaign_gate.proofs.CaseRunLemmas.{may-next, few-calls, roomy-next, onward-A}
use Rattle.campaign_gate.proofs.case_run.CaseRun.hear.Goals as goal

pub next_into-requires : goal.next_into-requires
next_into-requires g c =
    let flow = g.F.GivenFlow in
    let run = c.args.self.now in
    few-calls flow.at flow.bare_of g.met.F.GivenFlow.bare_law run.flow.flow run.flow.tally run.link c.requires

pub hear-requires-clause-left : goal.hear-requires-clause-left
hear-requires-clause-left g c =
    let flow = g.F.GivenFlow in
    let run = c.args.self.now in
    may-next flow.at flow.bare_of g.met.F.GivenFlow.bare_law run.flow.flow run.flow.tally run.link A c.requires

pub hear-requires-clause-roomy : goal.hear-requires-clause-roomy
hear-requires-clause-roomy g c =
    let flow = g.F.GivenFlow in
    let run = c.args.self.now in
    let window = c.cwnd-window.ensures ∙ ap (λ (b : BareState). b.summary.track.env.cwnd) c.bare.ensures in
    roomy-next flow.at flow.bare_of g.met.F.GivenFlow.bare_law run.flow.flow run.flow.tally run.link c.requires
    c.cwnd-window.result c.gets_rates-rates.result c.next_into.new.ack window c.next_into.ensures.ack

pub returns : goal.returns
returns g c =
    let flow = g.F.GivenFlow in
    let run = c.args.self.now in
    let new = c.hear.new.self in
    let window = c.cwnd-window.ensures ∙ ap (λ (b : BareState). b.summary.track.env.cwnd) c.bare.ensures in
    onward-A flow.at flow.bare_of g.met.F.GivenFlow.bare_law run.flow.flow run.flow.tally run.link c.requires
    c.cwnd-window.result c.gets_rates-rates.result c.next_into.new.ack window c.next_into.ensures.ack
    new.flow new.tally c.next_into.new.self
    (λ whole got. c.hear.ensures whole (got ∙ ap (λ (rates : Bool). rated rates whole) c.gets_rates-rates.ensures))
    c.next_into.ensures.stands c.next_into.ensures.case
