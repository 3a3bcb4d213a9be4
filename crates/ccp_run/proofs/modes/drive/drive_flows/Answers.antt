use Rattle.std.proofs.Common.{◌≡◌, ◌∙◌, ap, sym, subst}
use Rattle.feed_core.specs.Answering.{after}
use Rattle.feed_core.specs.FeedEnds.{Stream, stream, AllowsAnswered}
use Rattle.driven_flow.specs.Driven.{Codes, codes_of}
use Rattle.driven_flow.specs.Session.{SessionState, opening}
use Rattle.ccp_run.specs.DriveInputs.{driven_by}
use Rattle.ccp_run.specs.DriveEnds.{IsSessionEnd}
use Rattle.ccp_run.proofs.modes.drive.drive_flows.Goals as goal

pub drive_session-end-requires-clause-allowed : goal.drive_session-end-requires-clause-allowed
drive_session-end-requires-clause-allowed g c =
    let coded = c.new-coded.ensures ∙ ap codes_of c.as_slice.ensures in
    let begun : c.begin-session.result ≡ opening (codes_of c.args.opened.programs) c.args.opened.cases = c.begin-session.ensures ∙ ap (λ (codes : Codes). opening codes c.args.opened.cases) coded in
    subst (λ (s : SessionState). AllowsAnswered (after c.args.rest.now (driven_by s c.args.opened.place)) g.D.Duplex.remaining g.D.Duplex.written g.D.Duplex.is_finished g.D.Duplex.Follows g.D.Duplex.MayRead c.args.duplex.now)
    (sym begun) c.requires.allowed

pub returns-clause-end : goal.returns-clause-end
returns-clause-end g c =
    let coded = c.new-coded.ensures ∙ ap codes_of c.as_slice.ensures in
    let begun : c.begin-session.result ≡ opening (codes_of c.args.opened.programs) c.args.opened.cases = c.begin-session.ensures ∙ ap (λ (codes : Codes). opening codes c.args.opened.cases) coded in
    let source : Stream = stream (g.D.Duplex.remaining c.args.duplex.now) (g.D.Duplex.remaining c.drive_session-end.new.duplex) (g.D.Duplex.read_faults c.args.duplex.now) (g.D.Duplex.read_faults c.drive_session-end.new.duplex) in
    let sink : Stream = stream (g.D.Duplex.written c.args.duplex.now) (g.D.Duplex.written c.drive_session-end.new.duplex) (g.D.Duplex.write_faults c.args.duplex.now) (g.D.Duplex.write_faults c.drive_session-end.new.duplex) in (
      c.drive_session-end.new.session,
      subst (λ (s : SessionState). IsSessionEnd c.args.rest.now c.args.opened.place s c.drive_session-end.new.session source sink (g.D.Duplex.is_finished c.drive_session-end.new.duplex) c.drive_session-end.result) begun c.drive_session-end.ensures.end,
    )
