use Rattle.std.proofs.Common.{None, Ok, Err, List, length, ◌≡◌, ◌≤◌, ◌∙◌, ap, sym, subst}
use Rattle.ccp_base.specs.Limits.{most_cases}
use Rattle.feed_core.specs.FeedEnds.{Stream, stream}
use Rattle.driven_flow.specs.Driven.{Codes, DrivenState, codes_of}
use Rattle.driven_flow.specs.Session.{SessionState, opening}
use Rattle.ccp_run.specs.DriveTexts.{AreOf, IsHeardOut}
use Rattle.ccp_run.proofs.DriveTextRuns.{unmade, flows-few, flows-own}
use Rattle.ccp_run.proofs.modes.drive_text.made_of.Goals as goal

pub returns-in-Err-clause-made : goal.returns-in-Err-clause-made
returns-in-Err-clause-made g c =
    let coded = c.new-coded.ensures ∙ ap codes_of c.as_slice.ensures in
    let begun : c.begin-session.result ≡ opening (codes_of c.args.opened.programs) c.args.opened.cases = c.begin-session.ensures ∙ ap (λ (codes : Codes). opening codes c.args.opened.cases) coded in
    let source : Stream = stream (g.S.Source.remaining c.args.unheard.now.source.now) (g.S.Source.remaining c.hear_out.new.unheard.source.now) (g.S.Source.faults c.args.unheard.now.source.now) (g.S.Source.faults c.hear_out.new.unheard.source.now) in
    let sink : Stream = stream None None 0 0 in
    unmade c.args.shown c.args.wire c.args.rest.now c.args.opened source sink c.hear_out.new.session c.in-Err.stop
    (subst (λ (s : SessionState). IsHeardOut c.args.rest.now c.args.opened.place s c.hear_out.new.session source sink (Err c.in-Err.stop)) begun c.in-Err.ensures.heard)

pub flows_text-text-requires-clause-few : goal.flows_text-text-requires-clause-few
flows_text-text-requires-clause-few g c =
    let coded = c.new-coded.ensures ∙ ap codes_of c.as_slice.ensures in
    let begun : c.begin-session.result ≡ opening (codes_of c.args.opened.programs) c.args.opened.cases = c.begin-session.ensures ∙ ap (λ (codes : Codes). opening codes c.args.opened.cases) coded in
    let source : Stream = stream (g.S.Source.remaining c.args.unheard.now.source.now) (g.S.Source.remaining c.hear_out.new.unheard.source.now) (g.S.Source.faults c.args.unheard.now.source.now) (g.S.Source.faults c.hear_out.new.unheard.source.now) in
    let sink : Stream = stream None None 0 0 in
    subst (λ (flows : List DrivenState). length flows ≤ most_cases) (sym c.ended.ensures)
    (flows-few c.args.shown c.args.wire c.args.rest.now c.args.opened source sink c.hear_out.new.session
    (subst (λ (s : SessionState). IsHeardOut c.args.rest.now c.args.opened.place s c.hear_out.new.session source sink (Ok tt)) begun c.in-Ok.ensures.heard) c.requires.few)

pub flows_text-text-requires-clause-own : goal.flows_text-text-requires-clause-own
flows_text-text-requires-clause-own g c =
    let coded = c.new-coded.ensures ∙ ap codes_of c.as_slice.ensures in
    let begun : c.begin-session.result ≡ opening (codes_of c.args.opened.programs) c.args.opened.cases = c.begin-session.ensures ∙ ap (λ (codes : Codes). opening codes c.args.opened.cases) coded in
    let source : Stream = stream (g.S.Source.remaining c.args.unheard.now.source.now) (g.S.Source.remaining c.hear_out.new.unheard.source.now) (g.S.Source.faults c.args.unheard.now.source.now) (g.S.Source.faults c.hear_out.new.unheard.source.now) in
    let sink : Stream = stream None None 0 0 in
    subst (AreOf c.args.opened.programs) (sym c.ended.ensures)
    (flows-own c.args.shown c.args.wire c.args.rest.now c.args.opened source sink c.hear_out.new.session
    (subst (λ (s : SessionState). IsHeardOut c.args.rest.now c.args.opened.place s c.hear_out.new.session source sink (Ok tt)) begun c.in-Ok.ensures.heard))
