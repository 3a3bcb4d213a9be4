use Rattle.std.proofs.Common.{◌≤◌, IfSome, Option, length, arith, ap, sym, ◌∙◌, subst}
use Rattle.ccp_base.specs.Limits.{most_acks}
use Rattle.ccp_base.specs.declared.exchange.Told.{Told}
use Rattle.flow_core.specs.Summaries.{Summary}
use Rattle.driven_flow.specs.Driven.{world_by}
use Rattle.driven_flow.specs.DrivenStates.{driven_of}
use Rattle.driven_flow.specs.Session.{IsShort}
use Rattle.driven_flow.proofs.SpanLemmas.{told-short}
use Rattle.driven_flow.proofs.StateLemmas.{told-same}
use Rattle.driven_flow.proofs.driven.DrivenFlow.told_out.Goals as goal

pub returns-clause-short : goal.returns-clause-short
returns-clause-short c =
    let s = c.self.inside.state in
    let d = driven_of s in
    let is = c.self.invariant in
    let same = ap (λ (summary : Summary). summary.acks) is.stands in
    let few = is.whole.acks in
    let most = s.case.acks_within in
    let within : length (world_by d).acks ≤ most_acks = omega (arith, same, few, most) in
    subst (λ (told : Option Told). IfSome told IsShort) (sym (c.told_out.ensures ∙ told-same d s.running s.link s.journal s.sums s.peak is))
    (told-short d within)
