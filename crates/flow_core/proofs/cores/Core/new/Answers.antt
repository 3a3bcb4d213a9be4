use Rattle.std.proofs.Common.{arith, ap, ◌∙◌}
use Rattle.flow_core.specs.declared.case.Case.{Case}
use Rattle.flow_core.specs.Bares.{BareState}
use Rattle.flow_core.specs.BookFlows.{BookFlowState}
use Rattle.flow_core.proofs.CoreLemmas.{core-opened}
use Rattle.flow_core.proofs.cores.Core.new.Goals as goal

pub invariant_of-result : goal.invariant_of-result
invariant_of-result c =
    let its = c.case.ensures ∙ ap (λ (b : BareState). b.case) c.bare.ensures ∙ ap (λ (f : BookFlowState). f.bare.case) c.in_ok-flow.ensures in
    let most = ap (λ (case : Case). case.acks) its in
    core-opened c.args.case c.in_ok-flow.flow c.in-Ok.acks c.in_ok-flow.ensures c.in-Ok.ensures.items (omega (arith, c.in-Ok.ensures.room, most))
