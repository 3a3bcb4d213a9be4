use Rattle.std.proofs.Common.{◌≡◌, ℕ, ◌+◌, ◌<◌, List, length, arith, ap, sym, ◌∙◌, subst}
use Rattle.std.proofs.lemmas.Bool.{lt-ltb}
use Rattle.ccp_base.specs.declared.ack.Ack.{Ack}
use Rattle.flow_core.specs.declared.case.Case.{Case}
use Rattle.flow_core.specs.Readings.{over_codes}
use Rattle.flow_core.specs.Cores.{CoreState, acked_as, acked_with, heard_in, ran_in}
use Rattle.flow_core.specs.Summaries.{Summary, outcome_at}
use Rattle.flow_core.specs.Bares.{instructions_at}
use Rattle.flow_core.specs.BookFlows.{BookFlowState}
use Rattle.flow_core.specs.Journals.{core_by}
use Rattle.flow_core.proofs.CoreLemmas.{summary-is, count-is, world-A, core-A}
use Rattle.flow_core.proofs.cores.Core.ack.Goals as goal

-- an acknowledgement of the case is left
left : (flow : BookFlowState) (acks : List Ack) (old : CoreState) → core_by flow acks ≡ old → (count most : ℕ) → count < most → count ≡ length old.acks
    → most ≡ old.case.acks → length acks < flow.bare.case.acks
left flow acks old same count most few is_count is_most =
    subst (λ (core : CoreState). length core.acks < core.case.acks) (sym same) (omega (arith, few, is_count, is_most))

pub ack-acked-requires : goal.ack-acked-requires
ack-acked-requires g c =
    let flow = c.self.inside.flow in
    let acks = c.self.inside.acks in
    let most = ap (λ (case : Case). case.acks) c.case.ensures.case in
    let more = left flow acks.items c.args.self.now c.self.view_is c.acks.result c.case.result.now.acks c.if-acks-case.false c.acks.ensures most in
    lt-ltb flow.bare.summary.acks flow.bare.case.acks (omega (arith, more, count-is flow acks c.self.invariant))

pub push-requires : goal.push-requires
push-requires g c =
    let flow = c.self.inside.flow in
    let acks = c.self.inside.acks in
    let most = ap (λ (case : Case). case.acks) c.case.ensures.case in
    let more = left flow acks.items c.args.self.now c.self.view_is c.acks.result c.case.result.now.acks c.if-acks-case.false c.acks.ensures most in
    omega (arith, more, c.self.invariant.room)

pub invariant_of-self : goal.invariant_of-self
invariant_of-self g c =
    let flow = c.self.inside.flow in
    let acks = c.self.inside.acks in
    let most = ap (λ (case : Case). case.acks) c.case.ensures.case in
    let more = left flow acks.items c.args.self.now c.self.view_is c.acks.result c.case.result.now.acks c.if-acks-case.false c.acks.ensures most in
    core-A flow acks c.self.invariant c.args.ack.now c.ack-acked.new.self c.push.new.self c.ack-acked.ensures.ok c.push.ensures.whole more

pub returns-clause-world : goal.returns-clause-world
returns-clause-world g c =
    world-A c.self.inside.flow c.self.inside.acks c.self.invariant c.args.ack.now c.ack-acked.new.self c.push.new.self c.ack-acked.ensures.ok c.push.ensures.whole
    ∙ ap (λ (core : CoreState). heard_in core c.args.ack.now) c.self.view_is

pub returns-clause-acked : goal.returns-clause-acked
returns-clause-acked g c =
    let flow = c.self.inside.flow in
    c.ack-acked.ensures.acked
    ∙ ap (λ (s : Summary). acked_as (outcome_at (over_codes flow.bare.case) c.args.ack.now s).0) (summary-is flow c.self.inside.acks c.self.invariant)
    ∙ ap (λ (core : CoreState). acked_with core c.args.ack.now) c.self.view_is

pub returns-clause-steps : goal.returns-clause-steps
returns-clause-steps g c =
    let flow = c.self.inside.flow in
    let ran =
    ap (instructions_at flow.bare.case c.args.ack.now) (summary-is flow c.self.inside.acks c.self.invariant)
    ∙ ap (λ (core : CoreState). ran_in core c.args.ack.now) c.self.view_is in
    c.ack-acked.ensures.steps ∙ ap (λ (n : ℕ). c.args.steps.now + n) ran
