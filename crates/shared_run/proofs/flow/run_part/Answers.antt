use Rattle.std.proofs.Common.{◌≡◌, ◌∷◌, [], arith, refl}
use Rattle.std.proofs.lemmas.List.{nil_from_length}
use Rattle.flow_core.specs.Readings.{over_codes}
use Rattle.flow_core.specs.Cores.{CoreState, with_ack}
use Rattle.shared_run.specs.RoundLetters.{with_settled_ack}
use Rattle.campaign_core.specs.GivenFlows.{IsAfterHistory}
use Rattle.shared_run.proofs.RoundFlowLemmas.{hears-first, hears-rest, part-on, part-done}
use Rattle.shared_run.proofs.flow.run_part.Goals as goal

pub loop-ack-init : goal.loop-ack-init
loop-ack-init g c = (c.requires, (λ core after. (core, after, refl)), omega arith)

pub hear-requires : goal.hear-requires
hear-requires g c =
    let old = c.loop-ack.flow in
    hears-first g.F.GivenFlow.at c.loop-ack.left.now c.in-Some.rest.now c.in-Some.ack.now old.flow old.tally c.in-Some.ensures.cases.0
    c.loop-ack.invariant.0

pub settle_all-requires : goal.settle_all-requires
settle_all-requires g c =
    let old = c.loop-ack.flow in
    let first = hears-first g.F.GivenFlow.at c.loop-ack.left.now c.in-Some.rest.now c.in-Some.ack.now old.flow old.tally c.in-Some.ensures.cases.0 c.loop-ack.invariant.0 in
    record { core = with_ack first.core c.in-Some.ack.now; after = c.hear.ensures first.core first.after }

pub loop-ack-preserved : goal.loop-ack-preserved
loop-ack-preserved g c =
    let at = g.F.GivenFlow.at in
    let old = c.loop-ack.flow in
    let new = c.settle_all.new.flow in
    let first = c.args.flow.now in
    let ack = c.in-Some.ack.now in
    let rest = c.in-Some.rest.now in
    let split : c.loop-ack.left.now ≡ ack ∷ rest = c.in-Some.ensures.cases.0 in
    let long = c.in-Some.ensures.cases.1 in
    let goes : (core : CoreState) → IsAfterHistory at core old.flow old.tally → IsAfterHistory at (with_settled_ack over_codes ack core) new.flow new.tally =
    λ core after. c.in_ok-settle_all.ensures (with_ack core ack) (c.hear.ensures core after) in (
      hears-rest at c.loop-ack.left.now rest ack old.flow old.tally new.flow new.tally split c.loop-ack.invariant.0 goes,
      part-on at c.args.acks.now c.loop-ack.left.now rest ack first.flow first.tally old.flow old.tally new.flow new.tally split c.loop-ack.invariant.1 goes,
      omega (arith, long, c.loop-ack.invariant.2),
    )

pub returns-clause-part : goal.returns-clause-part
returns-clause-part g c =
    let first = c.args.flow.now in
    let new = c.loop-ack.flow in
    let none : c.loop-ack.left.now ≡ [] = nil_from_length c.loop-ack.left.now c.in_default.ensures.cases in
    part-done g.F.GivenFlow.at c.args.acks.now c.loop-ack.left.now first.flow first.tally new.flow new.tally none c.loop-ack.invariant.1
