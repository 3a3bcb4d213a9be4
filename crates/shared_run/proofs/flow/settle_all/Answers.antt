use Rattle.std.proofs.Common.{Bool, true, false, refl, subst}
use Rattle.shared_run.specs.RoundFlows.{MakesNext}
use Rattle.shared_run.proofs.RoundFlowLemmas.{fewer-left, turned-history, turned-on, turned-last}
use Rattle.shared_run.proofs.flow.settle_all.Goals as goal

pub loop-init : goal.loop-init
loop-init g c = (c.requires, (λ core after. (core, after, refl)))

pub loop-smaller : goal.loop-smaller
loop-smaller g c =
    let flow = g.F.GivenFlow in
    let old = c.loop.flow in
    let new = c.turn.new.flow in
    let made : MakesNext flow.at c.args.at_end true old.flow old.tally new.flow new.tally =
    subst (λ (made : Bool). MakesNext flow.at c.args.at_end made old.flow old.tally new.flow new.tally) c.if-branch.true c.in_ok-turn.ensures in
    fewer-left flow.at flow.bare_of g.met.F.GivenFlow.bare_law old.flow old.tally c.args.at_end new.flow new.tally c.loop.invariant.0 made

pub loop-preserved : goal.loop-preserved
loop-preserved g c =
    let flow = g.F.GivenFlow in
    let first = c.args.flow.now in
    let old = c.loop.flow in
    let new = c.turn.new.flow in
    let made : MakesNext flow.at c.args.at_end true old.flow old.tally new.flow new.tally =
    subst (λ (made : Bool). MakesNext flow.at c.args.at_end made old.flow old.tally new.flow new.tally) c.if-branch.true c.in_ok-turn.ensures in (
      turned-history flow.at c.args.at_end old.flow old.tally new.flow new.tally c.loop.invariant.0 made,
      turned-on flow.at c.args.at_end old.flow old.tally new.flow new.tally first.flow first.tally c.loop.invariant.1 made,
    )

pub returns : goal.returns
returns g c =
    let flow = g.F.GivenFlow in
    let first = c.args.flow.now in
    let old = c.loop.flow in
    let new = c.turn.new.flow in
    let none : MakesNext flow.at c.args.at_end false old.flow old.tally new.flow new.tally =
    subst (λ (made : Bool). MakesNext flow.at c.args.at_end made old.flow old.tally new.flow new.tally) c.if-branch.false c.in_ok-turn.ensures in
    turned-last flow.at c.args.at_end old.flow old.tally new.flow new.tally first.flow first.tally c.loop.invariant.1 none
