use Rattle.std.proofs.Common.{refl, subst}
use Rattle.std.proofs.lemmas.Result.{on_ok_weaker}
use Rattle.flow_core.specs.declared.letter.Letter.{Letter}
use Rattle.flow_core.specs.declared.letter.Letter.TheVariants.{T, C}
use Rattle.campaign_gate.specs.CaseRuns.{IsNextLetter}
use Rattle.campaign_gate.proofs.CaseRunLemmas.{may-next, onward-T, onward-C}
use Rattle.campaign_gate.proofs.case_run.CaseRun.make.Goals as goal

pub take-requires : goal.take-requires
take-requires g c =
    let flow = g.F.GivenFlow in
    let run = c.args.self.now in
    may-next flow.at flow.bare_of g.met.F.GivenFlow.bare_law run.flow.flow run.flow.tally run.link T
    (subst (λ (letter : Letter). IsNextLetter flow.at run.flow.flow run.flow.tally run.link letter) c.in-T.is c.requires)

pub settle-requires : goal.settle-requires
settle-requires g c =
    let flow = g.F.GivenFlow in
    let run = c.args.self.now in
    may-next flow.at flow.bare_of g.met.F.GivenFlow.bare_law run.flow.flow run.flow.tally run.link C
    (subst (λ (letter : Letter). IsNextLetter flow.at run.flow.flow run.flow.tally run.link letter) c.in-C.is c.requires)

pub returns-in-T : goal.returns-in-T
returns-in-T g c =
    let flow = g.F.GivenFlow in
    let run = c.args.self.now in
    let new = c.take.new.self in
    on_ok_weaker c.take.result
    (onward-T flow.at flow.bare_of g.met.F.GivenFlow.bare_law run.flow.flow run.flow.tally run.link new.flow new.tally run.link
    (subst (λ (letter : Letter). IsNextLetter flow.at run.flow.flow run.flow.tally run.link letter) c.in-T.is c.requires) refl)
    c.take.ensures

pub returns-in-C : goal.returns-in-C
returns-in-C g c =
    let flow = g.F.GivenFlow in
    let run = c.args.self.now in
    let new = c.settle.new.self in
    onward-C flow.at flow.bare_of g.met.F.GivenFlow.bare_law run.flow.flow run.flow.tally run.link new.flow new.tally run.link
    (subst (λ (letter : Letter). IsNextLetter flow.at run.flow.flow run.flow.tally run.link letter) c.in-C.is c.requires) refl c.settle.ensures
