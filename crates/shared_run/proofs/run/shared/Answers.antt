use Rattle.std.proofs.Common.{◌≡◌, List, map, ap, sym, ◌∙◌, subst}
use Rattle.flow_core.specs.Cores.{CoreState}
use Rattle.flow_core.specs.Readings.{over_codes}
use Rattle.campaign_core.specs.declared.tally.Tally.{Tally}
use Rattle.campaign_core.specs.declared.tallied_flow.TalliedFlow.{TalliedFlow}
use Rattle.shared_run.specs.SharedHistory.{flows_at_end}
use Rattle.shared_run.specs.SharedBooks.{AreGivensOf}
use Rattle.shared_run.proofs.BookLemmas.{AreStill, firsts, kept-firsts}
use Rattle.shared_run.proofs.CourseLemmas.{ends}
use Rattle.shared_run.proofs.LiftedRunLemmas.{lifted}
use Rattle.shared_run.proofs.RunLemmas.{run-whole, run-still}
use Rattle.shared_run.proofs.run.shared.Goals as goal

pub givens_of-requires : goal.givens_of-requires
givens_of-requires g c =
    let scene = c.args.scene in
    let run = c.in_ok-run.run' in
    let cores = flows_at_end scene.link over_codes scene.scene.cases scene.rounds in
    let flows : map (λ (shared : TalliedFlow CoreState). shared.flow) run.flows.items ≡ cores =
    firsts (λ (shared : TalliedFlow CoreState). shared.flow) (λ (shared : TalliedFlow CoreState). shared.tally) run.flows.items
    ∙ ap (λ (keeps : List (CoreState × Tally)). map (λ (kept : CoreState × Tally). kept.0) keeps) c.in_ok-run.ensures.flows ∙ kept-firsts cores in
    subst AreStill (sym flows) (run-still scene.link scene.scene.cases scene.rounds)

pub returns-clause-run : goal.returns-clause-run
returns-clause-run g c =
    let scene = c.args.scene in
    let run = c.in_ok-run.run' in
    let cores = flows_at_end scene.link over_codes scene.scene.cases scene.rounds in
    let flows : map (λ (shared : TalliedFlow CoreState). shared.flow) run.flows.items ≡ cores =
    firsts (λ (shared : TalliedFlow CoreState). shared.flow) (λ (shared : TalliedFlow CoreState). shared.tally) run.flows.items
    ∙ ap (λ (keeps : List (CoreState × Tally)). map (λ (kept : CoreState × Tally). kept.0) keeps) c.in_ok-run.ensures.flows ∙ kept-firsts cores in
    record {
      givens = subst (λ (list : List CoreState). AreGivensOf list c.in_ok-givens.givens) flows c.in_ok-givens.ensures;
      rows =
          c.in_ok-rows.ensures cores (run-whole scene.link scene.scene.cases scene.rounds)
          (ap (λ (items : List (TalliedFlow CoreState)). map (λ (shared : TalliedFlow CoreState). (shared.flow, shared.tally)) items) c.as_slice.ensures.value ∙ c.in_ok-run.ensures.flows);
      counts = c.in_ok-run.ensures.counts;
    }

pub returns-clause-ends : goal.returns-clause-ends
returns-clause-ends g c = ends c.args.scene.link c.args.scene.scene.cases c.args.scene.rounds

pub returns-clause-lifted : goal.returns-clause-lifted
returns-clause-lifted g c = lifted c.args.scene.link c.args.scene.scene.cases c.args.scene.rounds

pub returns-in_err-run-clause-ends : goal.returns-in_err-run-clause-ends
returns-in_err-run-clause-ends g c = ends c.args.scene.link c.args.scene.scene.cases c.args.scene.rounds

pub returns-in_err-run-clause-lifted : goal.returns-in_err-run-clause-lifted
returns-in_err-run-clause-lifted g c = lifted c.args.scene.link c.args.scene.scene.cases c.args.scene.rounds

pub returns-in_err-rows-clause-ends : goal.returns-in_err-rows-clause-ends
returns-in_err-rows-clause-ends g c = ends c.args.scene.link c.args.scene.scene.cases c.args.scene.rounds

pub returns-in_err-rows-clause-lifted : goal.returns-in_err-rows-clause-lifted
returns-in_err-rows-clause-lifted g c = lifted c.args.scene.link c.args.scene.scene.cases c.args.scene.rounds

pub returns-in_err-givens-clause-ends : goal.returns-in_err-givens-clause-ends
returns-in_err-givens-clause-ends g c = ends c.args.scene.link c.args.scene.scene.cases c.args.scene.rounds

pub returns-in_err-givens-clause-lifted : goal.returns-in_err-givens-clause-lifted
returns-in_err-givens-clause-lifted g c = lifted c.args.scene.link c.args.scene.scene.cases c.args.scene.rounds
