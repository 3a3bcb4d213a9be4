use Rattle.std.proofs.Common.{ap, sym, ◌∙◌, subst}
use Rattle.shared_link.specs.SharedRounds.{shared_run_of, counts_in, counts_of}
use Rattle.shared_link.specs.SharedStanding.{SharedState, Stands}
use Rattle.shared_link.proofs.LinkLemmas.{stands-follow}
use Rattle.shared_link.proofs.shared_link.SharedLink.counts.Goals as goal

pub returns : goal.returns
returns c = λ rounds stands.
    let inside = c.self.inside in
    let case = inside.case in
    let run = shared_run_of case rounds in
    let here = subst (λ (l : SharedState). Stands l rounds) (sym c.self.view_is) stands in
    c.counts.ensures run.sent run.givens (stands-follow case inside.rounds inside.next inside.flows.traffic.items run c.self.invariant.ready.count here)
    ∙ ap (λ n. counts_in case (record { sent = run.sent; givens = run.givens; rounds = n })) here.rounds
    ∙ ap (λ (l : SharedState). counts_of l.case rounds) c.self.view_is
