-- The whole run, after its last round.
use Rattle.std.specs.Prelude.{◌≡◌, ◌≤◌, ℕ, List, [], ◌∷◌, map}
use Rattle.std.proofs.Common.{arith, ap, sym, ◌∙◌, subst}
use Rattle.flow_core.specs.declared.case.Case.{Case}
use Rattle.flow_core.specs.Readings.{over_codes}
use Rattle.shared_link.specs.declared.round.Ask.{Ask}
use Rattle.shared_link.specs.declared.round.Counts.{Counts}
use Rattle.shared_link.specs.declared.shared_case.SharedCase.{SharedCase}
use Rattle.shared_link.specs.SharedRounds.{counts_of}
use Rattle.shared_link.specs.SharedStanding.{SharedState, Stands}
use Rattle.shared_rounds.specs.Rounds.{asked_before, HasEnded}
use Rattle.shared_run.specs.RoundLetters.{closed_flow}
use Rattle.shared_run.specs.SharedHistory.{Progress, round_limit, whole_run, flows_at_end, shared_counts}
use Rattle.shared_run.specs.Courses.{run_after, flows_after, asks_in}
use Rattle.shared_run.specs.CourseLaws.{asked-same}
use Rattle.shared_run.specs.RoundFlows.{HaveAllAcks}
use Rattle.shared_run.proofs.BookLemmas.{AreStill, still-closed}
use Rattle.shared_run.proofs.CourseLemmas.{run-ended, ends}
use Rattle.shared_run.proofs.RoomyLemmas.{ends-whole}

pub most-few : (cases : List Case) (most : ℕ) → most ≤ 10000 → round_limit cases most ≤ 10000
most-few [] most few = omega arith
most-few (case ∷ rest) most few = few

module _ (link : SharedCase) (cases : List Case) (most rounds : ℕ) (state : SharedState) (ended : HasEnded link (asks_in link cases) (round_limit cases most) rounds state) where
  whole : run_after link over_codes cases rounds ≡ whole_run link over_codes cases most
  whole = run-ended link cases (round_limit cases most) rounds ended.few ended.first ended.last

  -- the flows, closed, and the counts
  pub flows-are : map (closed_flow over_codes) (flows_after link cases rounds) ≡ flows_at_end link over_codes cases most
  flows-are = ap (λ (run : Progress). map (closed_flow over_codes) run.flows) whole

  pub counts-are : (counts : Counts) → ((history : List (List Ask)) → Stands state history → counts ≡ counts_of state.case history)
      → counts ≡ shared_counts link over_codes cases most
  counts-are counts tells =
      let history = asked_before (asks_in link cases) rounds in
      tells history ended.stands.stands
      ∙ ap (λ (case : SharedCase). counts_of case history) ended.stands.case
      ∙ ap (λ (asked : List (List Ask)). counts_of link asked) (asked-same link cases rounds)
      ∙ ap (λ (run : Progress). counts_of link run.history) whole

-- at the end the words of the flows have all acknowledgements
pub run-whole : (link : SharedCase) (cases : List Case) (most : ℕ) → HaveAllAcks (flows_at_end link over_codes cases most)
run-whole link cases most =
    let end = ends link cases most in
    subst (λ (run : Progress). HaveAllAcks (map (closed_flow over_codes) run.flows)) (sym end.1.run) (ends-whole link cases end.0)

pub run-still : (link : SharedCase) (cases : List Case) (most : ℕ) → AreStill (flows_at_end link over_codes cases most)
run-still link cases most = still-closed (whole_run link over_codes cases most).flows
