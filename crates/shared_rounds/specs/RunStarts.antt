-- What a run by workers begins with, and what it has at its end.
use Rattle.std.specs.Prelude.{◌≡◌, ◌≤◌, ℕ, List, length}
use Rattle.ccp_base.specs.Limits.{most_flows, most_rounds, most_workers}
use Rattle.shared_link.specs.declared.round.Ask.{Ask}
use Rattle.shared_link.specs.declared.shared_case.SharedCase.{SharedCase}
use Rattle.shared_link.specs.SharedStanding.{SharedState}
use Rattle.shared_rounds.specs.Rounds.{StandsAfter, HasEnded}
use Rattle.shared_rounds.specs.KnownFlows.{FlowRound, AreKnown}

-- a run of `count` flows over a link in this state, with this many flows and workers, may begin its at most `most` rounds
pub record MayBegin (link : SharedCase) (asks : ℕ → List Ask) (count : ℕ) (state : SharedState) (flows workers most : ℕ) : Type 0 where
  pub has_workers : 1 ≤ workers
  pub few_workers : workers ≤ most_workers
  pub all_flows : flows ≡ count
  pub few_flows : flows ≤ most_flows
  pub links : length link.flows ≡ count
  pub stands : StandsAfter link asks 0 state
  pub few_rounds : most ≤ most_rounds

-- the run ended after `rounds` rounds, with the link in this state, and every flow is known then
pub record IsOver (link : SharedCase) (asks : ℕ → List Ask) (count : ℕ) (most rounds : ℕ) (state : SharedState) (known : List FlowRound) : Type 0 where
  pub ended : HasEnded link asks most rounds state
  pub count_is : length known ≡ count
  pub all_known : AreKnown known rounds
