-- The run of cases over a link round by round, without the test for its end.
use Rattle.std.specs.Prelude.{◌≡◌, ◌<◌, ◌≤◌, ℕ, zero, suc, true, false, List, [], map}
use Rattle.ccp_base.specs.declared.ack.Ack.{Ack}
use Rattle.flow_core.specs.declared.case.Case.{Case}
use Rattle.flow_core.specs.Readings.{over_codes}
use Rattle.flow_core.specs.Cores.{CoreState}
use Rattle.shared_link.specs.declared.round.Ask.{Ask}
use Rattle.shared_link.specs.declared.shared_case.SharedCase.{SharedCase}
use Rattle.shared_link.specs.SharedRounds.{acks_after}
use Rattle.campaign_core.specs.FlowRow.{CaseReading, opened}
use Rattle.shared_run.specs.SharedHistory.{Progress, progress, asks_of, after_round, have_all}
use Rattle.shared_run.specs.SharedHistory.{round_limit, whole_run}

-- the run after this many rounds
abbrev pub run_after : {X : Type 0} → SharedCase → CaseReading X → List Case → ℕ → Progress
run_after link read cases zero = progress [] (map opened cases)
run_after link read cases (suc rounds) = after_round link read (run_after link read cases rounds)

-- its flows after this many rounds
abbrev pub flows_after : SharedCase → List Case → ℕ → List CoreState
flows_after link cases rounds = (run_after link over_codes cases rounds).flows

-- what they ask the link for in the next round
abbrev pub asks_in : SharedCase → List Case → ℕ → List Ask
asks_in link cases rounds = asks_of over_codes (flows_after link cases rounds)

-- and each flow's acknowledgements in it
abbrev pub acks_in : SharedCase → List Case → ℕ → List (List Ack)
acks_in link cases rounds =
    acks_after link (run_after link over_codes cases rounds).history (asks_in link cases rounds)

-- ---- the end

-- the run of at most `most` rounds is that after `rounds`: after the first round in which all flows have all
-- acknowledgements, or else after the last one that may come
pub record EndsAfter (link : SharedCase) (cases : List Case) (most rounds : ℕ) : Type 0 where
  pub run : whole_run link over_codes cases most ≡ run_after link over_codes cases rounds
  pub few : rounds ≤ round_limit cases most
  pub first : (earlier : ℕ) → 0 < earlier → earlier < rounds → have_all (flows_after link cases earlier) ≡ false
  pub last : rounds < round_limit cases most → (0 < rounds) × (have_all (flows_after link cases rounds) ≡ true)

abbrev pub EndsInTime : SharedCase → List Case → ℕ → Type 0
EndsInTime link cases most = (rounds : ℕ) × EndsAfter link cases most rounds
