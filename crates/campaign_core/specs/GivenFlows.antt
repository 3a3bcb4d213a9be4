-- A flow that is given its acknowledgements, whatever it keeps of its history: what it is after a history, and what a
-- letter changes of it.
use Rattle.std.specs.Prelude.{◌≡◌, ◌≤◌, true, length}
use Rattle.flow_core.specs.declared.letter.Letter.{Letter}
use Rattle.flow_core.specs.Words.{is_legal}
use Rattle.flow_core.specs.Readings.{over_codes}
use Rattle.flow_core.specs.WordLaws.{acks_in}
use Rattle.flow_core.specs.Cores.{CoreState}
use Rattle.flow_core.specs.Summaries.{summary}
use Rattle.flow_core.specs.Bares.{BareState}
use Rattle.flow_core.specs.ReadsRates.{case_reads_rates}
use Rattle.campaign_core.specs.declared.given_flow.BareFlow.{BareFlow}
use Rattle.campaign_core.specs.declared.tally.Tally.{Tally}
use Rattle.campaign_core.specs.CampaignRow.{sums_of}
use Rattle.campaign_core.specs.FlowRow.{world_of_core, flow_peak}

-- the word has all acknowledgements, which are no more than the case's
pub record HasAllAcks (core : CoreState) : Type 0 where
  pub all : acks_in core.word ≡ length core.acks
  pub within : length core.acks ≤ core.case.acks

-- what later letters depend on
abbrev pub bare_after : CoreState → BareState
bare_after core = record { case = core.case; summary = summary (over_codes core.case) (world_of_core over_codes core) }

-- and whether a program of its case reads a rate
abbrev pub bare_flow_at : CoreState → BareFlow
bare_flow_at core = record { bare = bare_after core; reads_rates = case_reads_rates core.case }

-- ---- a flow without its tally; `at` gives the flow after a history

-- the flow is after a history at whose end the letter is legal
pub record MayMake {F : Type 0} (at : CoreState → F) (letter : Letter) (flow : F) : Type 0 where
  pub core : CoreState
  pub whole : HasAllAcks core
  pub after : flow ≡ at core
  pub legal : is_legal (over_codes core.case) (world_of_core over_codes core) letter ≡ true

-- the step was made: after whatever history the old flow is, the new one is after that history and the step
abbrev pub Makes : {F : Type 0} → (CoreState → F) → (CoreState → CoreState) → F → F → Type 0
Makes at step old new = (core : CoreState) → HasAllAcks core → old ≡ at core → new ≡ at (step core)

-- ---- with its tally

-- what a row needs of a history
abbrev pub tally_of : CoreState → Tally
tally_of core = record { sums = sums_of core.acks; peak = flow_peak over_codes core }

-- the flow and the tally are after this history
pub record IsAfterHistory {F : Type 0} (at : CoreState → F) (core : CoreState) (flow : F) (tally : Tally) : Type 0 where
  pub whole : HasAllAcks core
  pub flow_is : flow ≡ at core
  pub tally_is : tally ≡ tally_of core

-- after whatever history they were, they are after that history and the step
abbrev pub Goes : {F : Type 0} → (CoreState → F) → (CoreState → CoreState) → F → Tally → F → Tally → Type 0
Goes at step old was new now =
    (core : CoreState) → IsAfterHistory at core old was → IsAfterHistory at (step core) new now
