-- A flow of a run with its tally, whatever it keeps of its history: what it is after its rounds, and what it does without
-- an acknowledgement.
use Rattle.std.specs.Prelude.{◌≡◌, ◌<◌, ◌+◌, ◌≤◌, ◌^◌, ℕ, Bool, true, false, Option, Some, None, option_map}
use Rattle.std.specs.Prelude.{List, [], ◌∷◌, ◌++◌, length, slice_get}
use Rattle.ccp_base.specs.declared.ack.Ack.{Ack}
use Rattle.flow_core.specs.declared.case.Case.{Case}
use Rattle.flow_core.specs.declared.letter.Letter.{Letter}
use Rattle.flow_core.specs.declared.letter.Letter.TheVariants.{T}
use Rattle.flow_core.specs.Words.{is_legal}
use Rattle.flow_core.specs.Readings.{over_codes}
use Rattle.flow_core.specs.Cores.{CoreState}
use Rattle.campaign_core.specs.declared.tally.Tally.{Tally}
use Rattle.campaign_core.specs.CampaignRow.{lost_in, acked_in}
use Rattle.campaign_core.specs.FlowRow.{world_of_core, with_letter}
use Rattle.campaign_core.specs.GivenFlows.{HasAllAcks, tally_of, IsAfterHistory}
use Rattle.shared_link.specs.declared.shared_case.SharedCase.{SharedCase}
use Rattle.shared_run.specs.RoundLetters.{settling_letter}
use Rattle.shared_run.specs.Courses.{flows_after}

-- what a row sums over acknowledgements are numbers of 64 bits
abbrev pub AreRoomy : List Ack → Type 0
AreRoomy acks = (lost_in acks < 2 ^ 64) × (acked_in acks < 2 ^ 64)

abbrev pub HaveAllAcks : List CoreState → Type 0
HaveAllAcks [] = Unit {0}
HaveAllAcks (core ∷ rest) = HasAllAcks core × HaveAllAcks rest

-- the flow and its tally after a history
abbrev pub kept_at : {F : Type 0} → (CoreState → F) → CoreState → F × Tally
kept_at at core = (at core, tally_of core)

-- those of flow `number` of a run after this many rounds
abbrev pub run_flow_in : {F : Type 0} → (CoreState → F) → SharedCase → List Case → ℕ → ℕ → Option (F × Tally)
run_flow_in at link cases rounds number = option_map (kept_at at) (slice_get (flows_after link cases rounds) number)

-- ---- letter by letter

-- the flow and its tally are after some history
pub record HasHistory {F : Type 0} (at : CoreState → F) (flow : F) (tally : Tally) : Type 0 where
  pub core : CoreState
  pub after : IsAfterHistory at core flow tally

-- they are after some history, and these acknowledgements may be next
pub record MayHear {F : Type 0} (at : CoreState → F) (acks : List Ack) (flow : F) (tally : Tally) : Type 0 where
  pub core : CoreState
  pub after : IsAfterHistory at core flow tally
  pub fits : length core.acks + length acks ≤ core.case.acks
  pub roomy : AreRoomy (core.acks ++ acks)

-- a ticket was taken if that is legal, and else nothing was changed
abbrev pub Took : {F : Type 0} → (CoreState → F) → Bool → F → Tally → F → Tally → Type 0
Took at true old was new now =
    (core : CoreState) → IsAfterHistory at core old was
    → (is_legal (over_codes core.case) (world_of_core over_codes core) T ≡ true)
    × IsAfterHistory at (with_letter T core) new now
Took at false old was new now =
    (core : CoreState) → IsAfterHistory at core old was
    → (is_legal (over_codes core.case) (world_of_core over_codes core) T ≡ false)
    × IsAfterHistory at core new now

-- the next letter without an acknowledgement was made; if there is none, nothing was changed
abbrev pub MakesNext : {F : Type 0} → (CoreState → F) → Bool → Bool → F → Tally → F → Tally → Type 0
MakesNext at at_end true old was new now =
    (core : CoreState) → IsAfterHistory at core old was
    → (letter : Letter) × (settling_letter at_end over_codes core ≡ Some letter)
    × IsAfterHistory at (with_letter letter core) new now
MakesNext at at_end false old was new now =
    (core : CoreState) → IsAfterHistory at core old was
    → (settling_letter at_end over_codes core ≡ None) × IsAfterHistory at core new now
