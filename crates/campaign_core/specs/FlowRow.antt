-- A flow that is given its acknowledgements, in any reading of its case: its state after its word, and its row, which is
-- over that state and over the acknowledgements on the way.
use Rattle.std.specs.Prelude.{ℕ, [], ◌∷◌, ◌++◌}
use Rattle.flow_core.specs.declared.case.Case.{Case}
use Rattle.flow_core.specs.declared.letter.Letter.{Letter}
use Rattle.flow_core.specs.Readings.{Flow}
use Rattle.flow_core.specs.World.{World, opening}
use Rattle.flow_core.specs.Words.{from_list, world_over}
use Rattle.flow_core.specs.Cores.{CoreState}
use Rattle.campaign_core.specs.declared.row.Row.{Row}
use Rattle.campaign_core.specs.CampaignRow.{peak_from, row_over}

-- a reading of cases: over their codes, or over the sources of programs
abbrev pub CaseReading : Type 0 → Type 0
CaseReading X = Case → Flow X

-- the state of a flow after its word, over its own acknowledgements
abbrev pub world_of_core : {X : Type 0} → CaseReading X → CoreState → World X
world_of_core read core = world_over (read core.case) core.acks core.word

-- a flow without a letter
abbrev pub opened : Case → CoreState
opened case = record { case = case; acks = []; word = [] }

-- the flow with one more letter that takes no acknowledgement
abbrev pub with_letter : Letter → CoreState → CoreState
with_letter letter core = record { case = core.case; acks = core.acks; word = core.word ++ letter ∷ [] }

-- ---- the row

-- the greatest `Cwnd` of a flow at its opening or after a letter
abbrev pub flow_peak : {X : Type 0} → CaseReading X → CoreState → ℕ
flow_peak read core = peak_from (read core.case) (from_list core.acks) (opening (read core.case)) core.word

-- the row of a flow with its acknowledgements and its word
abbrev pub flow_row : {X : Type 0} → CaseReading X → CoreState → Row
flow_row read core = row_over (read core.case) (world_of_core read core) (flow_peak read core)
