-- The row of a case: its numbers over the state after its campaign word, and over the acknowledgements on the way; and
-- the columns of the table that shows rows.
use Rattle.std.specs.Prelude.{ℕ, ◌+◌, ◌-◌, ◌^◌, ◌<◌, max, Bool, true, false, if◌then◌else◌, List, [], ◌∷◌, codes}
use Rattle.ccp_base.specs.declared.ack.Ack.{Ack}
use Rattle.link_model.specs.declared.link_case.LinkCase.{LinkCase}
use Rattle.flow_core.specs.declared.case.Case.{Case}
use Rattle.flow_core.specs.declared.letter.Letter.{Letter}
use Rattle.flow_core.specs.Readings.{Flow, over_codes}
use Rattle.flow_core.specs.World.{World, opening, track_of}
use Rattle.flow_core.specs.Words.{Giving, from_link, after_letter, world}
use Rattle.flow_core.specs.Summaries.{Summary, summary}
use Rattle.campaign_core.specs.declared.sums.Sums.{Sums}
use Rattle.campaign_core.specs.declared.row.Row.{Row}
use Rattle.campaign_core.specs.declared.row.Column.{Column}
use Rattle.campaign_core.specs.declared.row.Column.TheVariants.{Acks, Reports, Held, Faults, Epochs, Lost, Timeouts, Acked, Peak, Cwnd, Now, Tail}
use Rattle.campaign_core.specs.CampaignWord.{plan_over}

-- ---- sums over acknowledgements

-- the sum of `lost_pkts_sample`
abbrev pub lost_in : List Ack → ℕ
lost_in [] = 0
lost_in (ack ∷ rest) = ack.lost_pkts_sample + lost_in rest

-- how many are timeouts
abbrev pub timeouts_in : List Ack → ℕ
timeouts_in [] = 0
timeouts_in (ack ∷ rest) = (if ack.was_timeout then 1 else 0) + timeouts_in rest

-- the sum of `bytes_acked`
abbrev pub acked_in : List Ack → ℕ
acked_in [] = 0
acked_in (ack ∷ rest) = ack.bytes_acked + acked_in rest

abbrev pub sums_of : List Ack → Sums
sums_of acks = record { lost = lost_in acks; timeouts = timeouts_in acks; acked = acked_in acks }

-- the sums with one more acknowledgement
abbrev pub sums_with : Ack → Sums → Sums
sums_with ack sums = record {
  lost = sums.lost + ack.lost_pkts_sample;
  timeouts = sums.timeouts + (if ack.was_timeout then 1 else 0);
  acked = sums.acked + ack.bytes_acked;
}

-- numbers of 64 bits
pub record AreRoomy (sums : Sums) : Type 0 where
  pub lost : sums.lost < 2 ^ 64
  pub timeouts : sums.timeouts < 2 ^ 64
  pub acked : sums.acked < 2 ^ 64

-- ---- the window

-- the present `Cwnd`
abbrev pub window_of : {X : Type 0} → Flow X → World X → ℕ
window_of flow w = (track_of flow w).env.cwnd

-- the greatest `Cwnd` in a state or after a letter of a word from there on
abbrev pub peak_from : {X : Type 0} → Flow X → Giving X → World X → List Letter → ℕ
peak_from flow giving w [] = window_of flow w
peak_from flow giving w (letter ∷ rest) =
    max (window_of flow w) (peak_from flow giving (after_letter flow giving w letter) rest)

-- the greatest `Cwnd` at the opening or after a letter of a word, with the acknowledgements of a link
abbrev pub peak_of : {X : Type 0} → Flow X → LinkCase → List Letter → ℕ
peak_of flow link word = peak_from flow (from_link flow link) (opening flow) word

-- ---- the row

-- by the summary of a flow's state, the sums over its acknowledgements and its greatest window: the reports are the
-- answered tickets that have one, the epochs include the opening one, and the tail is the length of the unreported span
abbrev pub row_in : Summary → Sums → ℕ → Row
row_in s sums peak = record {
  acks = s.acks;
  reports = s.told;
  held = s.held;
  faults = s.faults;
  epochs = s.epoch + 1;
  lost = sums.lost;
  timeouts = sums.timeouts;
  acked = sums.acked;
  peak = peak;
  cwnd = s.track.env.cwnd;
  now = s.time;
  tail = s.acks - s.track.first;
}

-- the row of a flow in a state, if this is its greatest window
abbrev pub row_over : {X : Type 0} → Flow X → World X → ℕ → Row
row_over flow w peak = row_in (summary flow w) (sums_of w.acks) peak

-- the row of a flow after a word
abbrev pub row_after : {X : Type 0} → Flow X → LinkCase → List Letter → Row
row_after flow link word = row_over flow (world flow link word) (peak_of flow link word)

-- the row of a flow after its campaign word
abbrev pub row_read : {X : Type 0} → Flow X → LinkCase → ℕ → Row
row_read flow link lag = row_after flow link (plan_over flow link lag)

-- the row of a case
abbrev pub case_row : Case → Row
case_row case = row_read (over_codes case) case.link case.lag

-- ---- the columns of a table of rows

-- all of them, in the order of the table
abbrev pub columns : List Column
columns =
    Acks ∷ Reports ∷ Held ∷ Faults ∷ Epochs ∷ Lost ∷ Timeouts ∷ Acked ∷ Peak ∷ Cwnd ∷ Now ∷ Tail ∷ []

-- the word above a column, and before its sum in the total
abbrev pub heading_of : Column → List ℕ
heading_of Acks = codes "acks"
heading_of Reports = codes "reports"
heading_of Held = codes "held"
heading_of Faults = codes "faults"
heading_of Epochs = codes "epochs"
heading_of Lost = codes "lost"
heading_of Timeouts = codes "timeouts"
heading_of Acked = codes "acked"
heading_of Peak = codes "peak"
heading_of Cwnd = codes "cwnd"
heading_of Now = codes "now"
heading_of Tail = codes "tail"

-- a row's number in a column
abbrev pub column_value : Column → Row → ℕ
column_value Acks row = row.acks
column_value Reports row = row.reports
column_value Held row = row.held
column_value Faults row = row.faults
column_value Epochs row = row.epochs
column_value Lost row = row.lost
column_value Timeouts row = row.timeouts
column_value Acked row = row.acked
column_value Peak row = row.peak
column_value Cwnd row = row.cwnd
column_value Now row = row.now
column_value Tail row = row.tail

-- whether the total has the sum of a column
abbrev pub is_summed : Column → Bool
is_summed Epochs = false
is_summed Peak = false
is_summed Cwnd = false
is_summed Now = false
is_summed Tail = false
is_summed column = true
