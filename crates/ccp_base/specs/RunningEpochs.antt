-- The epoch that runs: what a change and a report make of it, and what its reports and its notices say.
use Rattle.std.specs.Prelude.{ℕ, ◌+◌, Option, Some, None, List}
use Rattle.ccp_base.specs.declared.arithmetic.FaultKind.{FaultKind}
use Rattle.ccp_base.specs.declared.exchange.Notice.{Notice}
use Rattle.ccp_base.specs.declared.exchange.Report.{Report}
use Rattle.ccp_base.specs.declared.running_epoch.RunningEpoch.{RunningEpoch}

-- ---- changes

-- a flow's first epoch, which this program begins after this many acknowledgements: its unreported span begins there
abbrev pub opening_epoch : ℕ → ℕ → RunningEpoch
opening_epoch program acks = record { program = program; number = 0; first = acks }

-- the epoch that a change to this program begins after this many acknowledgements
abbrev pub next_epoch : ℕ → ℕ → RunningEpoch → RunningEpoch
next_epoch program acks epoch = record { program = program; number = epoch.number + 1; first = acks }

-- how many epochs a flow had with the one that runs, none before its first change
abbrev pub epochs_in : Option RunningEpoch → ℕ
epochs_in None = 0
epochs_in (Some epoch) = epoch.number + 1

-- where its unreported span begins
abbrev pub first_in : Option RunningEpoch → ℕ
first_in None = 0
first_in (Some epoch) = epoch.first

-- the epoch after this one, or a flow's first one
abbrev pub epoch_after : Option RunningEpoch → ℕ → ℕ → RunningEpoch
epoch_after None program acks = opening_epoch program acks
epoch_after (Some epoch) program acks = next_epoch program acks epoch

-- ---- reports and notices

-- what makes the reports and notices of an epoch: its flow, its program and its number
pub record Reporter : Type 0 where
  pub flow : ℕ
  pub program : ℕ
  pub number : ℕ

abbrev pub reporter : ℕ → ℕ → ℕ → Reporter
reporter flow program number = record { flow = flow; program = program; number = number }

-- the report of the span of acknowledgements between these counts, at this time, with this window, this rate and these
-- fields
abbrev pub report_by : Reporter → ℕ → ℕ → ℕ → ℕ → ℕ → List ℕ → Report
report_by reporter first end now cwnd rate fields = record {
  flow = reporter.flow;
  program = reporter.program;
  epoch = reporter.number;
  first = first;
  end = end;
  now = now;
  cwnd = cwnd;
  rate = rate;
  fields = fields;
}

-- the notice that the acknowledgement with this number, at this time and with this window, had a fault of this kind at
-- the instruction with this index
abbrev pub notice_by : Reporter → ℕ → ℕ → ℕ → FaultKind → ℕ → Notice
notice_by reporter at now cwnd kind index = record {
  flow = reporter.flow;
  program = reporter.program;
  epoch = reporter.number;
  at = at;
  kind = kind;
  index = index;
  now = now;
  cwnd = cwnd;
}

-- the report of the unreported span, which ends at this count
abbrev pub report_at : RunningEpoch → ℕ → ℕ → ℕ → ℕ → ℕ → List ℕ → Report
report_at epoch flow end now cwnd rate fields =
    report_by (reporter flow epoch.program epoch.number) epoch.first end now cwnd rate fields

-- after its report the next unreported span begins at its end
abbrev pub reported_epoch : ℕ → RunningEpoch → RunningEpoch
reported_epoch end epoch = record epoch { first = end }

-- the notice of a fault
abbrev pub notice_at : RunningEpoch → ℕ → ℕ → ℕ → ℕ → FaultKind → ℕ → Notice
notice_at epoch flow at now cwnd kind index =
    notice_by (reporter flow epoch.program epoch.number) at now cwnd kind index
