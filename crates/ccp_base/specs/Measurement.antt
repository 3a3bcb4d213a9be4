-- What an agent reads of a report.
use Rattle.std.specs.Prelude.{ℕ, Option, Some, None, List, slice_get, unwrap_or}
use Rattle.ccp_base.specs.declared.look.Look.{Look}
use Rattle.ccp_base.specs.declared.exchange.Report.{Report}
use Rattle.ccp_base.specs.declared.measurement.Measurement.{Measurement}

-- the field at a place; 0 without a place, or for a place past the fields
abbrev pub field_at : Option ℕ → List ℕ → ℕ
field_at None fields = 0
field_at (Some place) fields = unwrap_or (slice_get fields place) 0

-- a report as its program's look has it
abbrev pub measurement_of : Look → Report → Measurement
measurement_of look report = record {
  now = report.now;
  cwnd = report.cwnd;
  acked = field_at look.acked report.fields;
  loss = field_at look.loss report.fields;
  timeout = field_at look.timeout report.fields;
  rtt = field_at look.rtt report.fields;
  inflight = field_at look.inflight report.fields;
  ecn = field_at look.ecn report.fields;
}
