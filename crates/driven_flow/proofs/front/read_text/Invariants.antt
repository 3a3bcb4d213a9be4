use Rattle.std.proofs.Common.{◌≡◌, ◌+◌, ◌-◌, ◌≤◌, length}
use Rattle.ccp_base.specs.Limits.{most_frame_bytes, most_input_bytes}
use Rattle.driven_flow.specs.FrontLines.{IsReading}
use Rattle.driven_flow.proofs.front.read_text.Given as goal

abbrev pub invariant-loop-count : goal.invariant-loop-count
invariant-loop-count g l = record {
  follows : g.D.Duplex.Follows l.initial.duplex l.duplex;
  written : g.D.Duplex.written l.duplex ≡ g.D.Duplex.written l.initial.duplex;
  write_faults : g.D.Duplex.write_faults l.duplex ≡ g.D.Duplex.write_faults l.initial.duplex;
  finished : g.D.Duplex.is_finished l.initial.duplex → g.D.Duplex.is_finished l.duplex;
  reads : g.D.Duplex.read_faults l.initial.duplex ≤ g.D.Duplex.read_faults l.duplex;
  reading : IsReading (g.D.Duplex.remaining l.initial.duplex) (g.D.Duplex.remaining l.duplex) l.text l.rest l.inside;
  within : length l.text ≤ most_input_bytes;
}

abbrev pub decreases-loop-count : goal.decreases-loop-count
decreases-loop-count g l =
    (most_input_bytes - length l.text) + (most_input_bytes + most_frame_bytes - (length l.text + length l.rest))
