-- Acknowledgements without their rates, and what the rates are computed from.
use Rattle.std.specs.Prelude.{◌≡◌, ◌≤◌}
use Rattle.ccp_base.specs.declared.ack.Ack.{Ack}
use Rattle.ccp_base.specs.Limits.{most_segment_bytes}
use Rattle.link_model.specs.Counts.{most_packets}
use Rattle.link_model.specs.Rated.{without_rates}
use Rattle.shared_link.specs.SharedRounds.{since_start}
use Rattle.shared_link.specs.declared.unrated_ack.UnratedAck.TheInside.{Inside}

-- the acknowledgement with its rates
abbrev pub rated_ack : Inside → Ack
rated_ack p = since_start p.mss p.start_us p.acked p.sent p.unrated

-- it is kept without them, and the numbers are those of a link
pub record IsUnrated (p : Inside) : Type 0 where
  pub rates : p.unrated ≡ without_rates p.unrated
  pub mss : p.mss ≤ most_segment_bytes
  pub acked : p.acked ≤ most_packets
  pub sent : p.sent ≤ most_packets
