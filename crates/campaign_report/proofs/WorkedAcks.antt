-- Lines of acknowledgements, worked out: one of a flow that loses nothing, a timeout, and one at time zero.
use Rattle.std.specs.Prelude.{◌≡◌, refl, true, [], codes, decimal, replicate}
use Rattle.ccp_base.specs.declared.ack.Ack.{Ack}
use Rattle.ccp_base.specs.Acknowledgement.{ack_of}
use Rattle.ccp_base.specs.Limits.{primitive_count}
use Rattle.ccp_base.specs.Text.{◌⧺◌}
use Rattle.campaign_report.specs.AcksText.{ack_line}

abbrev no_ack : Ack
no_ack = ack_of (replicate primitive_count 0)

first-line : ack_line (record no_ack {
  bytes_acked = 1448;
  packets_acked = 1;
  now = 30000;
  bytes_in_flight = 2896;
  packets_in_flight = 2;
  rate_incoming = 48266;
  rate_outgoing = 144800;
  rtt_sample_us = 30000;
})
    ≡ ((codes "bytes_acked=" ⧺ decimal 1448) ⧺ (codes " packets_acked=" ⧺ decimal 1) ⧺ (codes " now=" ⧺ decimal 30000)
    ⧺ (codes " bytes_in_flight=" ⧺ decimal 2896) ⧺ (codes " packets_in_flight=" ⧺ decimal 2)
    ⧺ (codes " rate_incoming=" ⧺ decimal 48266) ⧺ (codes " rate_outgoing=" ⧺ decimal 144800)
    ⧺ (codes " rtt_sample_us=" ⧺ decimal 30000) ⧺ [])
    ⧺ codes "\n"
first-line = refl

timeout : ack_line (record no_ack { lost_pkts_sample = 3; now = 200000; rate_outgoing = 21720; was_timeout = true })
    ≡ ((codes "lost_pkts_sample=" ⧺ decimal 3) ⧺ (codes " now=" ⧺ decimal 200000)
    ⧺ (codes " rate_outgoing=" ⧺ decimal 21720) ⧺ (codes " was_timeout=" ⧺ decimal 1) ⧺ [])
    ⧺ codes "\n"
timeout = refl

at-zero : ack_line no_ack ≡ ((codes "now=" ⧺ decimal 0) ⧺ []) ⧺ codes "\n"
at-zero = refl
