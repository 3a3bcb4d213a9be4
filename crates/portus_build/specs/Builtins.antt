-- The built-in programs and their texts.
use Rattle.std.specs.Prelude.{ℕ, Option, Some, None, List, [], ◌∷◌, ◌++◌, map, get_or, codes}

-- what each declares: the fields, in the first two lines
abbrev pub fields_part : List ℕ
fields_part =
    codes "(def (Report (volatile acked 0) (volatile sacked 0) (volatile loss 0)\n"
    ++ codes "  (volatile timeout false) (rtt 0) (inflight 0) (volatile ecn 0))\n"

-- the control variables of slow start
abbrev pub controls_line : List ℕ
controls_line = codes "  (cap +infinity) (mss 1))\n"

-- no control variables
abbrev pub no_controls_line : List ℕ
no_controls_line = codes "  )\n"

-- on each acknowledgement the fields are brought up to date
abbrev pub counting_part : List ℕ
counting_part =
    codes "(when true\n"
    ++ codes "  (:= Report.acked (+ Report.acked Ack.bytes_acked))\n"
    ++ codes "  (:= Report.sacked (+ Report.sacked Ack.packets_misordered))\n"
    ++ codes "  (:= Report.loss (+ Report.loss Ack.lost_pkts_sample))\n"
    ++ codes "  (:= Report.timeout (|| Report.timeout Flow.was_timeout))\n"
    ++ codes "  (:= Report.rtt Flow.rtt_sample_us)\n"
    ++ codes "  (:= Report.inflight Flow.bytes_in_flight)\n"
    ++ codes "  (:= Report.ecn (+ Report.ecn Ack.ecn_packets))\n"
    ++ codes "  (fallthrough))\n"

-- a timeout, a loss or a mark is reported at once
abbrev pub loss_line : List ℕ
loss_line = codes "(when (|| Report.timeout (> (+ Report.loss Report.ecn) 0)) (report) (:= Micros 0))\n"

-- below the cap the window grows by what was acknowledged, by at most a segment
abbrev pub growing_part : List ℕ
growing_part =
    codes "(when (< Cwnd cap)\n"
    ++ codes "  (:= Cwnd (min cap (+ Cwnd (min Ack.bytes_acked mss))))\n"
    ++ codes "  (fallthrough))\n"

-- a report once in a round-trip time
abbrev pub round_line : List ℕ
round_line = codes "(when (> Micros Report.rtt) (report) (:= Micros 0))\n"

-- a report twice in a round-trip time
abbrev pub half_round_line : List ℕ
half_round_line = codes "(when (> Micros (/ Report.rtt 2)) (report) (:= Micros 0))\n"

-- Reno's slow start, in which the datapath moves the window
abbrev pub reno_ss_text : List ℕ
reno_ss_text = fields_part ++ controls_line ++ counting_part ++ loss_line ++ growing_part ++ round_line

-- Reno's congestion avoidance
abbrev pub reno_ca_text : List ℕ
reno_ca_text = fields_part ++ no_controls_line ++ counting_part ++ loss_line ++ round_line

-- CUBIC's congestion avoidance
abbrev pub cubic_ca_text : List ℕ
cubic_ca_text = fields_part ++ no_controls_line ++ counting_part ++ loss_line ++ half_round_line

-- a built-in program: its text, and where it has the control variables that its agent writes, the cap and the segment's
-- size
pub record BuiltIn : Type 0 where
  pub text : List ℕ
  pub written : List (Option ℕ)

abbrev pub slow_start : List ℕ → BuiltIn
slow_start text = record { text = text; written = Some 0 ∷ Some 1 ∷ [] }

abbrev pub avoidance : List ℕ → BuiltIn
avoidance text = record { text = text; written = None ∷ None ∷ [] }

-- the built-in programs, in the order of their numbers: `reno.ss`, `reno.ca` and `cubic.ca`
abbrev pub builtins : List BuiltIn
builtins = slow_start reno_ss_text ∷ avoidance reno_ca_text ∷ avoidance cubic_ca_text ∷ []

-- the text of the built-in program of this number
abbrev pub builtin_text : ℕ → List ℕ
builtin_text number = get_or (map (λ program. program.text) builtins) number []
