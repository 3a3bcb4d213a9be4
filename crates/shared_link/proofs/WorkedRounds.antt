-- What the definition of a shared link gives for a few short lists of rounds.
use Rattle.std.proofs.Common.{◌≡◌, List, ℕ, [], ◌∷◌, None, refl, map}
use Rattle.ccp_base.specs.declared.ack.Ack.{Ack}
use Rattle.ccp_base.specs.Acknowledgement.{ack_of}
use Rattle.shared_link.specs.declared.shared_case.FlowLink.{FlowLink}
use Rattle.shared_link.specs.declared.shared_case.SharedCase.{SharedCase}
use Rattle.shared_link.specs.declared.round.Ask.{Ask}
use Rattle.shared_link.specs.SharedRounds.{own_packets, since_start, shared_run_of, acks_after, counts_of}

abbrev flow : FlowLink
flow = record { mss = 1448; delay_us = 20000; timeout_us = 1000000; losses = []; mark = None; start_us = 0 }

abbrev one_flow : SharedCase
one_flow = record { trace = 10 ∷ []; queue = 10; quantum_us = 10000; flows = flow ∷ [] }

abbrev asks : ℕ → ℕ → List Ask
asks window left = record { window = window; left = left } ∷ []

-- a flow whose window is three packets until its first acknowledgement arrives, and then one more with each
abbrev three_rounds : List (List Ask)
three_rounds = asks 4344 4 ∷ asks 4344 4 ∷ asks 4344 4 ∷ []

abbrev seven_rounds : List (List Ask)
seven_rounds =
    asks 4344 4 ∷ asks 4344 4 ∷ asks 4344 4 ∷ asks 4344 4 ∷ asks 5792 3 ∷ asks 7240 2 ∷ asks 8688 1 ∷ []

after_three : counts_of one_flow three_rounds ≡ record { rounds = 3; sent = 3; acked = 0; lost = 0; inflight = 3 }
after_three = refl

after_seven : counts_of one_flow seven_rounds ≡ record { rounds = 7; sent = 9; acked = 4; lost = 0; inflight = 5 }
after_seven = refl

-- two flows in turn over a queue of one packet: the second packet of the first flow and both of the second are lost
abbrev two_flows : SharedCase
two_flows = record { trace = 10 ∷ []; queue = 1; quantum_us = 10000; flows = flow ∷ flow ∷ [] }

abbrev both : List Ask
both = record { window = 2896; left = 4 } ∷ record { window = 2896; left = 4 } ∷ []

lost_by_the_queue : counts_of two_flows (both ∷ []) ≡ record { rounds = 1; sent = 4; acked = 0; lost = 0; inflight = 4 }
lost_by_the_queue = refl

-- two flows, of which the second one starts after two rounds of 10 ms; each asks for two packets
abbrev late_flow : FlowLink
late_flow =
    record { mss = 1448; delay_us = 5000; timeout_us = 1000000; losses = []; mark = None; start_us = 20000 }

abbrev one_later : SharedCase
one_later = record { trace = 10 ∷ []; queue = 10; quantum_us = 10000; flows = flow ∷ late_flow ∷ [] }

nothing_before_the_start : own_packets 1 (shared_run_of one_later (both ∷ both ∷ [])).sent ≡ []
nothing_before_the_start = refl

two_at_the_start : counts_of one_later (both ∷ both ∷ both ∷ []) ≡ record { rounds = 3; sent = 4; acked = 0; lost = 0; inflight = 4 }
two_at_the_start = refl

-- a flow that starts at 20 ms on a link with a chance each millisecond, in rounds of 5 ms. It sends three packets then,
-- and its rates are over the time since: at 26 ms they are 1448 * 1 * 1000000 / 6000 and 1448 * 3 * 1000000 / 6000.
abbrev started_flow : FlowLink
started_flow =
    record { mss = 1448; delay_us = 6000; timeout_us = 200000; losses = []; mark = None; start_us = 20000 }

abbrev one_started : SharedCase
one_started = record { trace = 1 ∷ []; queue = 10; quantum_us = 5000; flows = started_flow ∷ [] }

abbrev five_rounds : List (List Ask)
five_rounds = asks 4344 9 ∷ asks 4344 9 ∷ asks 4344 9 ∷ asks 4344 9 ∷ asks 4344 9 ∷ []

-- an acknowledgement by its time, how many packets stay in flight, its two rates and its round-trip sample
abbrev seen : Ack → List ℕ
seen ack = ack.now ∷ ack.packets_in_flight ∷ ack.rate_incoming ∷ ack.rate_outgoing ∷ ack.rtt_sample_us ∷ []

rates_since_the_start : map (map seen) (acks_after one_started five_rounds (asks 4344 9))
    ≡ ((26000 ∷ 2 ∷ 241333 ∷ 724000 ∷ 6000 ∷ []) ∷ (27000 ∷ 1 ∷ 413714 ∷ 620571 ∷ 7000 ∷ []) ∷ (28000 ∷ 0 ∷ 543000 ∷ 543000 ∷ 8000 ∷ []) ∷ []) ∷ []
rates_since_the_start = refl

-- at the start they are 0
no_rates_at_the_start : (since_start 1448 20000 1 3 (record (ack_of []) { now = 20000; rate_outgoing = 217200 })).rate_outgoing ≡ 0
no_rates_at_the_start = refl
