-- What the definition of the link gives for a few short lists of windows.
use Rattle.std.proofs.Common.{◌≡◌, List, ℕ, ◌≤◌, [], ◌∷◌, Some, None, true, false, refl, arith, lit≤}
use Rattle.std.specs.Option.{ForSome}
use Rattle.std.specs.List.Sorted.{IsStrictlyIncreasing}
use Rattle.link_model.specs.Chances.{chance_time}
use Rattle.link_model.specs.Link.{ack_after, run_of}
use Rattle.link_model.specs.Standing.{Standing, standing_of}
use Rattle.link_model.specs.LinkMoves.{sent_standing, next_ack, next_standing}
use Rattle.link_model.specs.declared.link_case.LinkCase.{LinkCase}
use Rattle.ccp_base.specs.declared.ack.Ack.{Ack}

abbrev first_six : List ℕ → List ℕ
first_six times =
    chance_time times 0 ∷ chance_time times 1 ∷ chance_time times 2 ∷ chance_time times 3 ∷ chance_time times 4 ∷ chance_time times 5 ∷ []

chances_begin_anew : first_six (1 ∷ 1 ∷ 3 ∷ []) ≡ 1000 ∷ 1000 ∷ 3000 ∷ 4000 ∷ 4000 ∷ 6000 ∷ []
chances_begin_anew = refl

none : (P : ℕ → Type 0) → ForSome None P
none P x is = absurd (let h : None ≡ Some x = is in (cc))

first_lost : IsStrictlyIncreasing (0 ∷ [])
first_lost k within = absurd (omega arith)

no_losses : IsStrictlyIncreasing []
no_losses k within = absurd (omega arith)

one : ForSome (Some 1) (λ m. (1 ≤ m) × (m ≤ 4096))
one x is = let h : Some 1 ≡ Some x = is in let e : 1 ≡ x = cc in (omega arith, omega arith)

abbrev slow : LinkCase
slow = record {
  trace = 1 ∷ 1 ∷ 3 ∷ [];
  mss = 1448;
  queue = 10;
  delay_us = 20000;
  timeout_us = 200000;
  losses = 0 ∷ [];
  mark = None;
  mss_within = (lit≤ tt, lit≤ tt);
  queue_within = (lit≤ tt, lit≤ tt);
  delay_within = lit≤ tt;
  timeout_within = (lit≤ tt, lit≤ tt);
  losses_rise = first_lost;
  mark_within = none _;
}

abbrev lost_then_served_first : Ack
lost_then_served_first = ack_after slow [] 1448

abbrev lost_then_served : Ack
lost_then_served = ack_after slow (1448 ∷ []) 1448

a_timeout : (lost_then_served_first.now ≡ 200000) × (lost_then_served_first.lost_pkts_sample ≡ 1) × (lost_then_served_first.was_timeout ≡ true) × (lost_then_served_first.packets_in_flight ≡ 0)
a_timeout = (refl, refl, refl, refl)

then_served : (lost_then_served.now ≡ 221000) × (lost_then_served.bytes_acked ≡ 1448) × (lost_then_served.rtt_sample_us ≡ 21000) × (lost_then_served.lost_pkts_sample ≡ 0) × (lost_then_served.rate_incoming ≡ 6552) × (lost_then_served.rate_outgoing ≡ 13104)
then_served = (refl, refl, refl, refl, refl, refl)

abbrev narrow : LinkCase
narrow = record {
  trace = 10 ∷ [];
  mss = 1448;
  queue = 1;
  delay_us = 20000;
  timeout_us = 1000000;
  losses = [];
  mark = None;
  mss_within = (lit≤ tt, lit≤ tt);
  queue_within = (lit≤ tt, lit≤ tt);
  delay_within = lit≤ tt;
  timeout_within = (lit≤ tt, lit≤ tt);
  losses_rise = no_losses;
  mark_within = none _;
}

abbrev queue_overflows : Ack
queue_overflows = ack_after narrow [] 4344

abbrev then_all_lost : Ack
then_all_lost = ack_after narrow (4344 ∷ []) 1448

lost_by_the_queue : (queue_overflows.now ≡ 30000) × (queue_overflows.rtt_sample_us ≡ 30000) × (queue_overflows.lost_pkts_sample ≡ 0) × (queue_overflows.packets_in_flight ≡ 2)
lost_by_the_queue = (refl, refl, refl, refl)

both_lost : (then_all_lost.now ≡ 1030000) × (then_all_lost.lost_pkts_sample ≡ 2) × (then_all_lost.was_timeout ≡ true) × (then_all_lost.rtt_sample_us ≡ 30000) × (then_all_lost.packets_in_flight ≡ 0)
both_lost = (refl, refl, refl, refl, refl)

abbrev marking : LinkCase
marking = record {
  trace = 1 ∷ 1 ∷ 3 ∷ [];
  mss = 1448;
  queue = 10;
  delay_us = 20000;
  timeout_us = 200000;
  losses = [];
  mark = Some 1;
  mss_within = (lit≤ tt, lit≤ tt);
  queue_within = (lit≤ tt, lit≤ tt);
  delay_within = lit≤ tt;
  timeout_within = (lit≤ tt, lit≤ tt);
  losses_rise = no_losses;
  mark_within = one;
}

abbrev first_marking : Ack
first_marking = ack_after marking [] 2896

abbrev second_marking : Ack
second_marking = ack_after marking (2896 ∷ []) 2896

marked : (first_marking.now ≡ 21000) × (first_marking.ecn_packets ≡ 0) × (second_marking.now ≡ 21000) × (second_marking.ecn_bytes ≡ 1448) × (second_marking.ecn_packets ≡ 1)
marked = (refl, refl, refl, refl, refl)

-- ---- what a link keeps

-- a packet that isn't lost has the lost ones before it as a number
abbrev slow_sent : Standing
slow_sent = sent_standing slow 4344 (standing_of slow (run_of slow []))

lost_before : slow_sent.arrivals ≡ record { lost = 1; sent_at = 0; at = 21000; marked = false } ∷ record { lost = 0; sent_at = 0; at = 21000; marked = false } ∷ []
lost_before = refl

-- if the queue is full, the others are one number
abbrev narrow_sent : Standing
narrow_sent = sent_standing narrow 4344 (standing_of narrow (run_of narrow []))

lost_after : (narrow_sent.arrivals ≡ record { lost = 0; sent_at = 0; at = 30000; marked = false } ∷ []) × (narrow_sent.lost ≡ 2) × (narrow_sent.sent ≡ 3) × (narrow_sent.chance ≡ 1)
lost_after = (refl, refl, refl, refl)

-- the steps go on as the definition does
goes_on : (next_standing narrow 4344 (standing_of narrow (run_of narrow [])) ≡ standing_of narrow (run_of narrow (4344 ∷ []))) × (next_ack narrow 1448 (standing_of narrow (run_of narrow (4344 ∷ []))) ≡ then_all_lost)
goes_on = (refl, refl)
