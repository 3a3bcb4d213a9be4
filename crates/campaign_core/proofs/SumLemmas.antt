-- The sums over the acknowledgements of a link are numbers of 64 bits.
use Rattle.std.specs.Prelude.{◌≡◌, ℕ, zero, suc, ◌+◌, ◌-◌, ◌*◌, ◌<◌, ◌≤◌, Bool, true, false, if◌then◌else◌, List, [], ◌∷◌, ◌++◌, length}
use Rattle.std.proofs.Common.{arith, sym, ◌∙◌, subst}
use Rattle.ccp_base.specs.declared.ack.Ack.{Ack}
use Rattle.link_model.specs.declared.link_case.LinkCase.{LinkCase}
use Rattle.campaign_core.proofs.BoundLemmas.{lost-most, flight-most}
use Rattle.link_model.specs.Link.{Packet, Numbered, GivenAck, Run, packet_and_lost_below, time_of, Next, arrives, all_lost, allowance, packet_after, with_sent, in_flight, next_arrival, answer_by, given_for, sent_by, called, run_from, run_of, acks_in_order, acks_for_windows}
use Rattle.flow_core.specs.declared.letter.Letter.{Letter}
use Rattle.flow_core.specs.Readings.{Flow}
use Rattle.flow_core.specs.Words.{world}
use Rattle.flow_core.proofs.LinkWordLemmas.{acks-of-world, length-world, length-windows}
use Rattle.campaign_core.specs.CampaignRow.{lost_in, timeouts_in, acked_in, sums_of, sums_with, AreRoomy}

-- ---- one more acknowledgement

lost-append : (acks : List Ack) (ack : Ack) → lost_in (acks ++ ack ∷ []) ≡ lost_in acks + ack.lost_pkts_sample
lost-append [] ack = omega arith
lost-append (first ∷ rest) ack = omega (arith, lost-append rest ack)

timeouts-append : (acks : List Ack) (ack : Ack) → timeouts_in (acks ++ ack ∷ []) ≡ timeouts_in acks + (if ack.was_timeout then 1 else 0)
timeouts-append [] ack = omega arith
timeouts-append (first ∷ rest) ack = omega (arith, timeouts-append rest ack)

acked-append : (acks : List Ack) (ack : Ack) → acked_in (acks ++ ack ∷ []) ≡ acked_in acks + ack.bytes_acked
acked-append [] ack = omega arith
acked-append (first ∷ rest) ack = omega (arith, acked-append rest ack)

pub sums-append : (acks : List Ack) (ack : Ack) → sums_of (acks ++ ack ∷ []) ≡ sums_with ack (sums_of acks)
sums-append acks ack =
    λ i. record { lost = lost-append acks ack i; timeouts = timeouts-append acks ack i; acked = acked-append acks ack i }

-- ---- how many packets a link loses

length-with_sent : (case : LinkCase) (now more : ℕ) (packets : List Packet) → length (with_sent case now more packets) ≡ more + length packets
length-with_sent case now zero packets = omega arith
length-with_sent case now (suc more) packets = omega (arith, length-with_sent case now more (packet_after case now packets ∷ packets))

answer-lost : (case : LinkCase) (packets : List Packet) (givens : List GivenAck) (flight : List Numbered) (next : Next)
    → (answer_by case packets givens flight next).ack.lost_pkts_sample ≤ length flight
answer-lost case packets givens flight (arrives number sent_at chance marked) = lost-most (packet_and_lost_below number) flight
answer-lost case packets givens flight all_lost = omega arith

answer-acked : (case : LinkCase) (packets : List Packet) (givens : List GivenAck) (flight : List Numbered) (next : Next)
    → (answer_by case packets givens flight next).ack.bytes_acked ≤ case.mss
answer-acked case packets givens flight (arrives number sent_at chance marked) = omega arith
answer-acked case packets givens flight all_lost = omega arith

pub timeout-one : (b : Bool) → (if b then 1 else 0) ≤ 1
timeout-one true = omega arith
timeout-one false = omega arith

-- ---- a run

-- each call sends at most 4,096 packets, and there are at most 65,536 calls
record Within (run : Run) : Type 0 where
  packets : length run.packets ≤ 4096 * length run.givens
  lost : lost_in (acks_in_order run.givens) ≤ 268435456 * length run.givens
  timeouts : timeouts_in (acks_in_order run.givens) ≤ length run.givens
  acked : acked_in (acks_in_order run.givens) ≤ 65535 * length run.givens

module _ (case : LinkCase) where
  within-called : (window : ℕ) (run : Run) → length run.givens < 65536 → Within run → Within (called case window run)
  within-called window run few w =
      let packets = sent_by case window run in
      let flight = in_flight packets run.givens in
      let given = given_for case packets run.givens in
      let acks = acks_in_order run.givens in
      let before = w.packets in
      let sent : length packets ≤ 4096 * length run.givens + 4096 = omega (arith, before, length-with_sent case (time_of run.givens) (allowance case window - length (in_flight run.packets run.givens)) run.packets) in
      let lost : given.ack.lost_pkts_sample ≤ length flight = answer-lost case packets run.givens flight (next_arrival flight) in
      let most : length flight ≤ length packets = flight-most packets run.givens in
      let got : given.ack.bytes_acked ≤ case.mss = answer-acked case packets run.givens flight (next_arrival flight) in
      let segment : case.mss ≤ 65535 = case.mss_within.1 in
      let lost_before = w.lost in
      let timeouts_before = w.timeouts in
      let acked_before = w.acked in
      record {
        packets = omega (arith, sent);
        lost = omega (arith, few, sent, lost, most, lost_before, lost-append acks given.ack);
        timeouts = omega (arith, timeouts_before, timeouts-append acks given.ack, timeout-one given.ack.was_timeout);
        acked = omega (arith, acked_before, acked-append acks given.ack, got, segment);
      }

  within-run : (windows : List ℕ) (run : Run) → length run.givens + length windows ≤ 65536 → Within run → Within (run_from case run windows)
  within-run [] run few w = w
  within-run (window ∷ later) run few w =
      within-run later (called case window run) (omega (arith, few)) (within-called window run (omega (arith, few)) w)

  givens-run : (windows : List ℕ) (run : Run) → length (run_from case run windows).givens ≡ length run.givens + length windows
  givens-run [] run = omega arith
  givens-run (window ∷ later) run = omega (arith, givens-run later (called case window run))

  pub roomy-run : (windows : List ℕ) → length windows ≤ 65536 → AreRoomy (sums_of (acks_for_windows case windows))
  roomy-run windows few =
      let begun : Run = record { packets = []; givens = [] } in
      let nothing : Within begun = record { packets = omega arith; lost = omega arith; timeouts = omega arith; acked = omega arith } in
      let w : Within (run_of case windows) = within-run windows begun (omega (arith, few)) nothing in
      let count : length (run_of case windows).givens ≡ length windows = givens-run windows begun ∙ omega arith in
      let lost = w.lost in
      let timeouts = w.timeouts in
      let acked = w.acked in
      record {
        lost = omega (arith, few, count, lost);
        timeouts = omega (arith, few, count, timeouts);
        acked = omega (arith, few, count, acked);
      }

-- a link gives an acknowledgement a window
pub calls-run : (case : LinkCase) (windows : List ℕ) → length (run_of case windows).givens ≡ length windows
calls-run case windows = givens-run case windows (record { packets = []; givens = [] }) ∙ omega arith

-- the sums of a flow with at most 65,536 acknowledgements
pub roomy : {X : Type 0} → (flow : Flow X) (link : LinkCase) (word : List Letter) → length (world flow link word).acks ≤ 65536
    → AreRoomy (sums_of (world flow link word).acks)
roomy flow link word few =
    subst (λ (acks : List Ack). AreRoomy (sums_of acks)) (sym (acks-of-world flow link word))
    (roomy-run link (world flow link word).windows (omega (arith, few, length-world flow link word, length-windows flow link word)))
