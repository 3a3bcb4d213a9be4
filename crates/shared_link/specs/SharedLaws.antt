-- Laws of the rounds of a shared link.
use Rattle.std.specs.Prelude.{◌≡◌, ℕ, ◌+◌, ◌<◌, ◌≤◌, Bool, true, false, ◌==◌, if◌then◌else◌, List, [], ◌∷◌, ◌++◌, length, refl}
use Rattle.std.specs.List.Sorted.{IsStrictlyIncreasing}
use Rattle.ccp_base.specs.declared.ack.Ack.{Ack}
use Rattle.link_model.specs.declared.past.Past.{Past}
use Rattle.link_model.specs.Link.{Packet, GivenAck, allowance_of, time_of, past_of, acked_of, arrival_ack_of, timeout_ack_of}
use Rattle.link_model.specs.Counts.{served_chances, lost_of}
use Rattle.shared_link.specs.declared.shared_case.SharedCase.{SharedCase}
use Rattle.shared_link.specs.declared.round.Ask.{Ask}
use Rattle.shared_link.specs.SharedRounds.{SharedLinkRun, flow_link_at, ask_at, every_packet, own_packets, own_flight, allowed, since_start, some_lacks, round_time, sent_by, with_round, shared_run_from, shared_run_of, first_run}

-- no chance serves two packets: each packet's comes after that of the one before
abbrev pub AreOnce : SharedLinkRun → Type 0
AreOnce run = IsStrictlyIncreasing (served_chances (every_packet run.sent))

-- every packet of a flow that was sent was acknowledged, left as lost, or is in flight
abbrev pub AddUp : SharedLinkRun → ℕ → Type 0
AddUp run flow =
    length (own_packets flow run.sent)
    ≡ acked_of (run.givens flow) + lost_of (run.givens flow) + length (own_flight flow run.sent (run.givens flow))

-- after the sending of one more round no flow has fewer packets in flight than it may have
abbrev pub NoneLacks : SharedCase → List Ask → SharedLinkRun → Type 0
NoneLacks case asks run =
    some_lacks (allowed case (round_time case run.rounds) asks) run.givens (length case.flows) (sent_by case asks run)
    ≡ false

-- ---- starts

-- a flow sends nothing in one more round if the round's time is before the flow's start
abbrev pub WaitsForStart : SharedCase → List Ask → SharedLinkRun → ℕ → Type 0
WaitsForStart case asks run flow =
    round_time case run.rounds < (flow_link_at case flow).start_us
    → own_packets flow (sent_by case asks run) ≡ own_packets flow run.sent

-- packets were sent at this time or later
abbrev pub AreSentFrom : ℕ → List Packet → Type 0
AreSentFrom from [] = Unit {0}
AreSentFrom from (packet ∷ earlier) = (from ≤ packet.sent_at) × AreSentFrom from earlier

-- a flow that starts at time 0 may have as many packets in flight as its window allows, and none if it has no
-- acknowledgement left
abbrev pub MaySendAtOnce : SharedCase → ℕ → List Ask → ℕ → Type 0
MaySendAtOnce case now asks flow =
    (flow_link_at case flow).start_us ≡ 0
    → allowed case now asks flow
    ≡ (if (ask_at asks flow).left == 0 then 0 else allowance_of (flow_link_at case flow).mss (ask_at asks flow).window)

-- an acknowledgement of a flow that starts at time 0 is the one without a start, with its rates over the link's time
pub record AreOverLinkTime (mss : ℕ) : Type 0 where
  pub arrivals : (sent_at arrival : ℕ) (marked : Bool) (past : Past) (lost stay acked sent : ℕ)
      → since_start mss 0 acked sent (arrival_ack_of mss sent_at arrival marked past lost stay acked sent)
      ≡ arrival_ack_of mss sent_at arrival marked past lost stay acked sent
  pub timeouts : (now : ℕ) (past : Past) (lost stay acked sent : ℕ)
      → since_start mss 0 acked sent (timeout_ack_of mss now past lost stay acked sent)
      ≡ timeout_ack_of mss now past lost stay acked sent

-- ---- times

-- acknowledgements, the latest first, come in the order of time
abbrev pub AreInOrder : List GivenAck → Type 0
AreInOrder [] = Unit {0}
AreInOrder (given ∷ earlier) = (time_of earlier ≤ given.ack.now) × AreInOrder earlier

-- the round-trip sample of a packet is at least its flow's delay, and a timeout has the sample of the acknowledgement
-- before it
pub record IsSampled (delay : ℕ) (past : Past) (ack : Ack) : Type 0 where
  pub packet : ack.was_timeout ≡ false → delay ≤ ack.rtt_sample_us
  pub timeout : ack.was_timeout ≡ true → ack.rtt_sample_us ≡ past.rtt_sample_us

-- acknowledgements, the latest first, have such samples
abbrev pub AreSampled : ℕ → List GivenAck → Type 0
AreSampled delay [] = Unit {0}
AreSampled delay (given ∷ earlier) = IsSampled delay (past_of earlier) given.ack × AreSampled delay earlier

-- ---- rounds

pub shared_run_from-push : (case : SharedCase) (rounds : List (List Ask)) (asks : List Ask) (run : SharedLinkRun)
    → shared_run_from case run (rounds ++ asks ∷ []) ≡ with_round case asks (shared_run_from case run rounds)
shared_run_from-push case [] asks run = refl
shared_run_from-push case (first ∷ later) asks run = shared_run_from-push case later asks (with_round case first run)

-- one more round
pub shared_run_of-push : (case : SharedCase) (rounds : List (List Ask)) (asks : List Ask)
    → shared_run_of case (rounds ++ asks ∷ []) ≡ with_round case asks (shared_run_of case rounds)
shared_run_of-push case rounds asks = shared_run_from-push case rounds asks first_run
