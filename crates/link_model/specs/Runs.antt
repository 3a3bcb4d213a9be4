-- What holds of every run of a link: the order of its acknowledgements, their round-trip samples, and the room that
-- packets find in the queue.
use Rattle.std.specs.Prelude.{◌≡◌, ℕ, ◌<◌, ◌≤◌, true, false, List, [], ◌∷◌}
use Rattle.ccp_base.specs.declared.ack.Ack.{Ack}
use Rattle.link_model.specs.declared.link_case.LinkCase.{LinkCase}
use Rattle.link_model.specs.declared.past.Past.{Past}
use Rattle.link_model.specs.Link.{Packet, GivenAck, Fate, Lost, Served, waiting, time_of, past_of}

-- acknowledgements, the latest first, come in the order of time
abbrev pub AreInOrder : List GivenAck → Type 0
AreInOrder [] = Unit {0}
AreInOrder (given ∷ earlier) = (time_of earlier ≤ given.ack.now) × AreInOrder earlier

-- the round-trip sample of a packet is at least the delay, and a timeout has the sample of the acknowledgement before it
pub record IsSampled (delay : ℕ) (past : Past) (ack : Ack) : Type 0 where
  pub packet : ack.was_timeout ≡ false → delay ≤ ack.rtt_sample_us
  pub timeout : ack.was_timeout ≡ true → ack.rtt_sample_us ≡ past.rtt_sample_us

-- acknowledgements, the latest first, have such samples
abbrev pub AreSampled : ℕ → List GivenAck → Type 0
AreSampled delay [] = Unit {0}
AreSampled delay (given ∷ earlier) = IsSampled delay (past_of earlier) given.ack × AreSampled delay earlier

-- a packet is lost, or fewer packets wait than the queue holds
abbrev pub FindsRoom : ℕ → ℕ → Fate → Type 0
FindsRoom queue waiting Lost = Unit {0}
FindsRoom queue waiting (Served chance marked) = waiting < queue

-- packets, the latest first, find room at their sending if they aren't lost
abbrev pub AllFindRoom : LinkCase → List Packet → Type 0
AllFindRoom case [] = Unit {0}
AllFindRoom case (packet ∷ earlier) =
    FindsRoom case.queue (waiting case.trace packet.sent_at earlier) packet.fate × AllFindRoom case earlier
