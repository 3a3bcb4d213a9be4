-- An acknowledgement as the list of its fifteen primitives.
use Rattle.std.specs.Prelude.{ℕ, Bool, true, false, ◌==◌, List, [], ◌∷◌, slice_index}
use Rattle.ccp_base.specs.declared.ack.Ack.{Ack}
use Rattle.ccp_base.specs.Truth.{is_true}

-- a Bool as a number
abbrev pub bool_number : Bool → ℕ
bool_number true = 1
bool_number false = 0

-- the fifteen values of an acknowledgement, in the order of the primitives
abbrev pub primitives : Ack → List ℕ
primitives a =
    a.bytes_acked ∷ a.packets_acked ∷ a.bytes_misordered ∷ a.packets_misordered ∷ a.ecn_bytes ∷
    a.ecn_packets ∷ a.lost_pkts_sample ∷ a.now ∷ a.bytes_in_flight ∷ a.packets_in_flight ∷ a.bytes_pending ∷
    a.rate_incoming ∷ a.rate_outgoing ∷ a.rtt_sample_us ∷ bool_number a.was_timeout ∷ []

-- the n-th of them, counted from 0
abbrev pub prim : ℕ → Ack → ℕ
prim n a = slice_index (primitives a) n

-- the number of the one that is a Bool, which is the last: all others are plain numbers
abbrev pub flag_number : ℕ
flag_number = 14

-- the n-th of them is a Bool
abbrev pub is_flag : ℕ → Bool
is_flag n = n == flag_number

-- the acknowledgement with these values, the Bool true if its number isn't 0
abbrev pub ack_of : List ℕ → Ack
ack_of n = record {
  bytes_acked = slice_index n 0;
  packets_acked = slice_index n 1;
  bytes_misordered = slice_index n 2;
  packets_misordered = slice_index n 3;
  ecn_bytes = slice_index n 4;
  ecn_packets = slice_index n 5;
  lost_pkts_sample = slice_index n 6;
  now = slice_index n 7;
  bytes_in_flight = slice_index n 8;
  packets_in_flight = slice_index n 9;
  bytes_pending = slice_index n 10;
  rate_incoming = slice_index n 11;
  rate_outgoing = slice_index n 12;
  rtt_sample_us = slice_index n 13;
  was_timeout = is_true (slice_index n flag_number);
}
