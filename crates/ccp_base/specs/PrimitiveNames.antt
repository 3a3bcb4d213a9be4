-- The names of the fifteen primitives, in the order of `Acknowledgement.primitives`.
use Rattle.std.specs.Prelude.{ℕ, Option, List, [], ◌∷◌, ◌++◌, codes, position}
use Rattle.std.specs.Str.{bytes_eq}

-- a primitive's prefix, which a program writes before a dot, and its name
abbrev pub PrimitiveName : Type 0
PrimitiveName = List ℕ × List ℕ

abbrev pub of_ack : List ℕ → PrimitiveName
of_ack name = (codes "Ack", name)

abbrev pub of_flow : List ℕ → PrimitiveName
of_flow name = (codes "Flow", name)

abbrev pub primitive_names : List PrimitiveName
primitive_names =
    of_ack (codes "bytes_acked") ∷ of_ack (codes "packets_acked") ∷ of_ack (codes "bytes_misordered") ∷
    of_ack (codes "packets_misordered") ∷ of_ack (codes "ecn_bytes") ∷ of_ack (codes "ecn_packets") ∷
    of_ack (codes "lost_pkts_sample") ∷ of_ack (codes "now") ∷ of_flow (codes "bytes_in_flight") ∷
    of_flow (codes "packets_in_flight") ∷ of_flow (codes "bytes_pending") ∷ of_flow (codes "rate_incoming") ∷
    of_flow (codes "rate_outgoing") ∷ of_flow (codes "rtt_sample_us") ∷ of_flow (codes "was_timeout") ∷ []

-- the word that a program writes for a primitive
abbrev pub word_of : PrimitiveName → List ℕ
word_of known = known.0 ++ 46 ∷ known.1

-- the number of the primitive with this name
abbrev pub value_named : List ℕ → Option ℕ
value_named name = position (λ known. bytes_eq name known.1) primitive_names

-- the number of the primitive that a program writes so
abbrev pub primitive_named : List ℕ → Option ℕ
primitive_named word = position (λ known. bytes_eq word (word_of known)) primitive_names
