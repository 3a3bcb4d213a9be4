-- The members of a scenario's objects: how each is spelled, and from where to where the numbers among them go.
use Rattle.std.specs.Prelude.{ℕ, ◌^◌, ◌-◌, List, codes}
use Rattle.ccp_base.specs.Limits.{most_acks, most_slots, most_lag, most_segment_bytes, most_queue, most_mark, most_delay_us, most_timeout_us, most_first_window, most_quantum_us, most_rounds}
use Rattle.scene_members.specs.declared.key.Key.{Key}
use Rattle.scene_members.specs.declared.key.Key.TheVariants.{Version, Programs, Traces, Cases, Shared, Name, Agent, Trace, Mss, Queue, DelayUs, TimeoutUs, Acks, Slots, Lag, Losses, Mark, StartUs, Ss, Ca, Cwnd, Steps, QuantumUs, Rounds}

abbrev pub key_word : Key → List ℕ
key_word Version = codes "version"
key_word Programs = codes "programs"
key_word Traces = codes "traces"
key_word Cases = codes "cases"
key_word Shared = codes "shared"
key_word Name = codes "name"
key_word Agent = codes "agent"
key_word Trace = codes "trace"
key_word Mss = codes "mss"
key_word Queue = codes "queue"
key_word DelayUs = codes "delay_us"
key_word TimeoutUs = codes "timeout_us"
key_word Acks = codes "acks"
key_word Slots = codes "slots"
key_word Lag = codes "lag"
key_word Losses = codes "losses"
key_word Mark = codes "mark"
key_word StartUs = codes "start_us"
key_word Ss = codes "ss"
key_word Ca = codes "ca"
key_word Cwnd = codes "cwnd"
key_word Steps = codes "steps"
key_word QuantumUs = codes "quantum_us"
key_word Rounds = codes "rounds"

-- the latest start of a flow, in microseconds of the time of the link that it shares
abbrev pub most_start_us : ℕ
most_start_us = 10000000000

-- the least value of a member that is a number
abbrev pub least_of : Key → ℕ
least_of Version = 1
least_of Mss = 1
least_of Queue = 1
least_of TimeoutUs = 1
least_of Slots = 1
least_of Mark = 1
least_of QuantumUs = 1
least_of Rounds = 1
least_of _ = 0

-- the greatest value of a member that is a number, or of an item of one that is a list of numbers
abbrev pub greatest_value : Key → ℕ
greatest_value Version = 1
greatest_value Mss = most_segment_bytes
greatest_value Queue = most_queue
greatest_value DelayUs = most_delay_us
greatest_value TimeoutUs = most_timeout_us
greatest_value Acks = most_acks
greatest_value Slots = most_slots
greatest_value Lag = most_lag
greatest_value Losses = 2 ^ 32 - 1
greatest_value Mark = most_mark
greatest_value StartUs = most_start_us
greatest_value Cwnd = most_first_window
greatest_value QuantumUs = most_quantum_us
greatest_value Rounds = most_rounds
greatest_value _ = 0
