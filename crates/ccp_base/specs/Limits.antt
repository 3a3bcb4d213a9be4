-- The numbers of the rules, each once. Definitions cite them from here, and a constant of the code is checked
-- against its number by a clause.
use Rattle.std.specs.Prelude.{ℕ}

-- ---- inputs

-- the bytes of an input, in every mode but `audit`, and of the scenario that an input of `audit` begins with
abbrev pub most_input_bytes : ℕ
most_input_bytes = 1048576

-- the bytes of an input of `audit`
abbrev pub most_audit_bytes : ℕ
most_audit_bytes = 67108864

-- ---- programs

-- the bytes of a program text
abbrev pub most_text_bytes : ℕ
most_text_bytes = 65536

-- the lists that are open at once in a program text
abbrev pub most_lists : ℕ
most_lists = 64

-- the bytes of a name
abbrev pub most_name_bytes : ℕ
most_name_bytes = 64

-- the fields of a report
abbrev pub most_fields : ℕ
most_fields = 64

-- the control variables of a program
abbrev pub most_controls : ℕ
most_controls = 64

-- the blocks of a program, each an event of its code
abbrev pub most_blocks : ℕ
most_blocks = 64

-- the locals of a body
abbrev pub most_locals : ℕ
most_locals = 8

-- the temporaries of a code, and so the greatest need of an expression
abbrev pub most_temps : ℕ
most_temps = 8

-- the instructions of a code, and so the greatest count of a program
abbrev pub most_instrs : ℕ
most_instrs = 256

-- the weight of `ewma`, in tenths
abbrev pub most_tenths : ℕ
most_tenths = 10

-- the primitives: the values of an acknowledgement
abbrev pub primitive_count : ℕ
primitive_count = 15

-- the pairs of values that a change or an update carries: window, rate, and the control variables
abbrev pub most_pairs : ℕ
most_pairs = 66

-- ---- acknowledgements and flows

-- the acknowledgements of a flow or a fold
abbrev pub most_acks : ℕ
most_acks = 65536

-- the acknowledgements of all flows of a run
abbrev pub most_acks_in_all : ℕ
most_acks_in_all = 262144

-- the flows of a run
abbrev pub most_flows : ℕ
most_flows = 64

-- the cases of a campaign
abbrev pub most_cases : ℕ
most_cases = 1024

-- the workers of a kind
abbrev pub most_workers : ℕ
most_workers = 32

-- the slots of an outbox
abbrev pub most_slots : ℕ
most_slots = 64

-- the acknowledgements that a ticket waits for its answer
abbrev pub most_lag : ℕ
most_lag = 1000

-- ---- links

-- the bytes of a segment
abbrev pub most_segment_bytes : ℕ
most_segment_bytes = 65535

-- the packets that a queue holds
abbrev pub most_queue : ℕ
most_queue = 4096

-- the waiting packets from which on a packet is marked
abbrev pub most_mark : ℕ
most_mark = 4096

-- the packets in flight, and so the segments of a window
abbrev pub most_flight : ℕ
most_flight = 4096

-- the delay of an acknowledgement, in microseconds
abbrev pub most_delay_us : ℕ
most_delay_us = 10000000

-- the time until a timeout, in microseconds
abbrev pub most_timeout_us : ℕ
most_timeout_us = 60000000

-- the time of a chance in a trace, in milliseconds
abbrev pub most_trace_ms : ℕ
most_trace_ms = 3600000

-- ---- scenarios

-- the bytes of a name in a scenario
abbrev pub most_scene_name_bytes : ℕ
most_scene_name_bytes = 32

-- the programs that a scenario names, beside the three that are built in
abbrev pub most_named_programs : ℕ
most_named_programs = 13

-- the texts that a flow changes to in turn
abbrev pub most_steps : ℕ
most_steps = 16

-- the window that such a flow begins with, in bytes
abbrev pub most_first_window : ℕ
most_first_window = 4294967295

-- the length of a round, in microseconds
abbrev pub most_quantum_us : ℕ
most_quantum_us = 1000000

-- the rounds of a run over one bottleneck
abbrev pub most_rounds : ℕ
most_rounds = 10000

-- ---- frames

-- the number of an instruction's operation
abbrev pub most_operation : ℕ
most_operation = 14

-- the bytes of a frame in an answer
abbrev pub most_answer_bytes : ℕ
most_answer_bytes = 64

-- the fields of a report, or the reports of a code, in a frame of version 1
abbrev pub most_short_fields : ℕ
most_short_fields = 32

-- the reason for which a message is refused
abbrev pub most_reason : ℕ
most_reason = 9

-- the bytes of a frame
abbrev pub most_frame_bytes : ℕ
most_frame_bytes = 8596

-- the programs of a datapath over frames
abbrev pub most_kept_programs : ℕ
most_kept_programs = 16

-- the messages to a datapath over frames
abbrev pub most_messages : ℕ
most_messages = 1048576
