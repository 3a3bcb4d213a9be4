-- How the system's answers to a read, a write and a flush become answers of a stream, and which count as faults.
use Rattle.std.specs.Prelude.{ℕ, ◌+◌, ◌-◌, ◌^◌, min, ◌&&◌, not, ◌==◌, if◌then◌else◌, Result, Ok, Err}
use Rattle.ccp_base.specs.declared.outside.Failed.{Failed}

-- the count of bytes that the system reports as read, or a failure if it reports an error
abbrev pub read_answer : {E : Type 0} → Result ℕ E → Result ℕ Failed
read_answer (Ok count) = Ok count
read_answer (Err error) = Err (record {})

-- how much of a piece of this length the system reports as written, or a failure if it reports an error, or that it
-- took none of some bytes
abbrev pub write_answer : {E : Type 0} → ℕ → Result ℕ E → Result ℕ Failed
write_answer size (Ok count) = if count == 0 && not (size == 0) then Err (record {}) else Ok count
write_answer size (Err error) = Err (record {})

-- success if the system reports it, or a failure if it reports an error
abbrev pub flush_answer : {A E : Type 0} → Result A E → Result (Unit {0}) Failed
flush_answer (Ok done) = Ok (record {})
flush_answer (Err error) = Err (record {})

-- a count of faults after an answer: one more for a failure, up to 2^64-1
abbrev pub faults_after : {A : Type 0} → Result A Failed → ℕ → ℕ
faults_after (Ok value) faults = faults
faults_after (Err failed) faults = min (faults + 1) (2 ^ 64 - 1)
