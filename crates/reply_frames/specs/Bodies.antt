-- The bodies of a report, of the notice of a fault, and of an acknowledgement.
use Rattle.std.specs.Prelude.{ℕ, ◌==◌, if◌then◌else◌, take}
use Rattle.ccp_base.specs.declared.ack.Ack.{Ack}
use Rattle.ccp_base.specs.declared.arithmetic.FaultKind.{FaultKind}
use Rattle.ccp_base.specs.declared.arithmetic.FaultKind.TheVariants.{Overflow, Underflow, ZeroDivisor}
use Rattle.ccp_base.specs.declared.exchange.Report.{Report}
use Rattle.ccp_base.specs.declared.exchange.Notice.{Notice}
use Rattle.ccp_base.specs.Acknowledgement.{bool_number, primitives, flag_number}
use Rattle.reply_frames.specs.Frames.{Body}
use Rattle.reply_frames.specs.Frames as body

-- the kinds of faults by number
abbrev pub fault_number : FaultKind → ℕ
fault_number Overflow = 0
fault_number Underflow = 1
fault_number ZeroDivisor = 2

abbrev pub fault_kind_of : ℕ → FaultKind
fault_kind_of n = if n == 0 then Overflow else if n == 1 then Underflow else ZeroDivisor

-- what a Measure says of a report, whose flow stands in the head
abbrev pub report_body : Report → Body
report_body r = body.Measure r.program r.epoch r.first r.end r.now r.cwnd r.rate r.fields

-- what a Fault says of a notice, whose flow stands in the head
abbrev pub notice_body : Notice → Body
notice_body n = body.Fault n.program n.epoch n.at (fault_number n.kind) n.index n.now n.cwnd

-- what an Ack says of an acknowledgement
abbrev pub ack_body : Ack → Body
ack_body ack = body.Ack (take flag_number (primitives ack)) (bool_number ack.was_timeout)
