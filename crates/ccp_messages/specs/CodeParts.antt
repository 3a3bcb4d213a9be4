-- The parts of a code as an Install frame has them, and back.
use Rattle.std.specs.Prelude.{ℕ, ◌+◌, ◌*◌, ◌==◌, if◌then◌else◌, List, length, map}
use Rattle.ccp_base.specs.Acknowledgement.{bool_number}
use Rattle.reg_code.specs.declared.code.Code.{Code}
use Rattle.reg_code.specs.declared.code.Event.{Event}
use Rattle.reg_code.specs.declared.code.Implicit.{Implicit}
use Rattle.reg_code.specs.declared.code.Implicit.TheVariants.{Flag, Fall, Send, Micros, Cwnd, Rate}
use Rattle.reg_code.specs.declared.code.Instr.{Instr}
use Rattle.reg_code.specs.declared.code.Reg.{Reg}
use Rattle.reg_code.specs.declared.code.Reg.TheVariants as reg
use Rattle.reg_code.specs.declared.code.Start.{Start}
use Rattle.reg_code.specs.OperationNumbers.{op_number, op_numbered}
use Rattle.std.specs.List.{flat_map}
use Rattle.reply_frames.specs.declared.outline.Counts.{Counts}
use Rattle.reply_frames.specs.declared.outline.Register.{Register}
use Rattle.reply_frames.specs.declared.outline.Instruction.{Instruction}
use Rattle.reply_frames.specs.Frames.{Body, Install}
use Rattle.reply_frames.specs.Frames as parts
use Rattle.reply_frames.specs.FrameBytes.{counts, start_bytes, event_bytes, instruction_bytes}

-- the implicit registers by number
abbrev pub implicit_number : Implicit → ℕ
implicit_number Flag = 0
implicit_number Fall = 1
implicit_number Send = 2
implicit_number Micros = 3
implicit_number Cwnd = 4
implicit_number Rate = 5

abbrev pub implicit_of : ℕ → Implicit
implicit_of n =
    if n == 0 then Flag else if n == 1 then Fall else if n == 2 then Send else
    if n == 3 then Micros else if n == 4 then Cwnd else Rate

abbrev pub register : ℕ → ℕ → Register
register class number = record { class = class; number = number }

-- a register by its class and its number, an immediate one by its value
abbrev pub register_part : Reg → Register
register_part (reg.Imm value) = register 0 value
register_part (reg.Prim n) = register 1 n
register_part (reg.Report i) = register 2 i
register_part (reg.Control i) = register 3 i
register_part (reg.Implicit which) = register 4 (implicit_number which)
register_part (reg.Local i) = register 5 i
register_part (reg.Temp i) = register 6 i

abbrev pub reg_by : ℕ → ℕ → Reg
reg_by class number =
    if class == 0 then reg.Imm number else if class == 1 then reg.Prim number else
    if class == 2 then reg.Report number else if class == 3 then reg.Control number else
    if class == 4 then reg.Implicit (implicit_of number) else if class == 5 then reg.Local number else reg.Temp number

abbrev pub decoded_reg : Register → Reg
decoded_reg r = reg_by r.class r.number

abbrev pub start_part : Start → parts.Start
start_part start = record { volatile = bool_number start.volatile; value = start.value }

abbrev pub decoded_start : parts.Start → Start
decoded_start start = record { volatile = start.volatile == 1; value = start.value }

abbrev pub event_part : Event → parts.EventLengths
event_part event = record { condition = event.condition; block = event.body }

abbrev pub decoded_event : parts.EventLengths → Event
decoded_event event = record { condition = event.condition; body = event.block }

abbrev pub instruction_part : Instr → Instruction
instruction_part i = record {
  op = op_number i.op;
  to = register_part i.to;
  left = register_part i.left;
  right = register_part i.right;
}

abbrev pub decoded_instr : Instruction → Instr
decoded_instr i = record {
  op = op_numbered i.op;
  to = decoded_reg i.to;
  left = decoded_reg i.left;
  right = decoded_reg i.right;
}

-- what an Install says after its head
abbrev pub code_body : ℕ → Code → Body
code_body program code =
    Install program (map start_part code.reports) (map start_part code.controls) (map event_part code.events)
    (map instruction_part code.instrs)

-- the counts of the head before a code
abbrev pub code_counts : Code → Counts
code_counts code = counts (length code.reports) (length code.controls) (length code.events) (length code.instrs)

-- ---- the bytes of the lists of a code

abbrev pub starts_bytes : List Start → List ℕ
starts_bytes starts = flat_map (λ start. start_bytes (start_part start)) starts

abbrev pub events_bytes : List Event → List ℕ
events_bytes events = flat_map (λ event. event_bytes (event_part event)) events

abbrev pub instrs_bytes : List Instr → List ℕ
instrs_bytes instrs = flat_map (λ instr. instruction_bytes (instruction_part instr)) instrs

-- how many bytes a program's number and its code are, after the head of their Install
abbrev pub code_size : Code → ℕ
code_size code =
    4 + 9 * length code.reports + 9 * length code.controls + 4 * length code.events + 28 * length code.instrs
