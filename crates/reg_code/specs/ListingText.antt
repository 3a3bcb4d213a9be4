-- The listing of a code, line by line.
use Rattle.std.specs.Prelude.{ℕ, ◌+◌, Bool, true, false, List, [], ◌∷◌, codes, decimal}
use Rattle.ccp_base.specs.Operations.{written_as}
use Rattle.ccp_base.specs.Text.{◌⧺◌}
use Rattle.reg_code.specs.declared.code.Code.{Code}
use Rattle.reg_code.specs.declared.code.Event.{Event}
use Rattle.reg_code.specs.declared.code.Implicit.{Implicit}
use Rattle.reg_code.specs.declared.code.Implicit.TheVariants.{Flag, Fall, Send, Micros, Cwnd, Rate}
use Rattle.reg_code.specs.declared.code.Instr.{Instr}
use Rattle.reg_code.specs.declared.code.Op.{Op}
use Rattle.reg_code.specs.declared.code.Op.TheVariants as op
use Rattle.reg_code.specs.declared.code.Reg.{Reg}
use Rattle.reg_code.specs.declared.code.Reg.TheVariants as reg
use Rattle.reg_code.specs.declared.code.Start.{Start}

abbrev pub op_text : Op → List ℕ
op_text (op.Pair operation) = (written_as operation).word
op_text op.Bind = codes "bind"
op_text op.If = codes "if"
op_text op.NotIf = codes "notif"
op_text op.Ewma = codes "ewma"

abbrev pub implicit_text : Implicit → List ℕ
implicit_text Flag = codes "flag"
implicit_text Fall = codes "fall"
implicit_text Send = codes "send"
implicit_text Micros = codes "micros"
implicit_text Cwnd = codes "cwnd"
implicit_text Rate = codes "rate"

abbrev pub numbered_text : List ℕ → ℕ → List ℕ
numbered_text name n = name ⧺ decimal n

abbrev pub reg_text : Reg → List ℕ
reg_text (reg.Imm value) = numbered_text (codes "#") value
reg_text (reg.Prim n) = numbered_text (codes "prim") n
reg_text (reg.Report i) = numbered_text (codes "report") i
reg_text (reg.Control i) = numbered_text (codes "control") i
reg_text (reg.Implicit which) = implicit_text which
reg_text (reg.Local i) = numbered_text (codes "local") i
reg_text (reg.Temp i) = numbered_text (codes "temp") i

abbrev pub keeping_text : Bool → List ℕ
keeping_text true = codes "volatile"
keeping_text false = codes "fixed"

-- a report field or a control variable, with its number and its start value
abbrev pub start_line : List ℕ → ℕ → Start → List ℕ
start_line class i start =
    class ⧺ codes " " ⧺ decimal i ⧺ codes " " ⧺ keeping_text start.volatile ⧺ codes " " ⧺ decimal start.value
    ⧺ codes "\n"

abbrev pub start_lines : List ℕ → ℕ → List Start → List ℕ
start_lines class i [] = []
start_lines class i (start ∷ rest) = start_line class i start ⧺ start_lines class (i + 1) rest

-- the indices of some instructions: the first one, and that after the last one
abbrev pub indices_text : ℕ → ℕ → List ℕ
indices_text first end = decimal first ⧺ codes ".." ⧺ decimal end

abbrev pub event_head : ℕ → List ℕ
event_head i = codes "event " ⧺ decimal i ⧺ codes " condition "

-- an event with its number, the first of whose instructions has this index
abbrev pub event_line : ℕ → ℕ → Event → List ℕ
event_line i index event =
    event_head i ⧺ indices_text index (index + event.condition) ⧺ codes " body "
    ⧺ indices_text (index + event.condition) (index + event.condition + event.body) ⧺ codes "\n"

abbrev pub event_lines : ℕ → ℕ → List Event → List ℕ
event_lines i index [] = []
event_lines i index (event ∷ rest) =
    event_line i index event ⧺ event_lines (i + 1) (index + event.condition + event.body) rest

abbrev pub operand_text : Reg → List ℕ
operand_text operand = codes " " ⧺ reg_text operand

abbrev pub instr_head : ℕ → Op → List ℕ
instr_head index o = decimal index ⧺ codes " " ⧺ op_text o

-- an instruction with its index
abbrev pub instr_line : ℕ → Instr → List ℕ
instr_line index instr =
    instr_head index instr.op ⧺ operand_text instr.to ⧺ operand_text instr.left ⧺ operand_text instr.right ⧺ codes "\n"

abbrev pub instr_lines : ℕ → List Instr → List ℕ
instr_lines index [] = []
instr_lines index (instr ∷ rest) = instr_line index instr ⧺ instr_lines (index + 1) rest

-- a code, a line each for its report fields, control variables, events and instructions
abbrev pub listing_text : Code → List ℕ
listing_text code =
    start_lines (codes "report") 0 code.reports ⧺ start_lines (codes "control") 0 code.controls
    ⧺ event_lines 0 0 code.events ⧺ instr_lines 0 code.instrs
