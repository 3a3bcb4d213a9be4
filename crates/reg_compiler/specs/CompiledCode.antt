-- The code that is made of a program.
use Rattle.std.specs.Prelude.{ℕ, ◌+◌, Option, Some, None, option_map, unwrap_or, List, [], ◌∷◌, ◌++◌, length, map}
use Rattle.ccp_base.specs.declared.place.Place.{Place}
use Rattle.ccp_base.specs.Acknowledgement.{bool_number}
use Rattle.portus_core.specs.declared.program.Var.{Var}
use Rattle.portus_core.specs.declared.program.Var.TheVariants as var
use Rattle.portus_core.specs.Programs.{Term, number, truth, name, pair, Action, set, set_if, set_unless, ewma, zero_micros, report, fall, Part, Form}
use Rattle.reg_code.specs.declared.code.Code.{Code}
use Rattle.reg_code.specs.declared.code.Event.{Event}
use Rattle.reg_code.specs.declared.code.Implicit.TheVariants.{Flag, Fall, Send, Micros, Cwnd, Rate}
use Rattle.reg_code.specs.declared.code.Instr.{Instr}
use Rattle.reg_code.specs.declared.code.Op.{Op}
use Rattle.reg_code.specs.declared.code.Op.TheVariants as op
use Rattle.reg_code.specs.declared.code.Reg.{Reg}
use Rattle.reg_code.specs.declared.code.Reg.TheVariants as reg
use Rattle.reg_compiler.specs.declared.line.Line.{Line}
use Rattle.reg_compiler.specs.Known.{known_value}
use Rattle.reg_compiler.specs.Simulation.{register_start}

-- the register of a name
abbrev pub variable_reg : Var → Reg
variable_reg (var.Field i) = reg.Report i
variable_reg (var.Control i) = reg.Control i
variable_reg (var.Local i) = reg.Local i
variable_reg var.Cwnd = reg.Implicit Cwnd
variable_reg var.Rate = reg.Implicit Rate
variable_reg var.Micros = reg.Implicit Micros
variable_reg (var.Prim n) = reg.Prim n

-- the place of an instruction that can't fault
abbrev pub no_place : Place
no_place = record { line = 1; column = 1 }

abbrev pub code_line : Op → Reg → Reg → Reg → Place → Line
code_line o to left right place =
    record { instr = record { op = o; to = to; left = left; right = right }; place = place }

-- a register is given another one's value
abbrev pub bind_line : Reg → Reg → Line
bind_line to from = code_line op.Bind to from (reg.Imm 0) no_place

-- the operand of an expression that needs no instruction: a name, or a number that is known
abbrev pub direct_operand : Term → Option Reg
direct_operand (number n) = Some (reg.Imm n)
direct_operand (truth b) = Some (reg.Imm (bool_number b))
direct_operand (name v) = Some (variable_reg v)
direct_operand (pair o place left right) = option_map reg.Imm (known_value (pair o place left right))

-- the operand of an expression: without an instruction, or else the first free temporary
abbrev pub operand : Term → ℕ → Reg
operand term free = unwrap_or (direct_operand term) (reg.Temp free)

abbrev pub next_free : Option Reg → ℕ → ℕ
next_free (Some from) free = free
next_free None free = free + 1

-- the first temporary that is free after the operand
abbrev pub first_free_after : Term → ℕ → ℕ
first_free_after term free = next_free (direct_operand term) free

-- lines, unless there is an operand without them
abbrev pub unless_direct : Option Reg → List Line → List Line
unless_direct (Some from) lines = []
unless_direct None lines = lines

-- the lines of two operands, and then the operation on them
abbrev pub operation_lines : Op → Reg → Place → Term → List Line → Term → List Line → ℕ → List Line
operation_lines o to place left left_lines right right_lines free =
    unless_direct (direct_operand left) left_lines
    ++ (unless_direct (direct_operand right) right_lines
    ++ (code_line o to (operand left free) (operand right (first_free_after left free)) place ∷ []))

-- a known value is bound; else these are the lines
abbrev pub unless_known : Option ℕ → Reg → List Line → List Line
unless_known (Some value) to lines = bind_line to (reg.Imm value) ∷ []
unless_known None to lines = lines

-- the lines that put an expression's value into a register; the last one writes it
abbrev pub value_lines : Reg → Term → ℕ → List Line
value_lines to (number n) free = bind_line to (reg.Imm n) ∷ []
value_lines to (truth b) free = bind_line to (reg.Imm (bool_number b)) ∷ []
value_lines to (name v) free = bind_line to (variable_reg v) ∷ []
value_lines to (pair o place left right) free =
    unless_known (known_value (pair o place left right)) to
    (operation_lines (op.Pair o) to place left (value_lines (reg.Temp free) left free) right
    (value_lines (reg.Temp (first_free_after left free)) right (first_free_after left free)) free)

-- the lines that put an expression that is no operand yet into a temporary
abbrev pub operand_lines : Term → ℕ → List Line
operand_lines term free = unless_direct (direct_operand term) (value_lines (reg.Temp free) term free)

-- the lines of an operation on two expressions, into a register, with the temporaries from `free` on
abbrev pub both_from : Op → Reg → Place → Term → Term → ℕ → List Line
both_from o to place left right free =
    operand_lines left free
    ++ (operand_lines right (first_free_after left free)
    ++ (code_line o to (operand left free) (operand right (first_free_after left free)) place ∷ []))

-- the same with all temporaries
abbrev pub both_into : Op → Reg → Place → Term → Term → List Line
both_into o to place left right = both_from o to place left right 0

abbrev pub action_lines : Action → List Line
action_lines (set v term) = value_lines (variable_reg v) term 0
action_lines (set_if place v condition term) = both_into op.If (variable_reg v) place condition term
action_lines (set_unless place v condition term) = both_into op.NotIf (variable_reg v) place condition term
action_lines (ewma place v weight term) = both_into op.Ewma (variable_reg v) place (number weight) term
action_lines zero_micros = bind_line (reg.Implicit Micros) (reg.Imm 0) ∷ []
action_lines report = bind_line (reg.Implicit Send) (reg.Imm 1) ∷ []
action_lines fall = bind_line (reg.Implicit Fall) (reg.Imm 1) ∷ []

abbrev pub body_lines : List Action → List Line
body_lines [] = []
body_lines (action ∷ rest) = action_lines action ++ body_lines rest

abbrev pub condition_lines : Term → List Line
condition_lines condition = value_lines (reg.Implicit Flag) condition 0

-- the lines of a block
abbrev pub block_lines : Term → List Action → List Line
block_lines condition body = condition_lines condition ++ body_lines body

-- how many lines a block has
abbrev pub block_size : Term → List Action → ℕ
block_size condition body = length (condition_lines condition) + length (body_lines body)

abbrev pub lines_of : List Part → List Line
lines_of [] = []
lines_of (part ∷ rest) = condition_lines part.condition ++ (body_lines part.body ++ lines_of rest)

abbrev pub event_of : Part → Event
event_of part = record { condition = length (condition_lines part.condition); body = length (body_lines part.body) }

abbrev pub instr_of : Line → Instr
instr_of line = line.instr

abbrev pub line_place : Line → Place
line_place line = line.place

-- the code of a program
abbrev pub code_of : Form → Code
code_of form = record {
  reports = map register_start form.fields;
  controls = map register_start form.controls;
  events = map event_of form.blocks;
  instrs = map instr_of (lines_of form.blocks);
}

-- the place of each instruction of that code
abbrev pub places_of : Form → List Place
places_of form = map line_place (lines_of form.blocks)
