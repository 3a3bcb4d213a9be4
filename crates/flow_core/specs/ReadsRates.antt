-- Which programs read one of the two rates of an acknowledgement. The others do the same without them.
use Rattle.std.specs.Prelude.{ℕ, ◌==◌, Bool, false, ◌||◌, List, [], ◌∷◌}
use Rattle.reg_code.specs.declared.code.Code.{Code}
use Rattle.reg_code.specs.declared.code.Instr.{Instr}
use Rattle.reg_code.specs.declared.code.Reg.{Reg}
use Rattle.reg_code.specs.declared.code.Reg.TheVariants as reg
use Rattle.flow_core.specs.declared.case.Case.{Case}

-- the numbers of the two among the primitives
abbrev pub incoming_number : ℕ
incoming_number = 11

abbrev pub outgoing_number : ℕ
outgoing_number = 12

abbrev pub is_rate_number : ℕ → Bool
is_rate_number n = (n == incoming_number) || (n == outgoing_number)

-- a register is one of the two
abbrev pub is_rate : Reg → Bool
is_rate (reg.Prim n) = is_rate_number n
is_rate (reg.Imm value) = false
is_rate (reg.Report i) = false
is_rate (reg.Control i) = false
is_rate (reg.Implicit which) = false
is_rate (reg.Local i) = false
is_rate (reg.Temp i) = false

-- an instruction has one as a register: the target counts as well, since `Ewma` reads it
abbrev pub instr_reads_rates : Instr → Bool
instr_reads_rates instr = is_rate instr.left || (is_rate instr.right || is_rate instr.to)

abbrev pub one_reads_rates : List Instr → Bool
one_reads_rates [] = false
one_reads_rates (instr ∷ rest) = instr_reads_rates instr || one_reads_rates rest

-- an instruction of a code reads one, in a condition or in a body
abbrev pub code_reads_rates : Code → Bool
code_reads_rates code = one_reads_rates code.instrs

-- a program that a flow of the case can run reads one
abbrev pub case_reads_rates : Case → Bool
case_reads_rates case = code_reads_rates case.ss.code.code || code_reads_rates case.ca.code.code
