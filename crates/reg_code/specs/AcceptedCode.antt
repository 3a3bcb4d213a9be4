-- Which codes are accepted: the first rule that a code fails, and where.
use Rattle.std.specs.Prelude.{◌≡◌, ℕ, ◌+◌, ◌-◌, Bool, true, false, not, ◌&&◌, ◌||◌, ◌==◌, nat_lt, nat_le, if◌then◌else◌, Option, Some, None, List, [], ◌∷◌, length}
use Rattle.std.specs.Option.{option_or}
use Rattle.ccp_base.specs.Limits.{most_fields, most_controls, most_blocks, most_locals, most_temps, most_instrs, most_tenths, primitive_count}
use Rattle.reg_code.specs.declared.code.Code.{Code}
use Rattle.reg_code.specs.declared.code.Event.{Event}
use Rattle.reg_code.specs.declared.code.Implicit.TheVariants.{Flag, Fall, Send}
use Rattle.reg_code.specs.declared.code.Instr.{Instr}
use Rattle.reg_code.specs.declared.code.Op.{Op}
use Rattle.reg_code.specs.declared.code.Op.TheVariants as op
use Rattle.reg_code.specs.declared.code.Reg.{Reg}
use Rattle.reg_code.specs.declared.code.Reg.TheVariants as reg
use Rattle.reg_code.specs.declared.rule.Part.{Part}
use Rattle.reg_code.specs.declared.rule.Part.TheVariants.{Condition, Body}
use Rattle.reg_code.specs.declared.rule.Rule.{Rule}
use Rattle.reg_code.specs.declared.rule.Rule.TheVariants as rule
use Rattle.reg_code.specs.declared.rule.Sizes.{Sizes}
use Rattle.reg_code.specs.CodeStep.{condition_of, event_body, instrs_after}
use Rattle.reg_code.specs.Forms.{is_micros}

-- a rule that fails, with the index of what it fails at
abbrev pub Refusal : Type 0
Refusal = Rule × ℕ

infixl 5 ◌or_else◌
-- the first of two, if there is one, else the second
abbrev pub ◌or_else◌ : {A : Type 0} → Option A → Option A → Option A
first or_else next = option_or first next

abbrev pub rule_where : Bool → Rule → Option Rule
rule_where fails which = if fails then Some which else None

abbrev pub refusal_where : Bool → Rule → ℕ → Option Refusal
refusal_where fails which index = if fails then Some (which, index) else None

abbrev pub at_index : ℕ → Option Rule → Option Refusal
at_index index None = None
at_index index (Some which) = Some (which, index)

-- the temporaries and locals that were written so far in an event
pub record Marks : Type 0 where
  pub temps : ℕ → Bool
  pub locals : ℕ → Bool

abbrev pub no_marks : Marks
no_marks = record { temps = λ i. false; locals = λ i. false }

-- one more mark
abbrev pub with_mark : (ℕ → Bool) → ℕ → ℕ → Bool
with_mark marks i j = if j == i then true else marks j

-- every operation always writes its target, but for `if` and `notif`
abbrev pub writes : Op → Bool
writes op.If = false
writes op.NotIf = false
writes _ = true

abbrev pub with_target : Marks → Reg → Marks
with_target marks (reg.Temp i) = record marks { temps = with_mark marks.temps i }
with_target marks (reg.Local i) = record marks { locals = with_mark marks.locals i }
with_target marks _ = marks

-- the marks after an instruction
abbrev pub marked : Marks → Instr → Marks
marked marks instr = if writes instr.op then with_target marks instr.to else marks

abbrev pub marks_after : List Instr → Marks → Marks
marks_after [] marks = marks
marks_after (instr ∷ rest) marks = marks_after rest (marked marks instr)

-- a register with this number exists
abbrev pub is_there : Sizes → Reg → Bool
is_there sizes (reg.Imm value) = true
is_there sizes (reg.Prim n) = nat_lt n primitive_count
is_there sizes (reg.Report i) = nat_lt i sizes.reports
is_there sizes (reg.Control i) = nat_lt i sizes.controls
is_there sizes (reg.Implicit which) = true
is_there sizes (reg.Local i) = nat_lt i most_locals
is_there sizes (reg.Temp i) = nat_lt i most_temps

-- each register that the instruction names exists, what it reads and what it writes
abbrev pub are_there : Sizes → Instr → Bool
are_there sizes instr = is_there sizes instr.left && is_there sizes instr.right && is_there sizes instr.to

-- it may be an operand
abbrev pub is_readable : Reg → Bool
is_readable (reg.Implicit Flag) = false
is_readable (reg.Implicit Fall) = false
is_readable (reg.Implicit Send) = false
is_readable _ = true

-- why a register that is read has no value yet
abbrev pub missing_value : Marks → Reg → Option Rule
missing_value marks (reg.Temp i) = rule_where (not (marks.temps i)) rule.Temporary
missing_value marks (reg.Local i) = rule_where (not (marks.locals i)) rule.Local
missing_value marks _ = None

abbrev pub is_bind : Op → Bool
is_bind op.Bind = true
is_bind _ = false

abbrev pub is_ewma : Op → Bool
is_ewma op.Ewma = true
is_ewma _ = false

-- `ewma` reads its target too
abbrev pub missing_target_value : Marks → Instr → Option Rule
missing_target_value marks instr = if is_ewma instr.op then missing_value marks instr.to else None

abbrev pub is_zero : Reg → Bool
is_zero (reg.Imm value) = value == 0
is_zero _ = false

abbrev pub is_weight : Reg → Bool
is_weight (reg.Imm value) = nat_le value most_tenths
is_weight _ = false

-- it can't be written at all
abbrev pub is_fixed : Reg → Bool
is_fixed (reg.Imm value) = true
is_fixed (reg.Prim n) = true
is_fixed _ = false

abbrev pub is_flag_reg : Reg → Bool
is_flag_reg (reg.Implicit Flag) = true
is_flag_reg _ = false

abbrev pub is_temp : Reg → Bool
is_temp (reg.Temp i) = true
is_temp _ = false

abbrev pub is_in_condition : Part → Bool
is_in_condition Condition = true
is_in_condition Body = false

-- the instruction may not write its target there:
-- an immediate or a primitive;
-- Micros, but by a `bind` from immediate 0;
-- in a condition, another one than a temporary and Flag;
-- in a body, Flag;
-- at the end of a condition, one that isn't always written, or isn't Flag;
-- of `ewma`, one that isn't read: Flag, Fall or Send
abbrev pub is_misplaced : Part → Bool → Instr → Bool
is_misplaced part is_last instr =
    is_fixed instr.to
    || (is_micros instr.to && not (is_bind instr.op && is_zero instr.left))
    || (is_in_condition part && not (is_temp instr.to || is_flag_reg instr.to))
    || (not (is_in_condition part) && is_flag_reg instr.to)
    || (is_in_condition part && is_last && not (writes instr.op && is_flag_reg instr.to))
    || (is_ewma instr.op && not (is_readable instr.to))

-- the first rule that an instruction fails at its place
abbrev pub rule_failed : Sizes → Part → Bool → Marks → Instr → Option Rule
rule_failed sizes part is_last marks instr =
    rule_where (not (are_there sizes instr)) rule.Range
    or_else rule_where (not (is_readable instr.left && is_readable instr.right)) rule.Readable
    or_else missing_value marks instr.left
    or_else missing_value marks instr.right
    or_else missing_target_value marks instr
    or_else rule_where (is_ewma instr.op && not (is_weight instr.left)) rule.Weight
    or_else rule_where (is_bind instr.op && not (is_zero instr.right)) rule.BindRight
    or_else rule_where (is_misplaced part is_last instr) rule.Writable

abbrev pub is_end : List Instr → Bool
is_end [] = true
is_end (instr ∷ rest) = false

-- the first refusal among the instructions of a part, the first of which has this index
abbrev pub part_refusal : Sizes → Part → ℕ → Marks → List Instr → Option Refusal
part_refusal sizes part index marks [] = None
part_refusal sizes part index marks (instr ∷ rest) =
    at_index index (rule_failed sizes part (is_end rest) marks instr)
    or_else part_refusal sizes part (index + 1) (marked marks instr) rest

abbrev pub event_refusal : Sizes → Event → ℕ → List Instr → Option Refusal
event_refusal sizes event index instrs =
    part_refusal sizes Condition index no_marks (condition_of event instrs)
    or_else part_refusal sizes Body (index + event.condition) (marks_after (condition_of event instrs) no_marks)
    (event_body event instrs)

-- the first refusal among the instructions, which are those of the events
abbrev pub instrs_refusal : Sizes → List Event → ℕ → List Instr → Option Refusal
instrs_refusal sizes [] index instrs = None
instrs_refusal sizes (event ∷ rest) index instrs =
    event_refusal sizes event index instrs
    or_else instrs_refusal sizes rest (index + event.condition + event.body) (instrs_after event instrs)

-- the first event, by its number from this one on, that has no condition or reaches past the instructions that are
-- left; past the last event, that some are left
abbrev pub events_refusal : List Event → ℕ → ℕ → Option Refusal
events_refusal [] number left = refusal_where (nat_lt 0 left) rule.Events number
events_refusal (event ∷ rest) number left =
    refusal_where ((event.condition == 0) || nat_lt left (event.condition + event.body)) rule.Events number
    or_else events_refusal rest (number + 1) (left - (event.condition + event.body))

abbrev pub counts_refusal : Code → Option Refusal
counts_refusal code =
    refusal_where (nat_lt most_fields (length code.reports)) rule.Counts 0
    or_else refusal_where (nat_lt most_controls (length code.controls)) rule.Counts 1
    or_else refusal_where (nat_lt most_blocks (length code.events)) rule.Counts 2
    or_else refusal_where (nat_lt most_instrs (length code.instrs)) rule.Counts 3

abbrev pub sizes_of : Code → Sizes
sizes_of code = record { reports = length code.reports; controls = length code.controls }

-- the first rule that the code fails, and the index of what fails it
abbrev pub rejected : Code → Option Refusal
rejected code =
    counts_refusal code
    or_else events_refusal code.events 0 (length code.instrs)
    or_else instrs_refusal (sizes_of code) code.events 0 code.instrs

abbrev pub IsAccepted : Code → Type 0
IsAccepted code = rejected code ≡ None
