-- A program that reads no rate does the same with an acknowledgement without its rates.
use Rattle.std.specs.Prelude.{◌≡◌, ◌≢◌, ℕ, zero, suc, ◌+◌, ◌==◌, Bool, true, false, ◌||◌, if◌then◌else◌, Some, Result, Ok, Err, List, [], ◌∷◌, ◌++◌, length, take, drop, slice_get, nat_lt, refl}
use Rattle.std.proofs.Common.{ap, sym, ◌∙◌}
use Rattle.std.proofs.lemmas.Bool.{or_parts, true≢false}
use Rattle.ccp_base.specs.declared.ack.Ack.{Ack}
use Rattle.ccp_base.specs.declared.arithmetic.FaultKind.{FaultKind}
use Rattle.ccp_base.specs.Acknowledgement.{primitives}
use Rattle.ccp_base.specs.Blending.{moving_average}
use Rattle.ccp_base.specs.Truth.{is_true}
use Rattle.ccp_base.specs.Operations.{apply}
use Rattle.link_model.specs.Rated.{without_rates, rated}
use Rattle.portus_core.specs.declared.env.Env.{Env}
use Rattle.portus_core.specs.Epoch.{Outcome, quiet, reported, held, failed, stopped, heard}
use Rattle.reg_code.specs.declared.code.Code.{Code}
use Rattle.reg_code.specs.declared.code.Event.{Event}
use Rattle.reg_code.specs.declared.code.Implicit.{Implicit}
use Rattle.reg_code.specs.declared.code.Implicit.TheVariants.{Flag, Fall, Send, Micros, Cwnd, Rate}
use Rattle.reg_code.specs.declared.code.Instr.{Instr}
use Rattle.reg_code.specs.declared.code.Op.{Op}
use Rattle.reg_code.specs.declared.code.Op.TheVariants as op
use Rattle.reg_code.specs.declared.code.Reg.{Reg}
use Rattle.reg_code.specs.declared.code.Reg.TheVariants as reg
use Rattle.reg_code.specs.CodeStep.{Kept, Regs, read_implicit, register_value, with_written, written_where, put, with_operand, effect, instr_step, then_run, after_step, run, condition_of, event_body, instrs_after, before_events, at_event, after_condition, events_of, settled, one_by_code}
use Rattle.flow_core.specs.declared.case.Case.{Case}
use Rattle.reg_compiler.specs.Simulation.{kept_of}
use Rattle.flow_core.specs.Readings.{Flow, met_of, by_code, code_at, over_codes}
use Rattle.flow_core.specs.ReadsRates.{is_rate_number, is_rate, instr_reads_rates, one_reads_rates, code_reads_rates, case_reads_rates}
use Rattle.flow_core.specs.Runnings.{RunningSummary, step_outcome}
use Rattle.flow_core.specs.Summaries.{Summary, running_of, summary_with, on_running, outcome_at, step_ack}

-- ---- a register

-- an item of a list that is neither of two beside each other
beside : (front rest : List ℕ) (a b c d n : ℕ) → n ≢ length front → n ≢ suc (length front)
    → slice_get (front ++ a ∷ b ∷ rest) n ≡ slice_get (front ++ c ∷ d ∷ rest) n
beside [] rest a b c d zero first second = absurd (first refl)
beside [] rest a b c d (suc zero) first second = absurd (second refl)
beside [] rest a b c d (suc (suc n)) first second = refl
beside (x ∷ front) rest a b c d zero first second = refl
beside (x ∷ front) rest a b c d (suc n) first second =
    beside front rest a b c d n (λ same. first (ap suc same)) (λ same. second (ap suc same))

primitive-unread : (n : ℕ) (ack : Ack) → is_rate_number n ≡ false → slice_get (primitives (without_rates ack)) n ≡ slice_get (primitives ack) n
primitive-unread n ack none =
    let neither = or_parts (n == 11) (n == 12) none in
    beside (take 11 (primitives ack)) (drop 13 (primitives ack)) 0 0 ack.rate_incoming ack.rate_outgoing n
    (λ same. true≢false (sym (ap (λ (k : ℕ). k == 11) same) ∙ neither.0))
    (λ same. true≢false (sym (ap (λ (k : ℕ). k == 12) same) ∙ neither.1))

implicit-unread : (which : Implicit) (regs : Regs) (ack : Ack) → read_implicit which regs (without_rates ack) ≡ read_implicit which regs ack
implicit-unread Flag regs ack = refl
implicit-unread Fall regs ack = refl
implicit-unread Send regs ack = refl
implicit-unread Micros regs ack = refl
implicit-unread Cwnd regs ack = refl
implicit-unread Rate regs ack = refl

value-unread : (r : Reg) (regs : Regs) (ack : Ack) → is_rate r ≡ false → register_value r regs (without_rates ack) ≡ register_value r regs ack
value-unread (reg.Prim n) regs ack none = primitive-unread n ack none
value-unread (reg.Implicit which) regs ack none = ap Some (implicit-unread which regs ack)
value-unread (reg.Imm value) regs ack none = refl
value-unread (reg.Report i) regs ack none = refl
value-unread (reg.Control i) regs ack none = refl
value-unread (reg.Local i) regs ack none = refl
value-unread (reg.Temp i) regs ack none = refl

-- what is written depends on the acknowledgement by its time alone
written-unread : (to : Reg) (value : ℕ) (ack : Ack) (regs : Regs) → with_written to value (without_rates ack) regs ≡ with_written to value ack regs
written-unread (reg.Implicit Flag) value ack regs = refl
written-unread (reg.Implicit Fall) value ack regs = refl
written-unread (reg.Implicit Send) value ack regs = refl
written-unread (reg.Implicit Micros) value ack regs = refl
written-unread (reg.Implicit Cwnd) value ack regs = refl
written-unread (reg.Implicit Rate) value ack regs = refl
written-unread (reg.Prim n) value ack regs = refl
written-unread (reg.Imm n) value ack regs = refl
written-unread (reg.Report i) value ack regs = refl
written-unread (reg.Control i) value ack regs = refl
written-unread (reg.Local i) value ack regs = refl
written-unread (reg.Temp i) value ack regs = refl

where-unread : (holds : Bool) (to : Reg) (value : ℕ) (ack : Ack) (regs : Regs)
    → written_where holds to value (without_rates ack) regs ≡ written_where holds to value ack regs
where-unread true to value ack regs = written-unread to value ack regs
where-unread false to value ack regs = refl

put-unread : (to : Reg) (result : Result ℕ FaultKind) (ack : Ack) (regs : Regs) → put to result (without_rates ack) regs ≡ put to result ack regs
put-unread to (Ok value) ack regs = ap Ok (written-unread to value ack regs)
put-unread to (Err kind) ack regs = refl

-- ---- an instruction

effect-unread : (o : Op) (to : Reg) (a b : ℕ) (ack : Ack) (regs : Regs) → is_rate to ≡ false
    → effect o to a b (without_rates ack) regs ≡ effect o to a b ack regs
effect-unread (op.Pair operation) to a b ack regs none = put-unread to (apply operation a b) ack regs
effect-unread op.Bind to a b ack regs none = put-unread to (Ok a) ack regs
effect-unread op.If to a b ack regs none = ap Ok (where-unread (is_true a) to b ack regs)
effect-unread op.NotIf to a b ack regs none = ap Ok (where-unread _ to b ack regs)
effect-unread op.Ewma to a b ack regs none =
    λ i. with_operand (value-unread to regs ack none i) (λ old. put-unread to (moving_average a old b) ack regs i)

step-unread : (instr : Instr) (ack : Ack) (regs : Regs) → instr_reads_rates instr ≡ false
    → instr_step instr (without_rates ack) regs ≡ instr_step instr ack regs
step-unread instr ack regs none =
    let left = or_parts (is_rate instr.left) (is_rate instr.right || is_rate instr.to) none in
    let right = or_parts (is_rate instr.right) (is_rate instr.to) left.1 in
    λ i. with_operand (value-unread instr.left regs ack left.0 i) (λ a.
    with_operand (value-unread instr.right regs ack right.0 i) (λ b.
    effect-unread instr.op instr.to a b ack regs right.1 i))

-- ---- a code

run-unread : (instrs : List Instr) (index : ℕ) (ack : Ack) (ran : ℕ) (regs : Regs) → one_reads_rates instrs ≡ false
    → run instrs index (without_rates ack) ran regs ≡ run instrs index ack ran regs
run-unread [] index ack ran regs none = refl
run-unread (instr ∷ rest) index ack ran regs none =
    let parts = or_parts (instr_reads_rates instr) (one_reads_rates rest) none in
    λ i. after_step (step-unread instr ack regs parts.0 i) index (λ more came. run-unread rest (index + 1) ack more came parts.1 i) ran

take-unread : (n : ℕ) (instrs : List Instr) → one_reads_rates instrs ≡ false → one_reads_rates (take n instrs) ≡ false
take-unread zero instrs none = refl
take-unread (suc n) [] none = refl
take-unread (suc n) (instr ∷ rest) none =
    let parts = or_parts (instr_reads_rates instr) (one_reads_rates rest) none in
    λ i. parts.0 i || take-unread n rest parts.1 i

drop-unread : (n : ℕ) (instrs : List Instr) → one_reads_rates instrs ≡ false → one_reads_rates (drop n instrs) ≡ false
drop-unread zero instrs none = none
drop-unread (suc n) [] none = none
drop-unread (suc n) (instr ∷ rest) none =
    drop-unread n rest (or_parts (instr_reads_rates instr) (one_reads_rates rest) none).1

events-unread : (events : List Event) (index : ℕ) (instrs : List Instr) (ack : Ack) (ran : ℕ) (regs : Regs) → one_reads_rates instrs ≡ false
    → events_of events index instrs (without_rates ack) ran regs ≡ events_of events index instrs ack ran regs
events-unread [] index instrs ack ran regs none = refl
events-unread (event ∷ rest) index instrs ack ran regs none =
    let after = drop-unread event.condition instrs none in
    λ i. then_run (run-unread (condition_of event instrs) index ack ran (at_event regs) (take-unread event.condition instrs none) i) (λ more came.
    after_condition (is_true came.flag)
    (λ ran regs. run-unread (event_body event instrs) (index + event.condition) ack ran regs (take-unread event.body (drop event.condition instrs) after) i)
    (λ ran regs. events-unread rest (index + event.condition + event.body) (instrs_after event instrs) ack ran regs (drop-unread event.body (drop event.condition instrs) after) i)
    more came)

pub code-unread : (code : Code) (kept : Kept) (ack : Ack) (room : Bool) → code_reads_rates code ≡ false
    → one_by_code code kept (without_rates ack) room ≡ one_by_code code kept ack room
code-unread code kept ack room none =
    λ i. settled code kept room (events-unread code.events 0 code.instrs ack 0 (before_events kept) none i)

-- ---- a case

chosen : (first : Bool) (ss ca : Code) → (code_reads_rates ss || code_reads_rates ca) ≡ false → code_reads_rates (if first then ss else ca) ≡ false
chosen true ss ca none = (or_parts (code_reads_rates ss) (code_reads_rates ca) none).0
chosen false ss ca none = (or_parts (code_reads_rates ss) (code_reads_rates ca) none).1

reading-unread : (case : Case) (number : ℕ) (is_stopped : Bool) (env : Env) (ack : Ack) (room : Bool) → case_reads_rates case ≡ false
    → heard (by_code (code_at case number)) is_stopped env (without_rates ack) room ≡ heard (by_code (code_at case number)) is_stopped env ack room
reading-unread case number true env ack room none = refl
reading-unread case number false env ack room none =
    let unread = chosen (number == case.ss.role.number) case.ss.code.code case.ca.code.code none in
    ap met_of (code-unread (code_at case number) (kept_of env) ack room unread)

-- what is recorded of an outcome depends on the acknowledgement by its time alone
recorded-unread : {X : Type 0} → (flow : ℕ) (index : X → ℕ) (ack : Ack) (outcome : Outcome (FaultKind × X)) (env : Env) (s : RunningSummary)
    → step_outcome flow index (without_rates ack) (outcome, env) s ≡ step_outcome flow index ack (outcome, env) s
recorded-unread flow index ack quiet env s = refl
recorded-unread flow index ack (reported fields) env s = refl
recorded-unread flow index ack held env s = refl
recorded-unread flow index ack (failed fault) env s = refl
recorded-unread flow index ack stopped env s = refl

outcome-by : (rates : Bool) (case : Case) (ack : Ack) (s : Summary) → case_reads_rates case ≡ rates
    → outcome_at (over_codes case) (rated rates ack) s ≡ outcome_at (over_codes case) ack s
outcome-by true case ack s is = refl
outcome-by false case ack s is =
    reading-unread case s.program s.track.is_stopped s.track.env ack (nat_lt (length s.waiting) case.slots) is

-- the outcome of an acknowledgement is the same with the rates that a case's programs read
pub outcome-rated : (case : Case) (ack : Ack) (s : Summary)
    → outcome_at (over_codes case) (rated (case_reads_rates case) ack) s ≡ outcome_at (over_codes case) ack s
outcome-rated case ack s = outcome-by (case_reads_rates case) case ack s refl

step-by : (rates : Bool) (flow : Flow ℕ) (ack : Ack) (met : Outcome (FaultKind × ℕ) × Env) (s : Summary)
    → on_running (step_outcome flow.number flow.index (rated rates ack) met) s ≡ on_running (step_outcome flow.number flow.index ack met) s
step-by true flow ack met s = refl
step-by false flow ack met s = ap (summary_with s.agent) (recorded-unread flow.number flow.index ack met.0 met.1 (running_of s))

-- and so is the flow after it
pub step-rated : (case : Case) (ack : Ack) (s : Summary)
    → step_ack (over_codes case) (rated (case_reads_rates case) ack) s ≡ step_ack (over_codes case) ack s
step-rated case ack s =
    step-by (case_reads_rates case) (over_codes case) ack (outcome_at (over_codes case) (rated (case_reads_rates case) ack) s) s
    ∙ ap (λ (met : Outcome (FaultKind × ℕ) × Env). on_running (step_outcome case.flow (λ (i : ℕ). i) ack met) s) (outcome-rated case ack s)
