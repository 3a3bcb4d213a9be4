-- Lines of which no instruction fails a rule, with the marks that they leave.
use Rattle.std.proofs.Common.{◌≡◌, refl, ap, ◌∙◌, ℕ, ◌+◌, Bool, true, false, not, ◌&&◌, ◌==◌, cond, Option, Some, None, List, [], ◌∷◌, ◌++◌, map, eq-eqb}
use Rattle.std.proofs.lemmas.Bool.{and_right}
use Rattle.reg_code.specs.declared.code.Reg.{Reg}
use Rattle.reg_code.specs.declared.code.Reg.TheVariants as reg
use Rattle.reg_code.specs.declared.rule.Part.{Part}
use Rattle.reg_code.specs.declared.rule.Part.TheVariants.{Condition, Body}
use Rattle.reg_code.specs.declared.rule.Rule.{Rule}
use Rattle.reg_code.specs.declared.rule.Rule.TheVariants as rule
use Rattle.reg_code.specs.declared.rule.Sizes.{Sizes}
use Rattle.reg_code.specs.AcceptedCode.{◌or_else◌, rule_where, at_index, Marks, with_mark, writes, with_target, marked, marks_after, missing_value, rule_failed, is_end, part_refusal}
use Rattle.reg_compiler.specs.declared.line.Line.{Line}
use Rattle.reg_compiler.specs.CompiledCode.{instr_of}

-- the marks after some lines
abbrev pub after : List Line → Marks → Marks
after lines marks = marks_after (map instr_of lines) marks

-- no line fails a rule; if these lines end a part, the last one stands at its end
abbrev pub AreAllowed : Sizes → Part → Bool → Marks → List Line → Type 0
AreAllowed sizes part ends marks [] = Unit {0}
AreAllowed sizes part ends marks (line ∷ rest) =
    (rule_failed sizes part (ends && is_end (map instr_of rest)) marks line.instr ≡ None)
    × AreAllowed sizes part ends (marked marks line.instr) rest

pub after-append : (first next : List Line) (marks : Marks) → after (first ++ next) marks ≡ after next (after first marks)
after-append [] next marks = refl
after-append (line ∷ rest) next marks = after-append rest next (marked marks line.instr)

pub is_end-append : (first next : List Line) (ends : Bool) → (ends && is_end (map instr_of next)) ≡ false → (ends && is_end (map instr_of (first ++ next))) ≡ false
is_end-append [] next ends goes_on = goes_on
is_end-append (line ∷ rest) next ends goes_on = and_right ends false refl

pub AreAllowed-append : (first next : List Line) (sizes : Sizes) (part : Part) (ends : Bool) (marks : Marks) → AreAllowed sizes part false marks first → (ends && is_end (map instr_of next)) ≡ false → AreAllowed sizes part ends (after first marks) next → AreAllowed sizes part ends marks (first ++ next)
AreAllowed-append [] next sizes part ends marks first_allowed goes_on next_allowed = next_allowed
AreAllowed-append (line ∷ rest) next sizes part ends marks first_allowed goes_on next_allowed = (
  ap (λ is_last. rule_failed sizes part is_last marks line.instr) (is_end-append rest next ends goes_on) ∙ first_allowed.0,
  AreAllowed-append rest next sizes part ends (marked marks line.instr) first_allowed.1 goes_on next_allowed,
)

-- the same marks, and maybe more
pub record Grows (before later : Marks) : Type 0 where
  pub temps : (i : ℕ) → before.temps i ≡ true → later.temps i ≡ true
  pub locals : (i : ℕ) → before.locals i ≡ true → later.locals i ≡ true

pub Grows-refl : (marks : Marks) → Grows marks marks
Grows-refl marks = record { temps = λ i is. is; locals = λ i is. is }

pub Grows-trans : (before between later : Marks) → Grows before between → Grows between later → Grows before later
Grows-trans before between later first next = record {
  temps = λ i is. next.temps i (first.temps i is);
  locals = λ i is. next.locals i (first.locals i is);
}

with_mark-grows : (marks : ℕ → Bool) (i j : ℕ) → marks j ≡ true → with_mark marks i j ≡ true
with_mark-grows marks i j is = elim (j == i) as (λ b. cond b true (marks j) ≡ true) [ true ↦ refl | false ↦ is ]

with_target-grows : (to : Reg) (marks : Marks) → Grows marks (with_target marks to)
with_target-grows (reg.Imm n) marks = Grows-refl marks
with_target-grows (reg.Prim n) marks = Grows-refl marks
with_target-grows (reg.Report i) marks = Grows-refl marks
with_target-grows (reg.Control i) marks = Grows-refl marks
with_target-grows (reg.Implicit which) marks = Grows-refl marks
with_target-grows (reg.Local i) marks = record { temps = λ j is. is; locals = with_mark-grows marks.locals i }
with_target-grows (reg.Temp i) marks = record { temps = with_mark-grows marks.temps i; locals = λ j is. is }

where-grows : (writes : Bool) (to : Reg) (marks : Marks) → Grows marks (cond writes (with_target marks to) marks)
where-grows true to marks = with_target-grows to marks
where-grows false to marks = Grows-refl marks

pub after-grows : (lines : List Line) (marks : Marks) → Grows marks (after lines marks)
after-grows [] marks = Grows-refl marks
after-grows (line ∷ rest) marks =
    Grows-trans marks (marked marks line.instr) (after rest (marked marks line.instr))
    (where-grows (writes line.instr.op) line.instr.to marks)
    (after-grows rest (marked marks line.instr))

-- a register that was written stays so

pub mark-none : (mark : Bool) (which : Rule) → mark ≡ true → rule_where (not mark) which ≡ None
mark-none true which is = refl
mark-none false which is = cc

pub none-mark : (mark : Bool) (which : Rule) → rule_where (not mark) which ≡ None → mark ≡ true
none-mark true which none = refl
none-mark false which none = cc

pub written-grows : (r : Reg) (before later : Marks) → Grows before later → missing_value before r ≡ None → missing_value later r ≡ None
written-grows (reg.Imm n) before later grows none = refl
written-grows (reg.Prim n) before later grows none = refl
written-grows (reg.Report i) before later grows none = refl
written-grows (reg.Control i) before later grows none = refl
written-grows (reg.Implicit which) before later grows none = refl
written-grows (reg.Local i) before later grows none = mark-none (later.locals i) rule.Local (grows.locals i (none-mark (before.locals i) rule.Local none))
written-grows (reg.Temp i) before later grows none = mark-none (later.temps i) rule.Temporary (grows.temps i (none-mark (before.temps i) rule.Temporary none))

-- a target is written by an instruction that writes it

own_mark : (marks : ℕ → Bool) (i : ℕ) → with_mark marks i i ≡ true
own_mark marks i = ap (λ b. cond b true (marks i)) (eq-eqb i i refl)

pub with_target-written : (to : Reg) (marks : Marks) → missing_value (with_target marks to) to ≡ None
with_target-written (reg.Imm n) marks = refl
with_target-written (reg.Prim n) marks = refl
with_target-written (reg.Report i) marks = refl
with_target-written (reg.Control i) marks = refl
with_target-written (reg.Implicit which) marks = refl
with_target-written (reg.Local i) marks = mark-none (with_mark marks.locals i i) rule.Local (own_mark marks.locals i)
with_target-written (reg.Temp i) marks = mark-none (with_mark marks.temps i i) rule.Temporary (own_mark marks.temps i)

pub last-written : (lines : List Line) (line : Line) (marks : Marks) → writes line.instr.op ≡ true → missing_value (after (lines ++ line ∷ []) marks) line.instr.to ≡ None
last-written lines line marks writes =
    ap (λ marks. missing_value marks line.instr.to) (after-append lines (line ∷ []) marks ∙ ap (λ b. cond b (with_target (after lines marks) line.instr.to) (after lines marks)) writes)
    ∙ with_target-written line.instr.to (after lines marks)

-- what lines are allowed for: a part with no refusal

at_index-none : (index : ℕ) (which : Option Rule) → which ≡ None → at_index index which ≡ None
at_index-none index which none = ap (at_index index) none

pub or_else-none : {A : Type 0} (first next : Option A) → first ≡ None → next ≡ None → (first or_else next) ≡ None
or_else-none None next first_none next_none = next_none
or_else-none (Some a) next first_none next_none = first_none

pub condition-none : (lines : List Line) (sizes : Sizes) (index : ℕ) (marks : Marks) → AreAllowed sizes Condition true marks lines → part_refusal sizes Condition index marks (map instr_of lines) ≡ None
condition-none [] sizes index marks allowed = refl
condition-none (line ∷ rest) sizes index marks allowed =
    or_else-none (at_index index (rule_failed sizes Condition (is_end (map instr_of rest)) marks line.instr)) _
    (at_index-none index _ allowed.0)
    (condition-none rest sizes (index + 1) (marked marks line.instr) allowed.1)

-- it doesn't matter where a body ends
pub body-none : (lines : List Line) (sizes : Sizes) (index : ℕ) (marks : Marks) → AreAllowed sizes Body false marks lines → part_refusal sizes Body index marks (map instr_of lines) ≡ None
body-none [] sizes index marks allowed = refl
body-none (line ∷ rest) sizes index marks allowed =
    or_else-none (at_index index (rule_failed sizes Body (is_end (map instr_of rest)) marks line.instr)) _
    (at_index-none index _ allowed.0)
    (body-none rest sizes (index + 1) (marked marks line.instr) allowed.1)
