-- Instructions that fail no rule.
use Rattle.std.proofs.Common.{◌≡◌, refl, ℕ, ◌<◌, Bool, true, false, not, ◌&&◌, ◌||◌, nat_le, if◌then◌else◌, Option, None, lt-ltb}
use Rattle.std.proofs.lemmas.Bool.{and_from, and_left, or_from, not_from_true}
use Rattle.ccp_base.specs.declared.operation.Op2.{Op2}
use Rattle.reg_code.specs.declared.code.Implicit.TheVariants.{Flag}
use Rattle.reg_code.specs.declared.code.Instr.{Instr}
use Rattle.reg_code.specs.declared.code.Op.{Op}
use Rattle.reg_code.specs.declared.code.Op.TheVariants as op
use Rattle.reg_code.specs.declared.code.Reg.{Reg}
use Rattle.reg_code.specs.declared.code.Reg.TheVariants as reg
use Rattle.reg_code.specs.declared.rule.Part.{Part}
use Rattle.reg_code.specs.declared.rule.Part.TheVariants.{Condition, Body}
use Rattle.reg_code.specs.declared.rule.Rule.{Rule}
use Rattle.reg_code.specs.declared.rule.Rule.TheVariants as rule
use Rattle.reg_code.specs.declared.rule.Sizes.{Sizes}
use Rattle.reg_code.specs.Forms.{is_micros}
use Rattle.reg_code.specs.AcceptedCode.{rule_where, Marks, writes, is_there, is_readable, missing_value, is_bind, is_ewma, is_zero, is_weight, is_fixed, is_flag_reg, is_temp, is_in_condition, rule_failed}
use Rattle.reg_code.specs.AcceptedLaws.{IsAllowed}
use Rattle.reg_compiler.proofs.AllowedLines.{Grows, or_else-none, written-grows}

rule_where-none : (fails : Bool) (which : Rule) → fails ≡ false → rule_where fails which ≡ None
rule_where-none true which is = cc
rule_where-none false which is = refl

both_true : (a b : Bool) → a ≡ true → b ≡ true → not (a && b) ≡ false
both_true a b left right = not_from_true (a && b) (and_from a b left right)

-- an instruction that is allowed fails no rule
pub rule_failed-from_IsAllowed : (sizes : Sizes) (part : Part) (is_last : Bool) (marks : Marks) (instr : Instr) → IsAllowed sizes part is_last marks instr → rule_failed sizes part is_last marks instr ≡ None
rule_failed-from_IsAllowed sizes part is_last marks instr allowed =
    let there = both_true (is_there sizes instr.left && is_there sizes instr.right) (is_there sizes instr.to) (and_from (is_there sizes instr.left) (is_there sizes instr.right) allowed.left_there allowed.right_there) allowed.to_there in
    or_else-none _ _ (or_else-none _ _ (or_else-none _ _ (or_else-none _ _ (or_else-none _ _ (or_else-none _ _ (or_else-none _ _
    (rule_where-none _ rule.Range there)
    (rule_where-none _ rule.Readable allowed.readable))
    allowed.left_written)
    allowed.right_written)
    allowed.target_written)
    (rule_where-none _ rule.Weight allowed.weighted))
    (rule_where-none _ rule.BindRight allowed.bound))
    (rule_where-none _ rule.Writable allowed.placed)

-- a register that may be read
pub record IsOperand (sizes : Sizes) (marks : Marks) (r : Reg) : Type 0 where
  pub there : is_there sizes r ≡ true
  pub readable : is_readable r ≡ true
  pub written : missing_value marks r ≡ None

pub IsOperand-grows : (sizes : Sizes) (before later : Marks) (r : Reg) → Grows before later → IsOperand sizes before r → IsOperand sizes later r
IsOperand-grows sizes before later r grows is = record { there = is.there; readable = is.readable; written = written-grows r before later grows is.written }

pub IsOperand-imm : (sizes : Sizes) (marks : Marks) (value : ℕ) → IsOperand sizes marks (reg.Imm value)
IsOperand-imm sizes marks value = record { there = refl; readable = refl; written = refl }

-- a register that may be written in this part, and where the part ends
pub record IsTarget (sizes : Sizes) (part : Part) (ends : Bool) (r : Reg) : Type 0 where
  pub there : is_there sizes r ≡ true
  pub free : is_fixed r ≡ false
  pub timeless : is_micros r ≡ false
  pub in_condition : (is_in_condition part && not (is_temp r || is_flag_reg r)) ≡ false
  pub in_body : (not (is_in_condition part) && is_flag_reg r) ≡ false
  pub at_end : (is_in_condition part && ends && not (is_flag_reg r)) ≡ false

pub IsTarget-temp : (sizes : Sizes) (part : Part) (i : ℕ) → i < 8 → IsTarget sizes part false (reg.Temp i)
IsTarget-temp sizes Condition i below = record { there = lt-ltb i 8 below; free = refl; timeless = refl; in_condition = refl; in_body = refl; at_end = refl }
IsTarget-temp sizes Body i below = record { there = lt-ltb i 8 below; free = refl; timeless = refl; in_condition = refl; in_body = refl; at_end = refl }

pub IsTarget-flag : (sizes : Sizes) → IsTarget sizes Condition true (reg.Implicit Flag)
IsTarget-flag sizes = record { there = refl; free = refl; timeless = refl; in_condition = refl; in_body = refl; at_end = refl }

-- an operation that writes its target in any case, on two operands
pub record IsPlain (o : Op) : Type 0 where
  pub writes : writes o ≡ true
  pub no_ewma : is_ewma o ≡ false

at_end-writes : (writes part ends flag : Bool) → writes ≡ true → (part && ends && not flag) ≡ false → (part && ends && not (writes && flag)) ≡ false
at_end-writes true part ends flag is at_end = at_end
at_end-writes false part ends flag is at_end = cc

no_ewma-none : (is : Bool) (which : Option Rule) → is ≡ false → (if is then which else None) ≡ None
no_ewma-none true which is = cc
no_ewma-none false which is = refl

pub plain-none : (o : Op) (to left right : Reg) (sizes : Sizes) (part : Part) (ends : Bool) (marks : Marks) → IsPlain o → (is_bind o && not (is_zero right)) ≡ false → IsTarget sizes part ends to → IsOperand sizes marks left → IsOperand sizes marks right
    → rule_failed sizes part ends marks (record { op = o; to = to; left = left; right = right }) ≡ None
plain-none o to left right sizes part ends marks plain bound target first second =
    rule_failed-from_IsAllowed sizes part ends marks (record { op = o; to = to; left = left; right = right })
    (record {
      left_there = first.there;
      right_there = second.there;
      to_there = target.there;
      readable = both_true (is_readable left) (is_readable right) first.readable second.readable;
      left_written = first.written;
      right_written = second.written;
      target_written = no_ewma-none (is_ewma o) (missing_value marks to) plain.no_ewma;
      weighted = and_left (is_ewma o) (not (is_weight left)) plain.no_ewma;
      bound = bound;
      placed =
          or_from _ _ (or_from _ _ (or_from _ _ (or_from _ _ (or_from _ _
          target.free
          (and_left (is_micros to) _ target.timeless))
          target.in_condition)
          target.in_body)
          (at_end-writes (writes o) (is_in_condition part) ends (is_flag_reg to) plain.writes target.at_end))
          (and_left (is_ewma o) (not (is_readable to)) plain.no_ewma);
    })

pub bind-none : (to from : Reg) (sizes : Sizes) (part : Part) (ends : Bool) (marks : Marks) → IsTarget sizes part ends to → IsOperand sizes marks from → rule_failed sizes part ends marks (record { op = op.Bind; to = to; left = from; right = reg.Imm 0 }) ≡ None
bind-none to from sizes part ends marks target is =
    plain-none op.Bind to from (reg.Imm 0) sizes part ends marks (record { writes = refl; no_ewma = refl }) refl target is (IsOperand-imm sizes marks 0)

-- an operation that the source has
pub pair-none : (o : Op2) (to left right : Reg) (sizes : Sizes) (part : Part) (ends : Bool) (marks : Marks) → IsTarget sizes part ends to → IsOperand sizes marks left → IsOperand sizes marks right
    → rule_failed sizes part ends marks (record { op = op.Pair o; to = to; left = left; right = right }) ≡ None
pair-none o to left right sizes part ends marks target first second =
    plain-none (op.Pair o) to left right sizes part ends marks (record { writes = refl; no_ewma = refl }) refl target first second

-- `if` and `notif`, in a body
pub conditional-none : (o : Op) (to left right : Reg) (sizes : Sizes) (marks : Marks) → is_bind o ≡ false → is_ewma o ≡ false → IsTarget sizes Body false to → IsOperand sizes marks left → IsOperand sizes marks right
    → rule_failed sizes Body false marks (record { op = o; to = to; left = left; right = right }) ≡ None
conditional-none o to left right sizes marks unbound no_ewma target first second =
    rule_failed-from_IsAllowed sizes Body false marks (record { op = o; to = to; left = left; right = right })
    (record {
      left_there = first.there;
      right_there = second.there;
      to_there = target.there;
      readable = both_true (is_readable left) (is_readable right) first.readable second.readable;
      left_written = first.written;
      right_written = second.written;
      target_written = no_ewma-none (is_ewma o) (missing_value marks to) no_ewma;
      weighted = and_left (is_ewma o) (not (is_weight left)) no_ewma;
      bound = and_left (is_bind o) (not (is_zero right)) unbound;
      placed =
          or_from _ _ (or_from _ _ (or_from _ _ (or_from _ _ (or_from _ _
          target.free
          (and_left (is_micros to) _ target.timeless))
          refl)
          target.in_body)
          refl)
          (and_left (is_ewma o) (not (is_readable to)) no_ewma);
    })

-- `ewma`, in a body: its target is read too
pub ewma-none : (to right : Reg) (weight : ℕ) (sizes : Sizes) (marks : Marks) → nat_le weight 10 ≡ true → IsTarget sizes Body false to → IsOperand sizes marks to → IsOperand sizes marks right
    → rule_failed sizes Body false marks (record { op = op.Ewma; to = to; left = reg.Imm weight; right = right }) ≡ None
ewma-none to right weight sizes marks few target old second =
    rule_failed-from_IsAllowed sizes Body false marks (record { op = op.Ewma; to = to; left = reg.Imm weight; right = right })
    (record {
      left_there = refl;
      right_there = second.there;
      to_there = target.there;
      readable = not_from_true (is_readable right) second.readable;
      left_written = refl;
      right_written = second.written;
      target_written = old.written;
      weighted = not_from_true (nat_le weight 10) few;
      bound = refl;
      placed =
          or_from _ _ (or_from _ _ (or_from _ _ (or_from _ _ (or_from _ _
          target.free
          (and_left (is_micros to) _ target.timeless))
          refl)
          target.in_body)
          refl)
          (not_from_true (is_readable to) old.readable);
    })
