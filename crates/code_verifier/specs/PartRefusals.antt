-- The first refusal in the condition and the body of an event.
use Rattle.std.specs.Prelude.{ℕ, Option, List}
use Rattle.std.specs.Option.{option_or}
use Rattle.reg_code.specs.declared.code.Instr.{Instr}
use Rattle.reg_code.specs.declared.rule.Part.TheVariants.{Condition, Body}
use Rattle.reg_code.specs.declared.rule.Sizes.{Sizes}
use Rattle.reg_code.specs.AcceptedCode.{Refusal, no_marks, marks_after, part_refusal}

-- the first refusal among the instructions of both, whose first ones have these indices
abbrev pub parts_refusal : Sizes → ℕ → ℕ → List Instr → List Instr → Option Refusal
parts_refusal sizes index body_index condition body =
    option_or (part_refusal sizes Condition index no_marks condition)
    (part_refusal sizes Body body_index (marks_after condition no_marks) body)
