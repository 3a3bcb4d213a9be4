use Rattle.std.proofs.Common.{◌≡◌, ◌++◌, drop}
use Rattle.reg_code.specs.ListingText.{instr_lines}
use Rattle.reg_code.proofs.text.put_instrs.Given as goal

abbrev pub invariant-loop-index : goal.invariant-loop-index
invariant-loop-index l = l.text ++ instr_lines l.index (drop l.index l.instrs) ≡ l.initial.text ++ instr_lines 0 l.instrs
