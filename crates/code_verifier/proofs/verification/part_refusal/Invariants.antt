use Rattle.std.proofs.Common.{◌≡◌, ◌+◌, length}
use Rattle.reg_code.specs.AcceptedCode.{part_refusal, marks_after}
use Rattle.code_verifier.specs.Marked.{marks_of}
use Rattle.code_verifier.proofs.verification.part_refusal.Given as goal

abbrev pub invariant-loop-instr : goal.invariant-loop-instr
invariant-loop-instr l = record {
  index : l.index + length l.left ≡ l.first + length l.instrs;
  refusal : part_refusal l.sizes l.part l.index (marks_of l.tables) l.left ≡ part_refusal l.sizes l.part l.first (marks_of l.initial.tables) l.instrs;
  marks : marks_after l.left (marks_of l.tables) ≡ marks_after l.instrs (marks_of l.initial.tables);
}

abbrev pub decreases-loop-instr : goal.decreases-loop-instr
decreases-loop-instr l = length l.left
