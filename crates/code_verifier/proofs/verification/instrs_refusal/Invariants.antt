use Rattle.std.proofs.Common.{◌≡◌, ◌≤◌, ◌*◌, drop, length}
use Rattle.reg_code.specs.AcceptedCode.{instrs_refusal}
use Rattle.code_verifier.proofs.verification.instrs_refusal.Given as goal

abbrev pub invariant-loop-event : goal.invariant-loop-event
invariant-loop-event l = record {
  index : l.index ≤ 131070 * l.event-index;
  left : length l.left ≤ length l.instrs;
  refusal : instrs_refusal l.sizes (drop l.event-index l.events) l.index l.left ≡ instrs_refusal l.sizes l.events 0 l.instrs;
}
