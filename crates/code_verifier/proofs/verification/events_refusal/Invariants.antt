use Rattle.std.proofs.Common.{◌≡◌, drop}
use Rattle.reg_code.specs.AcceptedCode.{events_refusal}
use Rattle.code_verifier.proofs.verification.events_refusal.Given as goal

abbrev pub invariant-loop-number : goal.invariant-loop-number
invariant-loop-number l = events_refusal (drop l.number l.events) l.number l.left ≡ events_refusal l.events 0 l.instrs
