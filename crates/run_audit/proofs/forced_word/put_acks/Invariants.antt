use Rattle.std.proofs.Common.{◌≡◌}
use Rattle.run_audit.specs.ForcedWord.{with_acks}
use Rattle.run_audit.proofs.forced_word.put_acks.Given as goal

abbrev pub invariant-loop : goal.invariant-loop
invariant-loop l = l.letters ≡ with_acks l.initial.letters l.counter
