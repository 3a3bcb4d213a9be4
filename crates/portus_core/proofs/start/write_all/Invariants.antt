use Rattle.std.proofs.Common.{◌≡◌, drop}
use Rattle.portus_core.specs.Epoch.{with_values}
use Rattle.portus_core.proofs.start.write_all.Given as goal

abbrev pub invariant-loop-reg : goal.invariant-loop-reg
invariant-loop-reg l = with_values (drop l.reg-index l.reg-items) l.env ≡ with_values l.values l.initial.env
