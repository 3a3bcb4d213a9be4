use Rattle.std.proofs.Common.{◌≡◌, drop}
use Rattle.reg_code.specs.CodeStart.{with_values}
use Rattle.fold_machine.specs.Layout.{HasRoom, KeepsOthers, kept_in}
use Rattle.fold_machine.proofs.kept.write_values.Given as goal

abbrev pub invariant-loop-reg : goal.invariant-loop-reg
invariant-loop-reg l = record {
  room : HasRoom l.sizes l.store.registers;
  written : with_values (drop l.reg-index l.reg-items) (kept_in l.sizes l.store.registers) ≡ with_values l.values (kept_in l.sizes l.initial.store.registers);
  others : KeepsOthers l.initial.store l.store;
}
