-- The machine's fields: what contracts see of them, and what holds of them.
use Rattle.std.specs.Prelude.{◌≡◌, ℕ, ◌≤◌, Bool, List, length}
use Rattle.ccp_base.specs.Limits.{most_fields}
use Rattle.reg_code.specs.Places.{all_places}
use Rattle.reg_code.specs.declared.rule.Sizes.{Sizes}
use Rattle.fold_machine.specs.Store.{StoreState}
use Rattle.fold_machine.specs.Layout.{words_from, kept_in}
use Rattle.fold_machine.specs.WorkingWords.{kept_on}
use Rattle.fold_machine.specs.Ready.{IsReady}
use Rattle.fold_machine.specs.MachineState.{MachineState}

abbrev pub machine_of : StoreState → Sizes → ℕ → Bool → Bool → ℕ → MachineState
machine_of store sizes reported started stopped ran = record {
  kept = kept_in sizes store.registers;
  is_started = started;
  is_stopped = stopped;
  ran = ran;
  report = words_from store.report 0 reported;
  further = store.further;
}

pub record IsMachineWhole (store : StoreState) (words : List ℕ) (sizes : Sizes) (count : ℕ) : Type 0 where
  pub ready : IsReady sizes store
  pub full : length words ≡ all_places
  pub loaded : kept_on sizes words ≡ kept_in sizes store.registers
  pub reported : count ≤ most_fields
