-- A machine fits a code exactly if its program has the code's numbers of registers.
use Rattle.std.proofs.Common.{◌≡◌, ℕ, ◌+◌, Bool, true, List, sym, subst, ◌∙◌}
use Rattle.reg_code.specs.declared.code.Code.{Code}
use Rattle.reg_code.specs.declared.rule.Sizes.{Sizes}
use Rattle.reg_code.specs.AcceptedCode.{sizes_of}
use Rattle.reg_code.specs.CodeStep.{IsKeptOf}
use Rattle.fold_machine.specs.Store.{StoreState}
use Rattle.fold_machine.specs.Layout.{kept_in, first_field_word}
use Rattle.fold_machine.specs.MachineState.{MachineState, Fits}
use Rattle.fold_machine.specs.Whole.{machine_of}
use Rattle.fold_machine.proofs.LayoutLemmas.{from-length}
use Rattle.fold_machine.proofs.WorkLemmas.{IsKeptOf-words}

pub sizes-kept : (code : Code) (sizes : Sizes) (words : List ℕ) → IsKeptOf code (kept_in sizes words) → sizes ≡ sizes_of code
sizes-kept code sizes words kept = λ i. record {
  reports = (sym (from-length words first_field_word sizes.reports) ∙ kept.reports) i;
  controls = (sym (from-length words (first_field_word + sizes.reports) sizes.controls) ∙ kept.controls) i;
}

pub Fits-sizes : (code : Code) (store : StoreState) (sizes : Sizes) (reported : ℕ) (started stopped : Bool) (ran : ℕ) → started ≡ true → sizes ≡ sizes_of code → Fits (machine_of store sizes reported started stopped ran) code
Fits-sizes code store sizes reported started stopped ran begun same = record { started = begun; kept = IsKeptOf-words code sizes store.registers same }

-- of the machine that contracts see
pub sizes-fit : (code : Code) (store : StoreState) (sizes : Sizes) (reported : ℕ) (started stopped : Bool) (ran : ℕ) (state : MachineState) → machine_of store sizes reported started stopped ran ≡ state → Fits state code → sizes ≡ sizes_of code
sizes-fit code store sizes reported started stopped ran state seen fits =
    let before : Fits (machine_of store sizes reported started stopped ran) code = subst (λ (m : MachineState). Fits m code) (sym seen) fits in
    sizes-kept code sizes store.registers before.kept
