-- What the machine's fields are once the window was written, in the slot of the registers and among the working words.
use Rattle.std.proofs.Common.{◌≡◌, ℕ, Bool, List, length-set, slice_set, sym, ap, ◌∙◌, arith}
use Rattle.reg_code.specs.CodeStep.{Kept, Regs}
use Rattle.reg_code.specs.Places.{cwnd_at}
use Rattle.reg_code.specs.declared.rule.Sizes.{Sizes}
use Rattle.fold_machine.specs.Store.{StoreState}
use Rattle.fold_machine.specs.Layout.{cwnd_word}
use Rattle.fold_machine.specs.MachineState.{MachineState}
use Rattle.fold_machine.specs.Whole.{machine_of, IsMachineWhole}
use Rattle.fold_machine.proofs.LayoutLemmas.{kept-cwnd}
use Rattle.fold_machine.proofs.WorkingWordLemmas.{regs-first}

module _ (store : StoreState) (words : List ℕ) (sizes : Sizes) (count cwnd : ℕ) (whole : IsMachineWhole store words sizes count) where
  abbrev pub stored : StoreState
  stored = record store { registers = slice_set store.registers cwnd_word cwnd }

  pub whole-window : IsMachineWhole stored (slice_set words cwnd_at cwnd) sizes count
  whole-window =
      let room = whole.ready.room in
      record {
        ready = record {
          room = record { few = room.few; full = length-set store.registers cwnd_word cwnd ∙ room.full };
          report = whole.ready.report;
        };
        full = length-set words cwnd_at cwnd ∙ whole.full;
        loaded =
            ap (λ (r : Regs). r.kept) (regs-first sizes words cwnd_at cwnd whole.full (omega arith))
            ∙ ap (λ (k : Kept). record k { cwnd = cwnd }) whole.loaded
            ∙ sym (kept-cwnd sizes store.registers cwnd room);
        reported = whole.reported;
      }

  pub machine-window : (started stopped : Bool) (ran : ℕ) (old : MachineState) → machine_of store sizes count started stopped ran ≡ old
      → machine_of stored sizes count started stopped ran ≡ record old { kept = record old.kept { cwnd = cwnd } }
  machine-window started stopped ran old seen =
      (λ i. record (machine_of store sizes count started stopped ran) { kept = kept-cwnd sizes store.registers cwnd whole.ready.room i })
      ∙ ap (λ (m : MachineState). record m { kept = record m.kept { cwnd = cwnd } }) seen
