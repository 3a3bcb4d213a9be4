use Rattle.std.proofs.Common.{slice_set, sym, ap, ◌∙◌, subst}
use Rattle.reg_code.specs.Places.{cwnd_at}
use Rattle.fold_machine.specs.Store.{StoreState}
use Rattle.fold_machine.specs.Whole.{machine_of, IsMachineWhole}
use Rattle.fold_machine.proofs.WindowLemmas.{whole-window, machine-window}
use Rattle.fold_machine.proofs.machine.Machine.set_cwnd.Goals as goal

pub invariant_of-self : goal.invariant_of-self
invariant_of-self c =
    let inside = c.self.inside in
    subst (λ (store : StoreState). IsMachineWhole store (slice_set inside.words.items cwnd_at c.args.cwnd) inside.sizes inside.reported) (sym c.set_register.ensures)
    (whole-window inside.store inside.words.items inside.sizes inside.reported c.args.cwnd c.self.invariant)

pub returns : goal.returns
returns c =
    let inside = c.self.inside in
    ap (λ (store : StoreState). machine_of store inside.sizes inside.reported inside.started inside.stopped inside.ran) c.set_register.ensures
    ∙ machine-window inside.store inside.words.items inside.sizes inside.reported c.args.cwnd c.self.invariant inside.started inside.stopped inside.ran c.args.self.now c.self.view_is
