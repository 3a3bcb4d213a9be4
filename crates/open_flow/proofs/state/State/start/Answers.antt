use Rattle.std.proofs.Common.{refl, ap, sym, ◌∙◌, subst, ◌≡◌, Some, None, Option, is_some, arith, List, [], ◌∷◌, ◌++◌}
use Rattle.std.proofs.lemmas.Bool.{true≢false}
use Rattle.ccp_base.specs.FieldReg.{Pair}
use Rattle.ccp_base.specs.declared.running_epoch.RunningEpoch.{RunningEpoch}
use Rattle.ccp_base.specs.RunningEpochs.{epoch_after}
use Rattle.reg_compiler.specs.declared.built.Built.{Built}
use Rattle.fold_machine.specs.Heard.{started_by}
use Rattle.open_flow.specs.declared.entry.Entry.{Entry}
use Rattle.open_flow.specs.Entries.{built_at}
use Rattle.open_flow.specs.States.{IsOpen}
use Rattle.open_flow.proofs.KeepsLemmas.{after-program, started_state}
use Rattle.open_flow.proofs.OpenLemmas.{below, late, some-built, open-started}
use Rattle.open_flow.proofs.state.State.start.Goals as goal

pub unreachable-requires : goal.unreachable-requires
unreachable-requires c =
    let s = c.args.self.now in
    let built = some-built s c.requires.open_state c.args.step c.requires.next (built_at s.entries.items c.args.step) refl in
    let none : built_at s.entries.items c.args.step ≡ None =
    ap (λ (entries : List Entry). built_at entries c.args.step) (sym c.as_slice.ensures) ∙ sym c.in_default.ensures in
    true≢false (sym built ∙ ap (λ (b : Option Built). is_some b) none)

pub push-requires : goal.push-requires
push-requires c =
    let s = c.args.self.now in
    let f = c.requires.open_state.fit in
    let within = below s c.requires.open_state c.args.step c.requires.next in
    let past = late s c.requires.open_state c.args.step c.requires.next in
    omega (arith, within, past, f.epochs_most, f.entries_most, f.epochs_room)

pub push-requires-2 : goal.push-requires-2
push-requires-2 c =
    let s = c.args.self.now in
    let f = c.requires.open_state.fit in
    let within = below s c.requires.open_state c.args.step c.requires.next in
    let past = late s c.requires.open_state c.args.step c.requires.next in
    omega (arith, within, past, f.letters, f.acks_most, f.epochs_most, f.entries_most, f.word_room)

pub returns-clause-open_state : goal.returns-clause-open_state
returns-clause-open_state c =
    let s = c.args.self.now in
    let machine = c.start.new.self in
    let built = c.in-Some.built.now in
    let is_epoch = c.after-epoch.ensures ∙ (λ i. epoch_after s.running c.args.step (c.from.ensures i)) in
    subst (λ (epoch : RunningEpoch). IsOpen (record (started_state s c.args.step machine c.push.new.self c.push-2.new.self) { running = Some epoch }))
    (sym is_epoch)
    (open-started s c.requires.open_state c.args.step c.requires.next built machine c.push.new.self c.push-2.new.self
    (ap (λ (entries : List Entry). built_at entries c.args.step) (sym c.as_slice.ensures) ∙ sym c.in-Some.ensures)
    (c.in-Ok.ensures.started ∙ ap (λ (values : List Pair). started_by built.code.code values s.time s.machine) c.new.ensures)
    c.in-Ok.ensures.fits
    (c.push.ensures.items
    ∙ (λ i. s.epochs.items ++ c.of-line.ensures i ∷ [])
    ∙ (λ i. s.epochs.items ++ record { program = (is_epoch i).program; at = s.acks; cwnd = c.cwnd.ensures i } ∷ [])
    ∙ (λ i. s.epochs.items ++ record { program = after-program s.running c.args.step s.acks i; at = s.acks; cwnd = machine.kept.cwnd } ∷ []))
    c.push.ensures.room c.push-2.ensures.items c.push-2.ensures.room)
