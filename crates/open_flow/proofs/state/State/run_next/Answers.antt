use Rattle.std.proofs.Common.{ap, sym, ◌∙◌, subst, ◌+◌, ◌≡◌, ℕ, Some, List}
use Rattle.open_flow.specs.declared.entry.Entry.{Entry}
use Rattle.open_flow.specs.Entries.{built_at}
use Rattle.open_flow.specs.States.{FitsBuilt}
use Rattle.open_flow.proofs.RunLemmas.{heard-by, told}
use Rattle.open_flow.proofs.OpenLemmas.{open-run, told-run, ran-run}
use Rattle.open_flow.proofs.state.State.run_next.Goals as goal

pub returns-clause-open_state : goal.returns-clause-open_state
returns-clause-open_state g c =
    let s = c.args.self.now in
    let epoch = c.args.epoch in
    let later = c.record_outcome.new.epoch in
    let built = c.in-Some.built.now in
    let machine = c.run_ack-acked.new.machine in
    let account = c.record_outcome.new.self in
    let answer = c.run_ack-acked.result in
    let is : built_at s.entries.items epoch.program ≡ Some built =
    ap (λ (entries : List Entry). built_at entries epoch.program) (sym c.as_slice.ensures) ∙ sym c.in-Some.ensures in
    open-run s c.requires.open_state c.requires.left c.cwnd-window.result c.cwnd-window.ensures
    c.next-ack.new.self c.next-ack.result c.push.new.self c.next-ack.ensures.ack c.next-ack.ensures.stands c.next-ack.ensures.case c.next-ack.ensures.calls
    c.push.ensures.items c.push.ensures.room
    epoch later c.requires.running machine account answer built is
    (subst (FitsBuilt machine) (sym is) c.run_ack-acked.ensures.fits)
    (λ form is_form shape. heard-by s.entries.items s.case.flow s.acks epoch later s.machine machine s.account account built c.next-ack.result answer is c.run_ack-acked.ensures.met c.run_ack-acked.ensures.stopped c.record_outcome.ensures form is_form shape)
    (λ form is_form shape. told s.entries.items s.case.flow s.acks epoch later s.machine machine s.account account built c.next-ack.result answer is c.run_ack-acked.ensures.met c.run_ack-acked.ensures.stopped c.record_outcome.ensures form is_form shape)

pub returns-clause-answered : goal.returns-clause-answered
returns-clause-answered g c =
    let s = c.args.self.now in
    let epoch = c.args.epoch in
    let later = c.record_outcome.new.epoch in
    let built = c.in-Some.built.now in
    let machine = c.run_ack-acked.new.machine in
    let account = c.record_outcome.new.self in
    let answer = c.run_ack-acked.result in
    let is : built_at s.entries.items epoch.program ≡ Some built =
    ap (λ (entries : List Entry). built_at entries epoch.program) (sym c.as_slice.ensures) ∙ sym c.in-Some.ensures in
    told-run s c.requires.open_state c.requires.left c.cwnd-window.result c.cwnd-window.ensures
    c.next-ack.new.self c.next-ack.result c.push.new.self c.next-ack.ensures.ack c.next-ack.ensures.stands c.next-ack.ensures.case c.next-ack.ensures.calls
    c.push.ensures.items c.push.ensures.room
    epoch later c.requires.running machine account answer built is
    (subst (FitsBuilt machine) (sym is) c.run_ack-acked.ensures.fits)
    (λ form is_form shape. heard-by s.entries.items s.case.flow s.acks epoch later s.machine machine s.account account built c.next-ack.result answer is c.run_ack-acked.ensures.met c.run_ack-acked.ensures.stopped c.record_outcome.ensures form is_form shape)
    (λ form is_form shape. told s.entries.items s.case.flow s.acks epoch later s.machine machine s.account account built c.next-ack.result answer is c.run_ack-acked.ensures.met c.run_ack-acked.ensures.stopped c.record_outcome.ensures form is_form shape)

pub returns-clause-steps : goal.returns-clause-steps
returns-clause-steps g c =
    let s = c.args.self.now in
    let epoch = c.args.epoch in
    let later = c.record_outcome.new.epoch in
    let built = c.in-Some.built.now in
    let machine = c.run_ack-acked.new.machine in
    let account = c.record_outcome.new.self in
    let answer = c.run_ack-acked.result in
    let is : built_at s.entries.items epoch.program ≡ Some built =
    ap (λ (entries : List Entry). built_at entries epoch.program) (sym c.as_slice.ensures) ∙ sym c.in-Some.ensures in
    c.run_ack-acked.ensures.steps
    ∙ ap (λ (n : ℕ). c.args.steps.now + n) (ran-run s c.requires.open_state c.requires.left c.cwnd-window.result c.cwnd-window.ensures
    c.next-ack.new.self c.next-ack.result c.push.new.self c.next-ack.ensures.ack c.next-ack.ensures.stands c.next-ack.ensures.case c.next-ack.ensures.calls
    c.push.ensures.items c.push.ensures.room
    epoch later c.requires.running machine account answer built is
    (subst (FitsBuilt machine) (sym is) c.run_ack-acked.ensures.fits)
    (λ form is_form shape. heard-by s.entries.items s.case.flow s.acks epoch later s.machine machine s.account account built c.next-ack.result answer is c.run_ack-acked.ensures.met c.run_ack-acked.ensures.stopped c.record_outcome.ensures form is_form shape)
    (λ form is_form shape. told s.entries.items s.case.flow s.acks epoch later s.machine machine s.account account built c.next-ack.result answer is c.run_ack-acked.ensures.met c.run_ack-acked.ensures.stopped c.record_outcome.ensures form is_form shape))
