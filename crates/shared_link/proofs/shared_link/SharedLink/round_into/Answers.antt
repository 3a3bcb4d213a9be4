use Rattle.std.proofs.Common.{◌≡◌, ℕ, ◌+◌, ◌*◌, ◌<◌, ◌≤◌, List, length, ap, sym, ◌∙◌, subst, arith, Result, Ok, Err, OnErr}
use Rattle.ccp_base.specs.Limits.{most_queue, most_rounds}
use Rattle.link_model.specs.Chances.{chance_number, first_chance}
use Rattle.shared_link.specs.SharedRounds.{acks_after}
use Rattle.shared_link.specs.SharedStanding.{FlowStanding, SharedState, Stands}
use Rattle.shared_link.specs.Kept.{AreReady, ArePrepared}
use Rattle.shared_link.proofs.TimeLemmas.{few_later}
use Rattle.shared_link.proofs.LinkLemmas.{acks_same, stands_after}
use Rattle.shared_link.proofs.shared_link.SharedLink.round_into.Goals as goal

pub make_rooms-requires-clause-ready : goal.make_rooms-requires-clause-ready
make_rooms-requires-clause-ready c = c.self.invariant.ready

pub make_rooms-requires-clause-asks : goal.make_rooms-requires-clause-asks
make_rooms-requires-clause-asks c = c.requires.asks ∙ ap (λ (l : SharedState). length l.case.flows) (sym c.self.view_is)

pub invariant_of-self : goal.invariant_of-self
invariant_of-self c =
    let kept = c.self.invariant in
    record {
      within = kept.within;
      valid = kept.valid;
      few = kept.few;
      ready = c.make_rooms.ensures.ready;
      place = kept.place;
      waiting = kept.waiting;
    }

-- whatever the answer is
err_holds : {T E P : Type 0} → (result : Result T E) → P → OnErr result P
err_holds (Ok value) holds = tt
err_holds (Err fault) holds = holds

pub returns-in_err-make_rooms-clause-unchanged : goal.returns-in_err-make_rooms-clause-unchanged
returns-in_err-make_rooms-clause-unchanged c =
    let before = c.self.inside in
    let state : List FlowStanding → SharedState = λ flows.
    record { case = before.case; rounds = before.rounds; chance = chance_number before.case.trace before.next; flows = flows } in
    err_holds c.from_residual-in_err-make_rooms.result (ap state c.make_rooms.ensures.same ∙ c.self.view_is)

pub at-sending-requires-clause-waiting : goal.at-sending-requires-clause-waiting
at-sending-requires-clause-waiting c =
    let inside = c.self.inside in
    let times = inside.case.trace in
    subst (λ (n : ℕ). chance_number times inside.next ≤ first_chance times (n * inside.case.quantum_us + 1) 0 + most_queue) (sym c.from.ensures) c.self.invariant.waiting

pub send_all-requires-clause-ready : goal.send_all-requires-clause-ready
send_all-requires-clause-ready c =
    subst (λ (n : ℕ). AreReady c.self.inside.case n c.make_rooms.new.self.traffic.items) (sym c.at-sending.ensures.rounds) c.make_rooms.ensures.ready

pub send_all-requires-clause-asks : goal.send_all-requires-clause-asks
send_all-requires-clause-asks c = c.requires.asks ∙ ap (λ (l : SharedState). length l.case.flows) (sym c.self.view_is)

pub send_all-requires-clause-prepared : goal.send_all-requires-clause-prepared
send_all-requires-clause-prepared c =
    let flows = c.make_rooms.new.self.traffic.items in
    subst (λ (n : ℕ). ArePrepared c.self.inside.case n c.args.asks.now (length flows) flows) (sym c.at-sending.ensures.now) c.in_ok-make_rooms.ensures.prepared

pub answer_all-requires-clause-room : goal.answer_all-requires-clause-room
answer_all-requires-clause-room c = λ flow inside other. (c.send_all.ensures.prepared flow other inside).room

pub answer_all-requires-clause-asks : goal.answer_all-requires-clause-asks
answer_all-requires-clause-asks c = c.requires.asks ∙ ap (λ (l : SharedState). length l.case.flows) (sym c.self.view_is)

pub answer_all-requires-clause-ready : goal.answer_all-requires-clause-ready
answer_all-requires-clause-ready c =
    subst (λ (n : ℕ). AreReady c.self.inside.case n c.send_all.new.self.traffic.items) (c.send_all.ensures.rounds ∙ c.at-sending.ensures.rounds)
    c.send_all.ensures.ready

pub invariant_of-self-2 : goal.invariant_of-self-2
invariant_of-self-2 c =
    let kept = c.self.invariant in
    let case = c.self.inside.case in
    let some = subst (λ (l : SharedState). l.rounds < most_rounds) (sym c.self.view_is) c.requires.rounds in
    let now : c.send_all.new.sending.now ≡ c.self.inside.rounds * case.quantum_us =
    c.send_all.ensures.now ∙ c.at-sending.ensures.now ∙ ap (λ (n : ℕ). n * case.quantum_us) c.from.ensures in
    let is = c.send_all.ensures.sending in
    let next = chance_number case.trace c.send_all.new.sending.next in
    let few : next ≤ first_chance case.trace (c.self.inside.rounds * case.quantum_us + 1) 0 + most_queue =
    subst (λ (n : ℕ). next ≤ first_chance case.trace (n + 1) 0 + most_queue) now (omega (arith, is.waiting, is.few)) in
    record {
      within = kept.within;
      valid = kept.valid;
      few = omega (arith, some);
      ready = c.answer_all.ensures.ready;
      place = c.send_all.ensures.sending.next_place;
      waiting = few_later case.trace kept.valid (c.self.inside.rounds * case.quantum_us) ((c.self.inside.rounds + 1) * case.quantum_us) next (omega arith) few;
    }

pub returns-clause-case : goal.returns-clause-case
returns-clause-case c = ap (λ (l : SharedState). l.case) c.self.view_is

pub returns-clause-rounds : goal.returns-clause-rounds
returns-clause-rounds c = ap (λ (l : SharedState). l.rounds + 1) c.self.view_is

pub returns-clause-acks : goal.returns-clause-acks
returns-clause-acks c = λ rounds stands.
    let inside = c.self.inside in
    let case = inside.case in
    let here = subst (λ (l : SharedState). Stands l rounds) (sym c.self.view_is) stands in
    let now_is = c.at-sending.ensures.now ∙ ap (λ (n : ℕ). n * case.quantum_us) c.from.ensures in
    let end_is = ap (λ (n : ℕ). n * case.quantum_us + case.quantum_us) c.from.ensures in
    acks_same case c.self.invariant.valid c.args.asks.now inside.rounds inside.next inside.flows.traffic.items c.make_rooms.new.self.traffic.items c.send_all.new.self.traffic.items
    c.answer_all.new.self.traffic.items c.at-sending.result c.send_all.new.sending _ c.answer_all.new.answers.items c.make_rooms.ensures.ready.count c.answer_all.ensures.ready.count
    c.make_rooms.ensures.same now_is c.at-sending.ensures.next end_is c.send_all.ensures.follows c.answer_all.ensures.answered rounds here
    ∙ ap (λ (l : SharedState). acks_after l.case rounds c.args.asks.now) c.self.view_is

pub returns-clause-stands : goal.returns-clause-stands
returns-clause-stands c = λ rounds stands.
    let inside = c.self.inside in
    let case = inside.case in
    let here = subst (λ (l : SharedState). Stands l rounds) (sym c.self.view_is) stands in
    let now_is = c.at-sending.ensures.now ∙ ap (λ (n : ℕ). n * case.quantum_us) c.from.ensures in
    let end_is = ap (λ (n : ℕ). n * case.quantum_us + case.quantum_us) c.from.ensures in
    stands_after case c.self.invariant.valid c.args.asks.now inside.rounds inside.next inside.flows.traffic.items c.make_rooms.new.self.traffic.items c.send_all.new.self.traffic.items
    c.answer_all.new.self.traffic.items c.at-sending.result c.send_all.new.sending _ c.answer_all.new.answers.items c.make_rooms.ensures.ready.count c.answer_all.ensures.ready.count
    c.make_rooms.ensures.same now_is c.at-sending.ensures.next end_is c.send_all.ensures.follows c.answer_all.ensures.answered rounds here
