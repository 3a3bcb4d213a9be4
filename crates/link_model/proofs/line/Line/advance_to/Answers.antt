use Rattle.std.proofs.Common.{◌≡◌, max, ◌∙◌, sym, refl, arith}
use Rattle.link_model.specs.Chances.{chance_number}
use Rattle.link_model.specs.Rings.{arrivals_in}
use Rattle.link_model.proofs.SendingLemmas.{not_before, before_due}
use Rattle.link_model.proofs.LineLemmas.{first_is, queued-none, queued-same}
use Rattle.link_model.proofs.line.Line.advance_to.Goals as goal

pub returns-then-self-now-clause-next : goal.returns-then-self-now-clause-next
returns-then-self-now-clause-next c =
    let times = c.args.case.now.trace in
    sym (not_before times c.requires.valid c.args.now (chance_number times c.args.self.now.next.chance) (omega (arith, c.if-self-now.true, c.requires.line.next.at)))

pub returns-clause-next : goal.returns-clause-next
returns-clause-next c =
    let times = c.args.case.now.trace in
    sym (first_is times c.requires.valid c.args.now (chance_number times c.first_due-self.result.chance) c.first_due-self.ensures.first)
    ∙ sym (before_due times c.requires.valid c.args.now (chance_number times c.args.self.now.next.chance) (omega (arith, c.if-self-now.false, c.requires.line.next.at)))

pub returns-clause-line : goal.returns-clause-line
returns-clause-line c =
    let case = c.args.case.now in
    let flight = c.args.flight.now in
    let chance = chance_number case.trace c.first_due-self.result.chance in
    let from : max flight.put flight.taken ≡ flight.put = omega (arith, c.requires.ring.order) in
    record {
      next = c.first_due-self.ensures.coming;
      gone = omega arith;
      queued = queued-same case c.args.now chance flight.put flight.taken flight.put chance (max flight.put flight.taken) flight.taken flight.put (arrivals_in flight) (arrivals_in flight) refl from refl refl refl
          (queued-none case c.args.now chance flight.taken flight.put (arrivals_in flight) (λ j under. omega (arith, c.first_due-self.ensures.first.before j (omega arith) under)));
      free = omega (arith, c.requires.line.free, c.requires.line.gone);
    }
