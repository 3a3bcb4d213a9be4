use Rattle.std.proofs.Common.{◌≡◌, ◌≤◌, ℕ, Some, slice_get, arith, sym, ap, ◌∙◌, subst}
use Rattle.shared_rounds.specs.Rounds.{acks_in_round, Rests}
use Rattle.shared_rounds.proofs.RoundsLemmas.{rests-on}
use Rattle.shared_rounds.proofs.known_flow.KnownFlow.rest.Goals as goal

pub invariant_of-self : goal.invariant_of-self
invariant_of-self g c =
    let known = c.args.self.now in
    let acks = c.args.acks.now in
    let link = g.C.Course.link in
    let asks = g.C.Course.asks in
    let given : slice_get (acks_in_round link asks acks.round) known.number ≡ Some acks.acks =
    ap (λ (n : ℕ). slice_get (acks_in_round link asks acks.round) n) c.requires.number ∙ acks.are in
    let before : known.since ≤ known.round = known.before in
    let same : known.round ≡ acks.round = c.requires.round in
    record {
      asks =
          sym (g.C.Course.rest_law acks.round known.number acks.acks given c.requires.none)
          ∙ ap (λ (n : ℕ). slice_get (asks n) known.number) (sym c.requires.round) ∙ known.asks;
      before = omega (arith, before, same);
      rests =
          rests-on link asks known.number known.since acks.round acks.acks
          (subst (λ (n : ℕ). Rests link asks known.number known.since n) c.requires.round known.rests) given c.requires.none;
    }
