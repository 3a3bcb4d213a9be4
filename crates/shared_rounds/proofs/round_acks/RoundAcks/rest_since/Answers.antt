use Rattle.std.proofs.Common.{◌≡◌, ◌≤◌, ℕ, arith, subst}
use Rattle.shared_rounds.specs.Rounds.{Rests}
use Rattle.shared_rounds.proofs.round_acks.RoundAcks.rest_since.Goals as goal

pub invariant_of-self : goal.invariant_of-self
invariant_of-self g c =
    let link = g.C.Course.link in
    let asks = g.C.Course.asks in
    let acks = c.args.self.now in
    let known = c.args.known.now in
    let before : known.since ≤ known.round = known.before in
    let same : known.round ≡ acks.round = c.requires.round in
    record {
      are = acks.are;
      few = acks.few;
      before = omega (arith, before, same);
      rests =
          subst (λ (n : ℕ). Rests link asks n known.since acks.round) c.requires.number
          (subst (λ (r : ℕ). Rests link asks known.number known.since r) same known.rests);
    }
