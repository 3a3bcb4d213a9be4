use Rattle.std.proofs.Common.{rules, ◌≡◌, List, [], ◌∷◌, ◌++◌, map, ap, sym, ◌∙◌}
use Rattle.shared_rounds.specs.KnownFlows.{FlowRound, with_rounds_back}
use Rattle.shared_rounds.proofs.KnownLemmas.{back-last}
use Rattle.shared_rounds.proofs.desk.Desk.take_in_all.Goals as goal

pub loop-part-preserved : goal.loop-part-preserved
loop-part-preserved g c =
    let l = c.loop-part in
    let part = c.in-Some.part in
    let front = c.pop.new.self.items in
    let is : l.parts.items ≡ front ++ part ∷ [] = search rules in
    let taken = c.in_ok-take_in.ensures in (
      taken.link ∙ l.invariant.0,
      ap (λ (known : List FlowRound). with_rounds_back (map {B = FlowRound} (λ part. (part.acks.number, part.acks.round)) front) known) taken.known
          ∙ sym (back-last (λ part. part.acks.number) (λ part. part.acks.round) (λ part. part.acks.acks) front part l.self.known)
          ∙ sym (ap (λ items. with_rounds_back (map {B = FlowRound} (λ part. (part.acks.number, part.acks.round)) items) l.self.known) is)
          ∙ l.invariant.1,
    )
