use Rattle.std.proofs.Common.{◌≡◌, ◌+◌, ap, ◌∙◌, set}
use Rattle.std.proofs.lemmas.List.{map-set}
use Rattle.shared_rounds.specs.KnownFlows.{FlowRound}
use Rattle.shared_rounds.proofs.KnownLemmas.{place-known}
use Rattle.shared_rounds.proofs.known_flow.KnownFlows.rest.Goals as goal

pub returns : goal.returns
returns g c =
    let new = c.rest.new.self in
    let old = c.index_mut.result.now in
    let acks = c.args.acks.now in
    let items = c.self.inside.places.items in
    let same : (old.number, old.round) ≡ (acks.number, acks.round) =
    place-known (λ place. (place.number, place.round)) items c.args.self.now acks.number acks.round old c.self.view_is c.index_mut.ensures.value c.requires.known in
    let number : new.number ≡ acks.number = c.rest.ensures.number ∙ ap (λ (flow : FlowRound). flow.0) same in
    let round : new.round ≡ acks.round + 1 = c.rest.ensures.round ∙ ap (λ (flow : FlowRound). flow.1 + 1) same in
    map-set {B = FlowRound} (λ place. (place.number, place.round)) items acks.number new
    ∙ (λ i. set (c.self.view_is i) acks.number (number i, round i))

pub rest-requires-clause-none : goal.rest-requires-clause-none
rest-requires-clause-none g c = c.requires.none

pub rest-requires-clause-number : goal.rest-requires-clause-number
rest-requires-clause-number g c =
    ap (λ (flow : FlowRound). flow.0)
    (place-known (λ place. (place.number, place.round)) c.self.inside.places.items c.args.self.now c.args.acks.now.number c.args.acks.now.round
    c.index_mut.result.now c.self.view_is c.index_mut.ensures.value c.requires.known)

pub rest-requires-clause-round : goal.rest-requires-clause-round
rest-requires-clause-round g c =
    ap (λ (flow : FlowRound). flow.1)
    (place-known (λ place. (place.number, place.round)) c.self.inside.places.items c.args.self.now c.args.acks.now.number c.args.acks.now.round
    c.index_mut.result.now c.self.view_is c.index_mut.ensures.value c.requires.known)
