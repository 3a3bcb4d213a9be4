use Rattle.std.proofs.Common.{ap, ◌∙◌, set}
use Rattle.std.proofs.lemmas.List.{map-set}
use Rattle.shared_rounds.specs.KnownFlows.{FlowRound}
use Rattle.shared_rounds.proofs.known_flow.KnownFlows.keep.Goals as goal

pub returns-then-number-len : goal.returns-then-number-len
returns-then-number-len g c =
    let flow = c.args.flow in
    map-set {B = FlowRound} (λ place. (place.number, place.round)) c.self.inside.places.items flow.number flow
    ∙ ap (λ (known : _). set known flow.number (flow.number, flow.round)) c.self.view_is
