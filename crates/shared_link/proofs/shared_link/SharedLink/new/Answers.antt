use Rattle.std.proofs.Common.{◌<◌, length, refl, ◌∙◌, arith}
use Rattle.std.proofs.lemmas.List.{get_or-map}
use Rattle.shared_link.specs.Kept.{flow_under_way}
use Rattle.shared_link.proofs.FlowsLemmas.{some_of}
use Rattle.shared_link.proofs.shared_link.SharedLink.new.Goals as goal

pub returns-clause-stands : goal.returns-clause-stands
returns-clause-stands c =
    let flows = c.in_ok-flows.flows.traffic.items in
    record {
      rounds = refl;
      chance = omega arith;
      flows = λ flow other inside.
          (let within : flow < length flows = omega (arith, inside, c.in_ok-flows.ensures.ready.count) in
          get_or-map flow_under_way flows flow (some_of flows flow within) other within
          ∙ c.in_ok-flows.ensures.follows flow (some_of flows flow within) within);
    }
