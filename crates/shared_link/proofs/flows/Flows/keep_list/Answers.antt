use Rattle.std.proofs.Common.{ap, ◌∙◌}
use Rattle.std.proofs.Math.Seq.{map-set_same}
use Rattle.shared_link.specs.Kept.{flow_under_way}
use Rattle.shared_link.proofs.flows.Flows.keep_list.Goals as goal

pub returns-clause-same : goal.returns-clause-same
returns-clause-same c =
    map-set_same flow_under_way c.args.self.now.traffic.items c.args.flow c.keep_list.new.self c.index_mut.result.now
    (c.keep_list.ensures.standing ∙ ap flow_under_way c.index_mut.ensures.value)
