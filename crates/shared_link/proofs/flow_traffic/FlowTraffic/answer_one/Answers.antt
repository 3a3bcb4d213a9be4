use Rattle.std.proofs.Common.{◌∙◌, sym, arith}
use Rattle.shared_link.proofs.TimeLemmas.{no_first, some_in_flight}
use Rattle.shared_link.proofs.flow_traffic.FlowTraffic.answer_one.Goals as goal

pub time_out-requires-clause-none : goal.time_out-requires-clause-none
time_out-requires-clause-none c = no_first c.args.self.now.flight.items (sym c.front.ensures ∙ sym c.copied.ensures ∙ c.in_default.is)

pub acknowledge-requires-clause-room : goal.acknowledge-requires-clause-room
acknowledge-requires-clause-room c =
    let old = c.args.self.now in
    omega (arith, c.requires.room, c.requires.some, c.requires.kept.count, some_in_flight old.flight.items c.in-Some.arrival old.lost (sym c.front.ensures ∙ sym c.copied.ensures ∙ c.in-Some.is))
