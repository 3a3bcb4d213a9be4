use Rattle.std.proofs.Common.{◌∙◌}
use Rattle.flow_core.proofs.MappedLemmas.{some-mapped}
use Rattle.flow_core.proofs.running.Running.has_out.Goals as goal

pub returns : goal.returns
returns c =
    let s = c.args.self.now in
    c.is_some.ensures ∙ some-mapped (λ taken. record { told = s.content; taken = taken }) s.taken
