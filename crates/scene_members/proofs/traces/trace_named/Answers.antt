use Rattle.std.proofs.Common.{◌∙◌}
use Rattle.scene_members.proofs.TableLemmas.{trace_lookup}
use Rattle.scene_members.proofs.traces.trace_named.Goals as goal

pub returns : goal.returns
returns c = c.get.ensures.value ∙ trace_lookup c.args.name.now c.args.traces.now.entries
