use Rattle.std.proofs.Common.{Ok, Err, is_some, ap, sym, ◌∙◌}
use Rattle.open_flow.proofs.EntryLemmas.{is_entry}
use Rattle.open_flow.proofs.entry.build_answer.Goals as goal

pub returns-in-Ok : goal.returns-in-Ok
returns-in-Ok c = is_entry c.args.text.now c.in-Ok.ensures.settled (Ok c.in-Ok.built) tt c.in-Ok.ensures.found tt

pub returns-in-None : goal.returns-in-None
returns-in-None c =
    is_entry c.args.text.now c.in-Err.ensures.settled (Err c.in-Err.refusal) (sym c.lack_of_memory.ensures ∙ ap is_some c.in-None.is) tt c.in-Err.ensures.refused
