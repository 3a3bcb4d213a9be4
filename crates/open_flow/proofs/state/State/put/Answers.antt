use Rattle.std.proofs.Common.{refl}
use Rattle.open_flow.proofs.OpenLemmas.{open-put}
use Rattle.open_flow.proofs.state.State.put.Goals as goal

pub returns-clause-open_state : goal.returns-clause-open_state
returns-clause-open_state c =
    open-put c.args.self.now c.args.entry c.push-2.new.self c.push.new.self c.push-3.new.self c.requires.open_state
    c.requires.step c.requires.text c.requires.answers
    c.push-2.ensures.items c.push-2.ensures.room c.push.ensures.items c.push.ensures.room c.push-3.ensures.items c.push-3.ensures.room

pub returns-clause-case : goal.returns-clause-case
returns-clause-case c = refl

pub returns-clause-entries : goal.returns-clause-entries
returns-clause-entries c = c.push-2.ensures.items

pub returns-clause-word : goal.returns-clause-word
returns-clause-word c = c.push-3.ensures.items
