use Rattle.std.proofs.Common.{Ok, Err, map, ap, ◌∙◌}
use Rattle.portus_core.specs.declared.env.Mean.TheVariants.{Fault}
use Rattle.portus_core.specs.Programs.{part_of}
use Rattle.portus_core.specs.ProgramForm.{form_of}
use Rattle.portus_core.specs.Progress.{going_of}
use Rattle.portus_core.proofs.RunLemmas.{settled-run}
use Rattle.portus_core.proofs.ValidIsRunnable.{are_runnable-from_valid}
use Rattle.portus_core.proofs.program.Program.run.Goals as goal

pub blocks-requires : goal.blocks-requires
blocks-requires c = rw c.deref.ensures.value (are_runnable-from_valid (form_of c.args.self.now) c.args.self.now.valid)

pub returns-in-Ok-clause-exact : goal.returns-in-Ok-clause-exact
returns-in-Ok-clause-exact c =
    let env = c.args.env.now in
    c.finish.ensures.exact
    ∙ settled-run (form_of c.args.self.now) env c.args.ack.now c.args.room (map part_of c.deref.result.now) (going_of env c.begin-progress.result)
    (Ok (going_of c.blocks-2.new.env c.blocks-2.new.progress)) (ap (map part_of) c.deref.ensures.value) (c.begin-progress.ensures env) c.in-Ok.ensures.runs

pub returns-in-Err-clause-exact : goal.returns-in-Err-clause-exact
returns-in-Err-clause-exact c =
    let env = c.args.env.now in
    (λ i. (Fault c.in-Err.kind c.in-Err.place, (c.copy_from-in-Err.ensures ∙ c.copy_from.ensures) i))
    ∙ settled-run (form_of c.args.self.now) env c.args.ack.now c.args.room (map part_of c.deref.result.now) (going_of env c.begin-progress.result)
    (Err (c.in-Err.kind, c.in-Err.place)) (ap (map part_of) c.deref.ensures.value) (c.begin-progress.ensures env) c.in-Err.ensures.runs
