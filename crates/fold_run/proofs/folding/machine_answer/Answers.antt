use Rattle.portus_core.specs.ProgramForm.{form_of}
use Rattle.fold_run.proofs.MachineMeans.{env_after, told}
use Rattle.fold_run.proofs.folding.machine_answer.Goals as goal

pub returns-clause-mean : goal.returns-clause-mean
returns-clause-mean g c =
    (told (form_of c.args.built.now.program) c.args.built.now.code.code c.args.built.now.places c.args.built.now.simulates
    c.args.machine.now c.requires.fits c.requires.going c.args.ack.now
    c.ack.result c.ack.ensures.acked c.ack.new.self c.ack.ensures.after).0

pub returns-clause-placed : goal.returns-clause-placed
returns-clause-placed g c =
    (told (form_of c.args.built.now.program) c.args.built.now.code.code c.args.built.now.places c.args.built.now.simulates
    c.args.machine.now c.requires.fits c.requires.going c.args.ack.now
    c.ack.result c.ack.ensures.acked c.ack.new.self c.ack.ensures.after).1

pub returns-clause-env : goal.returns-clause-env
returns-clause-env g c =
    env_after (form_of c.args.built.now.program) c.args.built.now.code.code c.args.built.now.places c.args.built.now.simulates
    c.args.machine.now c.requires.fits c.requires.going c.args.ack.now c.ack.new.self c.ack.ensures.after
