use Rattle.std.proofs.Common.{ap, refl, subst, sym}
use Rattle.run_ending.specs.Streams.{StreamChange, stream_change}
use Rattle.ccp_run.specs.Attempts.{IsAttempt}
use Rattle.ccp_run.specs.Modes.{Task, task_in}
use Rattle.ccp_run.proofs.modes.make_asked.Goals as goal

-- the source is as it was
pub returns-in-Soak : goal.returns-in-Soak
returns-in-Soak g c =
    let source : StreamChange = stream_change g.S.Source.remaining g.S.Source.faults c.args.source.now c.args.source.now in
    subst (λ (task : Task). IsAttempt task source c.soak_output.result) (sym (ap (λ mode. task_in mode c.args.asked) c.in-Soak.is))
    (c.soak_output.ensures source (record { bytes = refl; faults = refl }))
