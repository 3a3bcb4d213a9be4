use Rattle.ccp_run.proofs.AuditLemmas.{sourced}
use Rattle.ccp_run.proofs.modes.audit.judge.Goals as goal

pub audit-requires-clause-sourced : goal.audit-requires-clause-sourced
audit-requires-clause-sourced c = sourced c.args.scene.now.programs c.requires.numbered c.args.scene.now.cases c.requires.coded
