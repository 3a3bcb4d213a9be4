use Rattle.std.proofs.Common.{arith}
use Rattle.portus_core.specs.ProgramForm.{form_of}
use Rattle.campaign_report.proofs.CompiledCounts.{count_is_small}
use Rattle.campaign_report.proofs.check.count.Goals as goal

pub returns : goal.returns
returns c = omega (arith, count_is_small (form_of c.args.program.now) c.requires)
