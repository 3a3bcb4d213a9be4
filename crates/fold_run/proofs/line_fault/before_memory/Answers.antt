use Rattle.ccp_base.specs.declared.parts.Separator.TheVariants.{LineFeed}
use Rattle.ccp_base.specs.Parts.{parts_of}
use Rattle.fold_run.proofs.LineCounts.{counted-err, counted-first}
use Rattle.fold_run.proofs.line_fault.before_memory.Goals as goal

pub returns-in-NoMemory-clause-err : goal.returns-in-NoMemory-clause-err
returns-in-NoMemory-clause-err c = counted-err c.args.next (parts_of LineFeed c.args.lines.now) c.first_fault.result c.first_fault.ensures

pub returns-in-NoMemory-clause-first : goal.returns-in-NoMemory-clause-first
returns-in-NoMemory-clause-first c = counted-first c.args.next (parts_of LineFeed c.args.lines.now) c.first_fault.result c.first_fault.ensures
