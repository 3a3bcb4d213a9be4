use Rattle.std.proofs.Common.{ap, sym}
use Rattle.open_flow.specs.BuiltTexts.{is_no_memory}
use Rattle.open_flow.proofs.entry.lack_of_memory.Goals as goal

pub returns-in-Parse : goal.returns-in-Parse
returns-in-Parse c = sym (ap is_no_memory c.in-Parse.is)

pub returns-in-Scope : goal.returns-in-Scope
returns-in-Scope c = sym (ap is_no_memory c.in-Scope.is)

pub returns-in-Compile : goal.returns-in-Compile
returns-in-Compile c = sym (ap is_no_memory c.in-Compile.is)
