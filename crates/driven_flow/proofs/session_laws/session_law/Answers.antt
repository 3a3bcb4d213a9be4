use Rattle.driven_flow.proofs.SessionLawLemmas.{ends-for-good, keeps-programs, flows-keep-programs, refuses-without-change}
use Rattle.driven_flow.proofs.session_laws.session_law.Goals as goal

pub returns-clause-ended : goal.returns-clause-ended
returns-clause-ended c = ends-for-good

pub returns-clause-programs : goal.returns-clause-programs
returns-clause-programs c = keeps-programs

pub returns-clause-refused : goal.returns-clause-refused
returns-clause-refused c = refuses-without-change

pub returns-clause-flows : goal.returns-clause-flows
returns-clause-flows c = flows-keep-programs
