use Rattle.reg_compiler.proofs.KnownLaws.{known-exactly}
use Rattle.reg_compiler.proofs.laws.known_law.Goals as goal

pub returns : goal.returns
returns c = known-exactly
