use Rattle.fold_run.proofs.AcksLaws.{acks-law}
use Rattle.fold_run.proofs.CutLaws.{cut-law}
use Rattle.fold_run.proofs.laws.reading_laws.Goals as goal

pub returns-clause-cut : goal.returns-clause-cut
returns-clause-cut c = cut-law

pub returns-clause-acks : goal.returns-clause-acks
returns-clause-acks c = acks-law
