use Rattle.mode_laws.proofs.RowLaw.{rows_told}
use Rattle.mode_laws.proofs.laws.timeline_row_law.Goals as goal

pub returns : goal.returns
returns c = rows_told
