-- The result of a run of cases over one link, read over their codes.
use Rattle.std.specs.Prelude.{◌≡◌, ℕ, List}
use Rattle.flow_core.specs.declared.case.Case.{Case}
use Rattle.flow_core.specs.Readings.{over_codes}
use Rattle.shared_link.specs.declared.shared_case.SharedCase.{SharedCase}
use Rattle.shared_run.specs.declared.books.SharedRun.{SharedRun}
use Rattle.shared_run.specs.SharedHistory.{flows_at_end, shared_rows, shared_counts}
use Rattle.shared_run.specs.SharedBooks.{AreGivensOf}

-- the books, the rows and the packets are those of the run of these cases, of at most `rounds` rounds
pub record IsRunOf (link : SharedCase) (cases : List Case) (rounds : ℕ) (run : SharedRun) : Type 0 where
  pub givens : AreGivensOf (flows_at_end link over_codes cases rounds) run.givens
  pub rows : run.rows ≡ shared_rows link over_codes cases rounds
  pub counts : run.counts ≡ shared_counts link over_codes cases rounds
