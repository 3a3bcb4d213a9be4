use Rattle.std.proofs.Common.{◌≡◌, length}
use Rattle.flow_core.specs.ReadsRates.{one_reads_rates, code_reads_rates}
use Rattle.flow_core.proofs.reads_rates.code_reads_rates.Given as goal

abbrev pub invariant-loop-first : goal.invariant-loop-first
invariant-loop-first l = one_reads_rates l.left ≡ code_reads_rates l.code

abbrev pub decreases-loop-first : goal.decreases-loop-first
decreases-loop-first l = length l.left
