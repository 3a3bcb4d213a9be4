use Rattle.std.proofs.Common.{◌+◌, ◌*◌}
use Rattle.portus_core.specs.Programs.{term_of}
use Rattle.reg_compiler.specs.Counts.{term_count}
use Rattle.reg_compiler.proofs.expression.+expression.Given as goal

abbrev pub decreases-value_lines : goal.decreases-value_lines
decreases-value_lines l = 3 * term_count (term_of l.expr.now)

abbrev pub decreases-operand : goal.decreases-operand
decreases-operand l = 3 * term_count (term_of l.expr.now) + 1

abbrev pub decreases-operation_lines : goal.decreases-operation_lines
decreases-operation_lines l = 3 * (term_count (term_of l.left.now) + term_count (term_of l.right.now)) + 2
