use Rattle.std.proofs.Common.{◌≡◌, ◌++◌, drop}
use Rattle.portus_core.specs.Trees.{nodes_of}
use Rattle.portus_core.specs.PrintedTree.{printed_forms}
use Rattle.portus_core.proofs.printing.print_tree.Given as goal

abbrev pub invariant-loop-form : goal.invariant-loop-form
invariant-loop-form l = l.text ++ printed_forms (nodes_of (drop l.form-index l.form-items)) ≡ printed_forms (nodes_of l.form-items)
