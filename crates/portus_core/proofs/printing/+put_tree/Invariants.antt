use Rattle.std.proofs.Common.{◌≡◌, [], ◌++◌, drop}
use Rattle.portus_core.specs.Trees.{nodes_of}
use Rattle.portus_core.specs.PrintedTree.{printed_after}
use Rattle.portus_core.proofs.printing.+put_tree.Given as goal

abbrev pub invariant-loop-part : goal.invariant-loop-part
invariant-loop-part l =
    l.text ++ printed_after l.gap (nodes_of (drop l.part-index l.part-items)) ≡ l.initial.text ++ printed_after [] (nodes_of l.part-items)
