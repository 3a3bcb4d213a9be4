use Rattle.portus_parser.proofs.Printed.{prints_back}
use Rattle.portus_parser.proofs.printing_law.print_tree_law.Goals as goal

pub returns : goal.returns
returns c = prints_back
