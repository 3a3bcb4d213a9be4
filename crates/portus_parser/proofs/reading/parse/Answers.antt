use Rattle.portus_parser.proofs.Exact.{IsSettled-always}
use Rattle.portus_parser.proofs.reading.parse.Goals as goal

pub returns-clause-settled : goal.returns-clause-settled
returns-clause-settled c = IsSettled-always c.args.text.now
