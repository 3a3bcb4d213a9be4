use Rattle.portus_lexer.proofs.Laws.{AreTokens-only}
use Rattle.portus_lexer.proofs.calls.tokens.Goals as goal

pub returns-in-Ok-clause-only : goal.returns-in-Ok-clause-only
returns-in-Ok-clause-only c = λ others are. AreTokens-only c.args.text.now c.in-Ok.tokens others c.in-Ok.ensures.found are
