use Rattle.std.proofs.Common.{arith, sym, subst}
use Rattle.portus_lexer.specs.Lexemes.{AreTokens}
use Rattle.portus_parser.proofs.Exact.{exact-read, exact-tokens}
use Rattle.portus_parser.proofs.reading.parse_text.Goals as goal

pub returns-in-Ok-clause-exact : goal.returns-in-Ok-clause-exact
returns-in-Ok-clause-exact c =
    let text = c.args.text.now in
    exact-read text c.as_slice.result.now c.read_forms.result (omega arith) (subst (AreTokens text) (sym c.as_slice.ensures) c.in-Ok.ensures.found) c.read_forms.ensures.found c.read_forms.ensures.refused

pub returns-in-Err-clause-exact : goal.returns-in-Err-clause-exact
returns-in-Err-clause-exact c = exact-tokens c.args.text.now c.in-Err.fault c.from.result (omega arith) c.in-Err.ensures.refused c.from.ensures
