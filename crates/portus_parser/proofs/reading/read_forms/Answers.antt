use Rattle.std.proofs.Common.{Ok, map, List, [], ap, sym, ◌∙◌}
use Rattle.std.proofs.lemmas.List.{drop_all}
use Rattle.portus_parser.specs.declared.open_list.OpenList.{OpenList}
use Rattle.portus_parser.specs.Readings.{read_lexemes, unread, reading_of, lexeme_in}
use Rattle.portus_parser.proofs.OpenLists.{read-unclosed, EndsReading-at}
use Rattle.portus_parser.proofs.reading.read_forms.Goals as goal

pub returns-in-Err-clause-refused : goal.returns-in-Err-clause-refused
returns-in-Err-clause-refused c =
    let l = c.loop-token in
    EndsReading-at (reading_of l.open_lists.items l.parts.items) c.args.text.now c.args.tokens.now l.token-index c.lexeme.result.now
    (read_lexemes unread (map (lexeme_in c.args.text.now) c.args.tokens.now)) c.in-Err.fault c.loop-token-test.true c.lexeme.ensures c.in-Err.ensures.err l.invariant

pub returns-in-Some-clause-refused : goal.returns-in-Some-clause-refused
returns-in-Some-clause-refused c =
    let l = c.loop-token in
    sym l.invariant
    ∙ ap (λ tokens. read_lexemes (Ok (reading_of l.open_lists.items l.parts.items)) (map (lexeme_in c.args.text.now) tokens)) (drop_all l.token-index c.args.tokens.now c.loop-token-test.false)
    ∙ ap (λ (open_lists : List OpenList). read_lexemes (Ok (reading_of open_lists l.parts.items)) []) c.in-Some.ensures.items
    ∙ read-unclosed c.pop.new.self.items c.in-Some.open_list l.parts.items
