use Rattle.std.proofs.Common.{◌≡◌, Ok, map, drop}
use Rattle.portus_parser.specs.Readings.{read_lexemes, unread, lexeme_in, reading_of}
use Rattle.portus_parser.proofs.reading.read_forms.Given as goal

abbrev pub invariant-loop-token : goal.invariant-loop-token
invariant-loop-token l =
    read_lexemes (Ok (reading_of l.open_lists.items l.parts.items)) (map (lexeme_in l.text) (drop l.token-index l.tokens)) ≡ read_lexemes unread (map (lexeme_in l.text) l.tokens)
