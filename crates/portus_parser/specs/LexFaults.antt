-- The lexer's refusals as refusals of reading.
use Rattle.ccp_base.specs.Outside.{no_memory}
use Rattle.portus_lexer.specs.declared.token.LexFault.{LexFault}
use Rattle.portus_lexer.specs.declared.token.LexFault.TheVariants as lex
use Rattle.portus_parser.specs.declared.fault.ParseFault.{ParseFault}
use Rattle.portus_parser.specs.declared.fault.ParseFault.TheVariants.{NotText, NoMemory}

-- the refusal of a text that has no tokens
abbrev pub lex_fault : LexFault → ParseFault
lex_fault (lex.NotText place) = NotText place
lex_fault (lex.NoMemory _) = NoMemory no_memory
