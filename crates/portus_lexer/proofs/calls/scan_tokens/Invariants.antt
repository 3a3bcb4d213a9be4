use Rattle.std.proofs.Common.{◌≡◌, drop}
use Rattle.portus_lexer.specs.declared.within.Within.TheVariants.{Gap}
use Rattle.portus_lexer.specs.Places.{first_place}
use Rattle.portus_lexer.specs.Scanning.{scan, with_front}
use Rattle.portus_lexer.proofs.calls.scan_tokens.Given as goal

abbrev pub invariant-loop-byte : goal.invariant-loop-byte
invariant-loop-byte l =
    (l.scan.at ≡ l.byte-index)
    × (with_front l.tokens (scan l.scan.within l.scan.place l.scan.at (drop l.byte-index l.text)) ≡ scan Gap first_place 0 l.text)
