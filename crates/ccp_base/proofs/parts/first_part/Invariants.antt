use Rattle.std.proofs.Common.{◌≡◌, take, drop}
use Rattle.ccp_base.specs.Parts.{parts_of}
use Rattle.ccp_base.proofs.PartLemmas.{prefixed}
use Rattle.ccp_base.proofs.parts.first_part.Given as goal

abbrev pub invariant-loop-i : goal.invariant-loop-i
invariant-loop-i l = parts_of l.separator l.text ≡ prefixed (take l.i l.text) (parts_of l.separator (drop l.i l.text))
