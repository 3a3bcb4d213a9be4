use Rattle.std.proofs.Common.{◌≡◌, ◌≤◌, length, ◌+◌}
use Rattle.scope_types.specs.Names.{local_from}
use Rattle.scope_types.proofs.meaning.find_local.Given as goal

abbrev pub invariant-loop-local : goal.invariant-loop-local
invariant-loop-local l = record { few : l.i + length l.rest ≤ 8; same : local_from 0 l.locals l.name ≡ local_from l.i l.rest l.name }

abbrev pub decreases-loop-local : goal.decreases-loop-local
decreases-loop-local l = length l.rest
