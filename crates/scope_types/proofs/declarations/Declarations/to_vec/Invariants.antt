use Rattle.std.proofs.Common.{◌≡◌, ◌++◌, length}
use Rattle.scope_types.proofs.declarations.Declarations.to_vec.Given as goal

abbrev pub invariant-loop-named : goal.invariant-loop-named
invariant-loop-named l = l.decls.items ++ l.rest ≡ l.fn.self

abbrev pub decreases-loop-named : goal.decreases-loop-named
decreases-loop-named l = length l.rest
