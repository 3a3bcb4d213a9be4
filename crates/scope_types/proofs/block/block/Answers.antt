use Rattle.std.proofs.lemmas.Result.{IfOk-weaker, IfErr-weaker}
use Rattle.scope_types.proofs.Blocks.{block_walk-inner}
use Rattle.scope_types.specs.Scope.{scope_of}
use Rattle.scope_types.proofs.block.block.Goals as goal

pub returns-in-First-clause-ok : goal.returns-in-First-clause-ok
returns-in-First-clause-ok c =
    IfOk-weaker c.inner.result _ _ (λ b h. block_walk-inner (scope_of c.args.names.now) (scope_of c.drop_locals.new.names) c.args.at _ _ _ _ c.in-First.ensures c.drop_locals.ensures h)
    c.inner.ensures.ok

pub returns-in-First-clause-err : goal.returns-in-First-clause-err
returns-in-First-clause-err c =
    IfErr-weaker c.inner.result _ _ (λ e h k. block_walk-inner (scope_of c.args.names.now) (scope_of c.drop_locals.new.names) c.args.at _ _ _ _ c.in-First.ensures c.drop_locals.ensures (h k))
    c.inner.ensures.err
