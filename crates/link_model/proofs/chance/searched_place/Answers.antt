use Rattle.std.proofs.Common.{ltb, ltb-true, ltb-false, arith, rules}
use Rattle.std.proofs.lemmas.List.Sorted.{IsPartitionPoint-from_clause, IsPartitionedBy-ltb}
use Rattle.link_model.proofs.chance.searched_place.Goals as goal

pub returns-clause-before : goal.returns-clause-before
returns-clause-before c =
    λ i below. ltb-true _ _
    ((IsPartitionPoint-from_clause (λ time. ltb time c.args.millis) _ _ c.partition_point.ensures.partitioned
    (IsPartitionedBy-ltb (λ time. time) _ c.args.millis c.requires.rising) (λ a r q k. search rules)).0 i 0 (omega arith) below)

pub returns-clause-from : goal.returns-clause-from
returns-clause-from c =
    λ within. ltb-false _ _
    ((IsPartitionPoint-from_clause (λ time. ltb time c.args.millis) _ _ c.partition_point.ensures.partitioned
    (IsPartitionedBy-ltb (λ time. time) _ c.args.millis c.requires.rising) (λ a r q k. search rules)).1 _ 0 (omega arith) within)
