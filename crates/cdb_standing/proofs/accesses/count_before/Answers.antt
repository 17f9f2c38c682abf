use Rattle.std.proofs.Common.{ltb, ltb-true, ltb-false, arith, rules}
use Rattle.std.proofs.lemmas.List.Sorted.{IsPartitionPoint-from_clause, IsPartitionedBy-ltb}
use Rattle.cdb_standing.specs.declared.tables.Access.{Access}
use Rattle.cdb_standing.proofs.AccessLists.{split_at, rises}
use Rattle.cdb_standing.proofs.accesses.count_before.Goals as goal

pub returns : goal.returns
returns c =
    let test = λ (a : Access). ltb a.mark c.args.mark in
    split_at c.args.accesses.now c.args.mark test (λ a h. ltb-true _ _ h) (λ a h. ltb-false _ _ h) (omega arith)
    (IsPartitionPoint-from_clause test _ _ c.partition_point.ensures.partitioned
    (IsPartitionedBy-ltb (λ (a : Access). a.mark) _ _ (rises _ c.requires)) (λ a r q k. search rules))
