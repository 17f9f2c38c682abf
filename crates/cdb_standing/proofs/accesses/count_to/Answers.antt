use Rattle.std.proofs.Common.{◌+◌, leb, leb-true, arith, rules}
use Rattle.std.proofs.lemmas.Bool.{leb-false}
use Rattle.std.proofs.lemmas.List.Sorted.{IsPartitionPoint-from_clause, IsPartitionedBy-leb}
use Rattle.cdb_standing.specs.declared.tables.Access.{Access}
use Rattle.cdb_standing.proofs.AccessLists.{split_at, rises}
use Rattle.cdb_standing.proofs.accesses.count_to.Goals as goal

pub returns : goal.returns
returns c =
    let test = λ (a : Access). leb a.mark c.args.mark in
    split_at c.args.accesses.now (c.args.mark + 1) test
    (λ a h. let le = leb-true _ _ h in omega arith) (λ a h. let less = leb-false _ _ h in omega arith) (omega arith)
    (IsPartitionPoint-from_clause test _ _ c.partition_point.ensures.partitioned
    (IsPartitionedBy-leb (λ (a : Access). a.mark) _ _ (rises _ c.requires)) (λ a r q k. search rules))
