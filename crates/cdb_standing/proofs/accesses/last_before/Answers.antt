use Rattle.std.proofs.Common.{arith}
use Rattle.std.proofs.lemmas.Option.{slice_get-get_or}
use Rattle.cdb_standing.proofs.AccessLists.{none_before, last_found}
use Rattle.cdb_standing.proofs.accesses.last_before.Goals as goal

pub returns-then-n-gt0 : goal.returns-then-n-gt0
returns-then-n-gt0 c =
    last_found c.requires c.args.mark c.count_before-n.ensures _ (omega arith) _
    (slice_get-get_or c.args.accesses.now _ _ (let within = c.count_before-n.ensures.within in omega arith))

pub returns-else-n-gt0 : goal.returns-else-n-gt0
returns-else-n-gt0 c = none_before c.requires c.args.mark c.count_before-n.ensures (omega arith)
