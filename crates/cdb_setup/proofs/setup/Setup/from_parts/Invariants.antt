use Rattle.std.proofs.Common.{◌≡◌, take, map}
use Rattle.cdb_setup.proofs.setup.Setup.from_parts.Given as goal

abbrev pub invariant-loop-list : goal.invariant-loop-list
invariant-loop-list l = map (λ list. list.items) l.lists.items ≡ map (λ list. list.now) (take l.list-index l.answers)
