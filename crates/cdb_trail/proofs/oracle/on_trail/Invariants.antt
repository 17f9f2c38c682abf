use Rattle.std.proofs.Common.{◌≡◌, ◌++◌, drop, map}
use Rattle.cdb_trail.specs.Oracle.{on_trail}
use Rattle.cdb_trail.proofs.oracle.on_trail.Given as goal

-- with those that are left they are all
abbrev pub invariant-loop-it : goal.invariant-loop-it
invariant-loop-it l = map (λ it. it.now) l.found.items ++ on_trail (drop l.it-index l.all) ≡ on_trail l.all
