use Rattle.std.proofs.Common.{rules, tests, ◌==◌}
use Rattle.std.proofs.lemmas.Iterator.{YieldsList-from_slice}
use Rattle.std.proofs.lemmas.Iterator.Search.{all_from_yields_List}
use Rattle.cdb_play.proofs.races.text.have_one_value.Goals as goal

pub returns-in-Some : goal.returns-in-Some
returns-in-Some c =
    rw c.in-Some.ensures.cases.0
    (all_from_yields_List (λ other. other.1 == c.in-Some.first.now.1) _ _ _ c.all.ensures.ran (YieldsList-from_slice _ cc)
    (λ x b q k. search (rules, tests)))
