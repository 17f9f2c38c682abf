use Rattle.std.proofs.Common.{sym, ap, ◌∙◌, subst, is_ok, true≢false}
use Rattle.cdb_agreement.proofs.Lawful.{taken_again}
use Rattle.cdb_setup.specs.Parts.{AreInRange}
use Rattle.cdb_rules.specs.Runs.{with_result}
use Rattle.cdb_rules.proofs.OfRun.{last_enabled, next_of_run}
use Rattle.cdb_trail.proofs.played.take_next.Goals as goal

pub again-requires : goal.again-requires
again-requires g c =
    let table = g.P.Process.table in
    let setup = c.args.again.now.setup in
    let range : AreInRange setup = subst AreInRange c.setup.ensures c.n-ranges.ensures.ranges in
    next_of_run table setup range c.args.again.now.history c.args.event.now c.requires

pub unreachable-requires : goal.unreachable-requires
unreachable-requires g c =
    let setup = c.args.again.now.setup in
    let range : AreInRange setup = subst AreInRange c.setup.ensures c.n-ranges.ensures.ranges in
    let ok = c.in_ok-again.ensures.taken.1 (last_enabled g.P.Process.table setup range _ _ c.requires) in
    true≢false (sym ok ∙ ap is_ok c.in-Err.is)

pub returns : goal.returns
returns g c =
    let table = g.P.Process.table in
    let setup = c.args.again.now.setup in
    let range : AreInRange setup = subst AreInRange c.setup.ensures c.n-ranges.ensures.ranges in
    let is = taken_again table setup range g.met.P.Process.lawful _ _ (last_enabled table setup range _ _ c.requires) in
    c.in_ok-again.ensures.after ∙ ap (with_result c.args.again.now) (c.in_ok-again.ensures.returns ∙ is)
