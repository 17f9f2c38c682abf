use Rattle.crossbeam_queue.specs.Passes.{view}
use Rattle.cdb_shared.proofs.Keeps.{merges}
use Rattle.cdb_shared.proofs.Calls.{rests_of, known_joined}
use Rattle.cdb_shared.proofs.shared.Shared.finish_watched.Goals as goal

pub absorb-requires-clause-rule : goal.absorb-requires-clause-rule
absorb-requires-clause-rule g c = merges c.gather-all.ensures.rests (rests_of _ (view c.watch.inside.pass) _ c.watch.view_is c.requires.watch.1)

pub returns-clause-known : goal.returns-clause-known
returns-clause-known g c =
    let control = c.take-control.result in
    let both =
    known_joined _ (view c.gather-all.result) (view c.watch.inside.pass) _ control c.watch.view_is c.absorb.ensures.rule c.take-control.ensures.taken.1 in
    c.gather-all.ensures.seats control both.0
