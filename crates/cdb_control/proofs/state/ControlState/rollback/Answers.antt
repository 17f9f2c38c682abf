use Rattle.std.proofs.Common.{◌∙◌, refl}
use Rattle.std.proofs.lemmas.Result.{err_from_is_err_and}
use Rattle.cdb_control.proofs.RedoLists.{list_of}
use Rattle.cdb_control.proofs.Steps.{carried_out, not_carried_out, none_removed, not_rolled_back, refused_leaves, rolled_not_spared}
use Rattle.cdb_control.proofs.Steps.{rollback_granted, rollback_refused, rollback_done}
use Rattle.cdb_control.proofs.state.ControlState.rollback.Goals as goal

pub returns-in_err-count : goal.returns-in_err-count
returns-in_err-count g c =
    let w = list_of c.self.inside.redo.items (rw (← c.self.view_is) at c.requires.seat) c.index_mut-list.ensures.value in
    let did = c.in_err-count.ensures.rolled_back in
    rw (← c.self.view_is, (err_from_is_err_and c.from_residual.result c.from_residual.ensures.1).1)
    (not_carried_out (rw (did.err, w.same c.rollback.new.removed did.list_err) refl) (rollback_granted _ _ _ _ did.memory)
    (λ spared space. rolled_not_spared _ spared) (w.grown _ c.rollback.ensures.capacity))

pub returns-in-Err : goal.returns-in-Err
returns-in-Err g c =
    let w = list_of c.self.inside.redo.items (rw (← c.self.view_is) at c.requires.seat) c.index_mut-list.ensures.value in
    let did = c.in_ok-count.ensures.rolled_back in
    let is = not_rolled_back _ did.returns c.in-Err.is in
    rw (
      ← c.self.view_is,
      did.after,
      c.refused.ensures,
      w.same c.rollback.new.removed (did.list ∙ none_removed _ _ is),
      refused_leaves _ (g.R.Runs.run c.self.inside.run).history is,
    )
    (carried_out (rollback_refused _ _ _ _ is) (w.grown _ c.rollback.ensures.capacity))

pub returns : goal.returns
returns g c =
    let w = list_of c.self.inside.redo.items (rw (← c.self.view_is) at c.requires.seat) c.index_mut-list.ensures.value in
    let did = c.in_ok-count.ensures.rolled_back in
    rw (← c.self.view_is, did.after, w.put c.rollback.new.removed)
    (carried_out (rollback_done _ _ _ _ _ did.returns c.in-Ok.is w.events did.list) (w.grown _ c.rollback.ensures.capacity))
