use Rattle.std.proofs.Common.{◌∙◌, ◌∷◌, [], ◌++◌, sym, ap, arith, length, List, refl}
use Rattle.std.specs.Result.{result_err}
use Rattle.cdb_base.specs.declared.event.Event.{Event}
use Rattle.cdb_rules.specs.EventRefs.{name_given}
use Rattle.cdb_control.proofs.RedoLists.{list_of}
use Rattle.cdb_control.proofs.Steps.{carried_out, not_carried_out, not_refused, refused_leaves, undo_granted, undo_refused, undo_done}
use Rattle.cdb_control.proofs.state.ControlState.undo.Goals as goal

pub returns-in-Err : goal.returns-in-Err
returns-in-Err g c =
    let w = list_of c.self.inside.redo.items (rw (← c.self.view_is) at c.requires) c.index_mut-list.ensures.value in
    rw (← c.self.view_is, c.refused.ensures, w.same c.reserve.new.self c.reserve.ensures.items)
    (carried_out (undo_refused _ _ _ _ (sym c.refuses_undo.ensures ∙ c.in-Some.is)) (w.grown _ c.reserve.ensures.capacity))

pub returns-in_default-refuses_undo : goal.returns-in_default-refuses_undo
returns-in_default-refuses_undo g c =
    let w = list_of c.self.inside.redo.items (rw (← c.self.view_is) at c.requires) c.index_mut-list.ensures.value in
    let old = c.index_mut-list.result.now.ok.0 in
    rw (← c.self.view_is, w.same c.reserve.new.self c.reserve.ensures.items)
    (not_carried_out refl (undo_granted _ _ _ _ (not_refused _ (sym c.refuses_undo.ensures ∙ c.in_default-refuses_undo.is)))
    (λ spared space. omega (arith, ap (λ (l : List Event). length l) w.events, w.capacity, old, c.in-Err.ensures.full, space))
    (w.grown _ c.reserve.ensures.capacity))

pub returns-in-Err-undo : goal.returns-in-Err-undo
returns-in-Err-undo g c =
    let w = list_of c.self.inside.redo.items (rw (← c.self.view_is) at c.requires) c.index_mut-list.ensures.value in
    let is = ap result_err (sym c.undo.ensures.returns ∙ c.in-Err-undo.is) in
    rw (
      ← c.self.view_is,
      c.undo.ensures.after,
      c.refused-in-Err-undo.ensures,
      w.same c.reserve.new.self c.reserve.ensures.items,
      refused_leaves _ (g.R.Runs.run c.self.inside.run).history is,
    )
    (carried_out (undo_refused _ _ _ _ is) (w.grown _ c.reserve.ensures.capacity))

pub returns : goal.returns
returns g c =
    let w = list_of c.self.inside.redo.items (rw (← c.self.view_is) at c.requires) c.index_mut-list.ensures.value in
    rw (← c.self.view_is, c.undo.ensures.after, w.put c.push_reserved.new.self)
    (carried_out
    (undo_done _ _ _ _ _ c.undo.ensures.returns c.in-Ok.is w.events
    (c.push_reserved.ensures.items ∙ ap (λ (l : List Event). l ++ c.in-Ok.event ∷ []) c.reserve.ensures.items))
    (w.grown _ (omega (arith, c.reserve.ensures.capacity, c.push_reserved.ensures.capacity))))
