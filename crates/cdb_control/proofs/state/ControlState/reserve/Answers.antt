use Rattle.std.proofs.Common.{arith, ap, length, List, refl}
use Rattle.std.proofs.lemmas.Result.{err_from_is_err_and}
use Rattle.cdb_base.specs.declared.event.Event.{Event}
use Rattle.cdb_control.proofs.RedoLists.{list_of}
use Rattle.cdb_control.proofs.state.ControlState.reserve.Goals as goal

pub returns-in_err-reserve : goal.returns-in_err-reserve
returns-in_err-reserve g c =
    let w = list_of c.self.inside.redo.items (rw (← c.self.view_is) at c.requires) c.index_mut.ensures.value in
    let did = c.reserve.ensures in
    let failed = (err_from_is_err_and c.from_residual.result c.from_residual.ensures.1).1 in
    rw (← c.self.view_is) (record { state = rw (w.same c.reserve.new.self did.items) refl; ok = rw failed tt; capacities = w.grown _ did.capacity })

pub returns : goal.returns
returns g c =
    let w = list_of c.self.inside.redo.items (rw (← c.self.view_is) at c.requires) c.index_mut.ensures.value in
    let did = c.reserve.ensures in
    rw (← c.self.view_is) (record {
      state = rw (w.same c.reserve.new.self did.items) refl;
      ok = rw (w.placed c.reserve.new.self)
          (omega (arith, ap (λ (l : List Event). length l) w.events, ap (λ (l : List Event). length l) did.items, c.in_ok-reserve.ensures.ok));
      capacities = w.grown _ did.capacity;
    })
