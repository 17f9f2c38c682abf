use Rattle.std.proofs.Common.{◌∙◌, ℕ, ◌-◌, take, arith, sym, ap}
use Rattle.cdb_control.specs.State.{last_of}
use Rattle.cdb_control.proofs.RedoLists.{list_of, events_in}
use Rattle.cdb_control.proofs.Refused.{last_of_run}
use Rattle.cdb_control.proofs.Steps.{carried_out, redone-as}
use Rattle.cdb_control.proofs.state.ControlState.redo.Goals as goal

pub again-requires : goal.again-requires
again-requires g c =
    let lists = c.self.inside.redo.items in
    let w = list_of lists (rw (← c.self.view_is) at c.requires.seat) c.index.ensures in
    let top = sym c.in-Some.is ∙ c.copied.ensures ∙ c.last.ensures.value ∙ ap last_of (c.deref.ensures.value ∙ sym w.events) in
    last_of_run (g.R.Runs.run c.self.inside.run).setup (events_in lists) c.args.seat _ (sym top) (rw (← c.self.view_is) at c.requires.of_run).1

pub returns-in-Ok : goal.returns-in-Ok
returns-in-Ok g c =
    let lists = c.self.inside.redo.items in
    let has = rw (← c.self.view_is) at c.requires.seat in
    let w = list_of lists has c.index_mut.ensures.value in
    let did = c.in_ok-event.ensures in
    let top = sym c.in-Some.is ∙ c.copied.ensures ∙ c.last.ensures.value ∙ ap last_of c.deref.ensures.value in
    rw (← c.self.view_is, did.after, w.put c.pop.new.self)
    (carried_out
    (redone-as _ _ _ (list_of lists has c.index.ensures).events top did.returns c.in-Ok.is w.events
    (c.pop.ensures.rest ∙ ap (λ (n : ℕ). take (n - 1) c.index_mut.result.now.items) c.index_mut.result.now.ok.0) (rw did.after at c.decides-decides.ensures))
    (w.grown _ (omega (arith, c.pop.ensures.capacity))))
