use Rattle.std.proofs.Common.{rules, ◌≡◌, inl, inr, sym, ap, ◌∙◌}
use Rattle.cdb_base.specs.declared.event.Event.TheVariants.{Step}
use Rattle.cdb_run.specs.Current.{held_in}
use Rattle.cdb_run.specs.Stepped.{HasStepped}
use Rattle.cdb_run.proofs.Told.{enabled_may_come}
use Rattle.cdb_run.proofs.Held.{unchanged}
use Rattle.cdb_run.proofs.Steps.{step_may, step_added}
use Rattle.cdb_run.proofs.run.Run.take_step.Goals as goal

pub push_with-requires-clause-may : goal.push_with-requires-clause-may
push_with-requires-clause-may g c = enabled_may_come g.P.Process.table c.self.invariant c.self.view_is (Step c.args.p c.args.k c.args.kind.now) c.requires

pub push_with-requires-clause-callable : goal.push_with-requires-clause-callable
push_with-requires-clause-callable g c = λ state is a1 a2 a3 a4 a5 a6 a7 a8 a9 a10.
    rw is (step_may g.P.Process.table c.n-ranges.ensures.ranges c.self.invariant c.self.view_is c.args.p c.args.k c.args.kind.now c.requires)

pub invariant_of-self : goal.invariant_of-self
invariant_of-self g c =
    let ensures = c.in_err-push_with.ensures in
    let same : held_in c.push_with.new.state ≡ held_in c.self.inside.state =
    elim ensures.failed [
      | inl same ↦ ap held_in same
      | inr failed ↦
          let met = failed.met in
          let left : held_in failed.left.now ≡ held_in failed.shown.now = search (rules, met) in
          ap held_in (sym failed.leaves) ∙ left ∙ ap held_in failed.shows
    ]
    in
    unchanged c.self.invariant same ensures.err

pub invariant_of-self-2 : goal.invariant_of-self-2
invariant_of-self-2 g c =
    let ok = c.in_ok-push_with.ensures.ok in
    let met = ok.1.met in
    let left : HasStepped g.P.Process.table g.P.Process.before (held_in ok.1.shown.now) c.args.p c.args.kind.now ok.0 (held_in ok.1.left.now) =
    search (rules, met) in
    step_added g.P.Process.table c.n-ranges.ensures.ranges c.self.invariant c.self.view_is c.args.p c.args.k c.args.kind.now c.requires
    (rw (ok.1.shows, ok.1.leaves) at left) ok.2
