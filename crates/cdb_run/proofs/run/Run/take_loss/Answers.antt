use Rattle.std.proofs.Common.{rules, ◌≡◌, inl, inr, sym, ap, ◌∙◌}
use Rattle.cdb_base.specs.declared.event.Event.TheVariants.{Lost}
use Rattle.cdb_message.specs.Mail.{add_loss}
use Rattle.cdb_run.specs.Current.{held_in}
use Rattle.cdb_run.proofs.Told.{enabled_may_come}
use Rattle.cdb_run.proofs.Held.{unchanged}
use Rattle.cdb_run.proofs.Steps.{loss_may, loss_added}
use Rattle.cdb_run.proofs.run.Run.take_loss.Goals as goal

pub push_loss_with-requires-clause-may : goal.push_loss_with-requires-clause-may
push_loss_with-requires-clause-may g c = enabled_may_come g.P.Process.table c.self.invariant c.self.view_is (Lost c.args.copy.now) c.requires

pub push_loss_with-requires-clause-callable : goal.push_loss_with-requires-clause-callable
push_loss_with-requires-clause-callable g c = λ mail is a1 a2 a3 a4 a5 a6 a7 a8 a9 a10.
    let may = loss_may g.P.Process.table c.n-ranges.ensures.ranges c.self.invariant c.self.view_is c.args.copy.now c.requires in
    rw is (may.receiver, (may.sent, (may.not_received, may.not_lost)))

pub invariant_of-self : goal.invariant_of-self
invariant_of-self g c =
    let ensures = c.in_err-push_loss_with.ensures in
    let old = held_in c.self.inside.state in
    let same : c.push_loss_with.new.state ≡ old.mail =
    elim ensures.failed [
      | inl same ↦ same
      | inr failed ↦
          let met = failed.met in
          let left : failed.left.now ≡ failed.shown.now = search (rules, met) in
          sym failed.leaves ∙ left ∙ failed.shows
    ]
    in
    unchanged c.self.invariant (ap (λ mail. record old { mail = mail }) same) ensures.err

pub invariant_of-self-2 : goal.invariant_of-self-2
invariant_of-self-2 g c =
    let copy = c.args.copy.now in
    let changed = c.in_ok-push_loss_with.ensures.changed in
    let met = changed.met in
    let left : changed.left.now ≡ add_loss changed.shown.now copy = search (rules, met) in
    let lost = sym changed.leaves ∙ left ∙ ap (λ m. add_loss m copy) changed.shows in
    loss_added g.P.Process.table c.n-ranges.ensures.ranges c.self.invariant c.self.view_is copy c.requires
    (ap (λ mail. record (held_in c.self.inside.state) { mail = mail }) lost) c.in_ok-push_loss_with.ensures.added
