use Rattle.std.proofs.Common.{refl, sym, ◌∙◌}
use Rattle.std.proofs.lemmas.Option.{none-some}
use Rattle.cdb_base.specs.declared.event.Event.TheVariants.{Step, Lost}
use Rattle.cdb_standing.specs.Tables.{sent_of, IsMessage}
use Rattle.cdb_standing.proofs.CutsFound.{past_of}
use Rattle.cdb_standing.proofs.Places.{step_of_name, loss_of_name}
use Rattle.cdb_standing.proofs.cuts.past_in.Goals as goal

pub returns-in-Step : goal.returns-in-Step
returns-in-Step c = rw c.in-Step.is (λ at h.
    let it = step_of_name c.requires.sound c.in-Step.step.p c.in-Step.step.k at h in
    past_of c.requires.sound it.2 c.cuts_at.ensures (Step c.in-Step.step.p c.in-Step.step.k it.1) it.0 it.2 (refl, refl) at h)

pub returns-in-Some : goal.returns-in-Some
returns-in-Some c = rw c.in-Lost.is (λ at h.
    let copy = c.in-Lost.copy in
    let lost = loss_of_name c.requires.sound copy at h in
    let message : IsMessage (sent_of c.args.tables.now) copy.msg.s copy.msg.m c.in-Some.it.now.k =
    record { it = c.in-Some.it.now; was_sent = sym c.in-Some.ensures; by = refl } in
    let send = c.requires.sound.sent_is copy.msg.s copy.msg.m c.in-Some.it.now.k message in
    past_of c.requires.sound send.1 c.cuts_at-in-Some.ensures (Lost copy) lost.0 lost.1 (refl, message) at h)

pub returns-in-None : goal.returns-in-None
returns-in-None c = rw c.in-Lost.is (λ at h.
    let lost = loss_of_name c.requires.sound c.in-Lost.copy at h in absurd (none-some lost.1.it (c.in-None.ensures ∙ lost.1.was_sent)))
