use Rattle.std.proofs.Common.{◌≡◌, Option, None, Result, ok_or, refl, sym, ap, ◌∙◌, arith}
use Rattle.std.proofs.lemmas.Grind.{common_steps}
use Rattle.std.proofs.lemmas.Option.{gets}
use Rattle.std.specs.Option.{option_or}
use Rattle.std.specs.Result.{result_ok}
use Rattle.cdb_base.specs.declared.act.Act.{Act}
use Rattle.cdb_base.specs.declared.act.Act.TheVariants as act
use Rattle.cdb_base.specs.declared.event.Event.{Event}
use Rattle.cdb_base.specs.declared.name.MsgName.{MsgName}
use Rattle.cdb_base.specs.declared.refusal.Refusal.{Refusal}
use Rattle.cdb_base.specs.declared.refusal.Refusal.TheVariants as refusal
use Rattle.cdb_message.specs.Mail.{next_pending}
use Rattle.cdb_rules.specs.Auto.{first_step}
use Rattle.cdb_rules.specs.Runs.{mail_in, result_of_step}
use Rattle.cdb_run.specs.Plans.{receive_of}
use Rattle.cdb_run.proofs.run.Run.plan_first.Goals as goal

-- the first of what is tried in turn
module _ (step : Act → Result Event Refusal) (pending : Option MsgName) where
  in_turn : first_step step pending
      ≡ ok_or (option_or (result_ok (step act.Learn)) (option_or (receive_of step pending)
      (option_or (result_ok (step act.Go)) (result_ok (step (act.Query None)))))) refusal.Idle
  in_turn = grind (arith, common_steps, gets)

  tried : {learn receive go query : Option Event} → learn ≡ result_ok (step act.Learn) → receive ≡ receive_of step pending
      → go ≡ result_ok (step act.Go) → query ≡ result_ok (step (act.Query None))
      → ok_or (option_or learn (option_or receive (option_or go query))) refusal.Idle ≡ first_step step pending
  tried learn receive go query = rw (learn, receive, go, query) (sym in_turn)

pub returns-in-Some-plan_receive-clause-returns : goal.returns-in-Some-plan_receive-clause-returns
returns-in-Some-plan_receive-clause-returns g c =
    let table = g.P.Process.table in
    let run = c.args.self.now in
    tried (result_of_step table run c.args.p) (next_pending (mail_in table run) c.args.p None)
    (sym c.in_default.is ∙ c.plan_learn.ensures.learnt) c.in-Some-plan_receive.ensures.received refl refl

pub returns-in-Ok-plan-clause-returns : goal.returns-in-Ok-plan-clause-returns
returns-in-Ok-plan-clause-returns g c =
    let table = g.P.Process.table in
    let run = c.args.self.now in
    tried (result_of_step table run c.args.p) (next_pending (mail_in table run) c.args.p None)
    (sym c.in_default.is ∙ c.plan_learn.ensures.learnt) (sym c.in_default-plan_receive.is ∙ c.plan_receive.ensures.received)
    (ap result_ok (sym c.in_default-plan.is ∙ c.plan.ensures.returns)) (ap result_ok c.in-Ok-plan.ensures.returns)

pub returns-clause-returns : goal.returns-clause-returns
returns-clause-returns g c =
    let table = g.P.Process.table in
    let run = c.args.self.now in
    tried (result_of_step table run c.args.p) (next_pending (mail_in table run) c.args.p None)
    (sym c.in_default.is ∙ c.plan_learn.ensures.learnt) (sym c.in_default-plan_receive.is ∙ c.plan_receive.ensures.received)
    (ap result_ok (sym c.in_default-plan.is ∙ c.plan.ensures.returns)) (ap result_ok (sym c.in_default-plan-2.is ∙ c.plan-2.ensures.returns))
