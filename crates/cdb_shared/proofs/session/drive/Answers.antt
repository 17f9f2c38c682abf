use Rattle.std.proofs.Common.{◌≡◌, ◌≢◌, ap, sym, ◌∙◌, rules, arith, ◌∷◌, [], ◌++◌, refl, true≢false}
use Rattle.std.proofs.lemmas.Grind.{replicate_next}
use Rattle.cdb_base.specs.declared.refusal.Refusal.TheVariants as refusal
use Rattle.cdb_commands.specs.ReplyView.{ReplyView, Refused, reply_view}
use Rattle.cdb_setup.proofs.Walk.{push_all}
use Rattle.cdb_shared.specs.declared.session.End.TheVariants.{All, Done}
use Rattle.cdb_shared.proofs.GateCalls.{none_made, finished, stopped, faulted, one_more}
use Rattle.cdb_shared.proofs.Steps.{driven_fault}
use Rattle.cdb_shared.proofs.session.drive.Goals as goal

pub loop-turn-init : goal.loop-turn-init
loop-turn-init g c = record { made = ([], none_made _ _ c.requires.1 refl, tt); passes = λ always. always }

pub returns-then-not-before-clause-session : goal.returns-then-not-before-clause-session
returns-then-not-before-clause-session g c =
    let was = c.loop-turn.invariant in
    let asked = c.before-in-loop-turn.ensures in (
      _,
      was.made.0,
      (c.loop-turn-test.true, was.made.2),
      stopped was.made.1 asked.called (search rules) (λ always. (asked.passes (was.passes always)).0),
    )

pub returns-in-Err-clause-session : goal.returns-in-Err-clause-session
returns-in-Err-clause-session g c =
    let was = c.loop-turn.invariant.made in
    let ended = c.ended_by.ensures.by_fault in
    let call = c.in-Err.ensures in (
      _,
      was.0,
      driven_fault _ _ ended c.loop-turn-test.true was.2,
      faulted was.1 c.before-in-loop-turn.ensures.called (search rules) c.call.ensures.seat _ ended call.fault call.full c.call.ensures.limit,
    )

pub returns-then-is_done-clause-session : goal.returns-then-is_done-clause-session
returns-then-is_done-clause-session g c =
    let was = c.loop-turn.invariant.made in
    let made = one_more was.1 c.before-in-loop-turn.ensures.called (search rules) c.call.ensures.seat _ c.in-Ok.ensures.call
    c.after.ensures.called (replicate_next c.loop-turn.turn _) refl in (
      _,
      was.0 ++ reply_view c.in-Ok.reply ∷ [],
      (was.0, ap (λ r. was.0 ++ r ∷ []) (c.is_done.ensures.0 c.if-is_done.true), was.2),
      finished made Done refl,
    )

pub loop-turn-preserved : goal.loop-turn-preserved
loop-turn-preserved g c =
    let was = c.loop-turn.invariant in
    record {
      made = (
        _,
        one_more was.made.1 c.before-in-loop-turn.ensures.called (search rules) c.call.ensures.seat _ c.in-Ok.ensures.call
            c.after.ensures.called (replicate_next c.loop-turn.turn _) refl,
        push_all (λ (r : ReplyView). r ≢ Refused refusal.Done) _ _ was.made.2 (λ is. true≢false (sym (c.is_done.ensures.1 is) ∙ c.if-is_done.false)),
      );
      passes = λ always. c.after.ensures.passes (c.before-in-loop-turn.ensures.passes (was.passes always)).1;
    }

pub returns-clause-session : goal.returns-clause-session
returns-clause-session g c =
    let was = c.loop-turn.invariant.made in
    let whole : c.loop-turn.turn ≡ c.args.turns = omega arith in
    rw (← whole) (_, was.0, (refl, was.2), finished was.1 All refl)
