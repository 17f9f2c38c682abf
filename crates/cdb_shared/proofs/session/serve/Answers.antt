use Rattle.std.proofs.Common.{◌+◌, ◌∙◌, rules, refl, ap, arith, List, [], ◌∷◌, ◌++◌, map}
use Rattle.std.proofs.lemmas.List.{map-append}
use Rattle.cdb_commands.specs.ReplyView.{reply_view}
use Rattle.cdb_commands.specs.declared.reply.Reply.{Reply}
use Rattle.cdb_shared.specs.declared.session.End.TheVariants.{All}
use Rattle.cdb_shared.proofs.GateCalls.{none_made, finished, stopped, faulted, one_more}
use Rattle.cdb_shared.proofs.Steps.{take_one_more, few_calls}
use Rattle.cdb_shared.proofs.session.serve.Goals as goal

pub loop-command-init : goal.loop-command-init
loop-command-init g c = record {
  made = none_made _ _ c.requires.1 (ap (map reply_view) c.new-replies.ensures.items);
  count = omega arith;
  number = refl;
  limit = omega arith;
  passes = λ always. always;
}

pub returns-then-not-before-clause-session : goal.returns-then-not-before-clause-session
returns-then-not-before-clause-session g c =
    let was = c.loop-command.invariant in
    let asked = c.before-in-loop-command.ensures in
    rw was.count (_, stopped was.made asked.called (search rules) (λ always. (asked.passes (was.passes always)).0))

pub returns-in-Err-clause-session : goal.returns-in-Err-clause-session
returns-in-Err-clause-session g c =
    let was = c.loop-command.invariant in
    let seen = c.no_room-fault.ensures in
    rw (c.reserve.ensures.len, was.count, c.reserve.ensures.items)
    (_, faulted was.made c.before-in-loop-command.ensures.called (search rules) seen.seat.0 _ c.ended_by.ensures.by_fault seen.seat.1 seen.full seen.limit)

pub returns-in-Err-call-clause-session : goal.returns-in-Err-call-clause-session
returns-in-Err-call-clause-session g c =
    let was = c.loop-command.invariant in
    let call = c.in-Err-call.ensures in
    rw (c.reserve.ensures.len, was.count, c.reserve.ensures.items) (
      _,
      faulted was.made c.before-in-loop-command.ensures.called (search rules) c.call.ensures.seat _ c.ended_by-in-Err-call.ensures.by_fault
          call.fault call.full c.call.ensures.limit,
    )

pub loop-command-preserved : goal.loop-command-preserved
loop-command-preserved g c =
    let was = c.loop-command.invariant in
    let commands = c.args.commands.now in
    let index = c.loop-command.command-index in
    let replied = ap (map reply_view) (c.push_reserved.ensures.items ∙ ap (λ (l : List Reply). l ++ c.in-Ok.reply ∷ []) c.reserve.ensures.items)
    ∙ map-append reply_view c.loop-command.replies.items (c.in-Ok.reply ∷ []) in
    let made = one_more was.made c.before-in-loop-command.ensures.called (search rules) c.call.ensures.seat _ c.in-Ok.ensures.call c.after.ensures.called
    (take_one_more commands index c.command-item.result (omega arith) c.command-item.is) replied in
    record {
      made = made;
      count = omega arith;
      number = omega arith;
      limit = omega (arith, made.many, few_calls c.args.seat c.call.new.seat _ made.calls c.call.ensures.limit);
      passes = λ always. c.after.ensures.passes (c.before-in-loop-command.ensures.passes (was.passes always)).1;
    }

pub returns-clause-session : goal.returns-clause-session
returns-clause-session g c =
    let was = c.loop-command.invariant in
    rw was.count (_, finished was.made All refl)
