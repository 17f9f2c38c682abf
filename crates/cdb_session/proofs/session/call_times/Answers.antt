use Rattle.std.proofs.Common.{◌+◌, ◌++◌, ◌∷◌, [], refl, ap, ◌∙◌, arith, length-append}
use Rattle.std.proofs.lemmas.Result.{err_from_is_err_and}
use Rattle.cdb_base.specs.declared.no_memory.NoMemory.{NoMemory}
use Rattle.cdb_session.specs.Styles.{stays, goes}
use Rattle.cdb_session.proofs.LineResponse.{begun_repeat, repeated_more, all_given, last_given, cut_short}
use Rattle.cdb_session.proofs.session.call_times.Goals as goal

pub loop-init : goal.loop-init
loop-init g c = record {
  so_far = ([], refl, rw c.new-text.ensures.items (begun_repeat c.args.place.seat c.args.command.now (g.C.Caller.part c.args.caller.now)));
  seats = refl;
  later = stays;
}

pub loop-preserved : goal.loop-preserved
loop-preserved g c =
    let so = c.loop.invariant in
    let got = so.so_far.0 in
    let more =
    repeated_more got so.so_far.2 NoMemory c.in_ok-call.field-0 c.call.new.text.items (g.C.Caller.part c.call.new.caller)
    c.in_ok-call.ensures.gives c.if-branch.false in
    record {
      so_far = (got ++ more.0 ∷ [], length-append got (more.0 ∷ []) ∙ ap (λ n. n + 1) so.so_far.1, more.1);
      seats = c.call.ensures.seats ∙ so.seats;
      later = goes c.loop.caller c.call.new.caller so.later c.call.ensures.later;
    }

pub returns-in_err-call-clause-responds : goal.returns-in_err-call-clause-responds
returns-in_err-call-clause-responds g c =
    let so = c.loop.invariant in
    let p = err_from_is_err_and c.from_residual.result c.from_residual.ensures.1 in
    rw p.1
    (λ effect. cut_short g.C.Caller.answers c.args.style.now effect c.args.place _ c.args.times so.so_far.0 so.so_far.2
    (rw so.so_far.1 c.loop-test.true) NoMemory c.in_err-call.field-0.0 c.call.new.text.items (g.C.Caller.part c.call.new.caller)
    c.in_err-call.ensures.gives)

pub returns-then-branch-clause-responds : goal.returns-then-branch-clause-responds
returns-then-branch-clause-responds g c =
    let so = c.loop.invariant in
    λ effect. last_given g.C.Caller.answers c.args.style.now effect c.args.place _ c.args.times so.so_far.0 so.so_far.2
    (rw so.so_far.1 c.loop-test.true) NoMemory NoMemory c.in_ok-call.field-0 c.call.new.text.items c.of.result
    (g.C.Caller.part c.call.new.caller) c.in_ok-call.ensures.gives c.if-branch.true c.of.ensures

pub returns-clause-responds : goal.returns-clause-responds
returns-clause-responds g c =
    let so = c.loop.invariant in
    λ effect. all_given g.C.Caller.answers c.args.style.now effect c.args.place _ c.args.times so.so_far.0 so.so_far.2 NoMemory
    c.of-2.result (omega (arith, so.so_far.1, c.loop.auto.counter-end, c.loop-test.false)) c.of-2.ensures
