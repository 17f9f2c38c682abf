use Rattle.std.proofs.Common.{List, [], ◌∷◌, length, length-append, sym, ap, ◌∙◌, arith}
use Rattle.std.proofs.lemmas.Result.{err_from_is_err_and}
use Rattle.cdb_base.specs.declared.event.Event.{Event}
use Rattle.cdb_run.proofs.Found.{rollback_granted, number_result, list_result, after_result}
use Rattle.cdb_run.proofs.RollingBack.{next_free, none_left, all_went}
use Rattle.cdb_run.proofs.run.Run.roll_back.Goals as goal

pub restore-requires : goal.restore-requires
restore-requires g c =
    let history = c.args.self.now.history in
    let into = c.args.removed.now.items in
    let at = c.requires.0 in
    let named = c.requires.1 in
    let left = rw c.in-Some.ensures.items at (c.loop-event.invariant.left at named) in
    let next = next_free history at into named.0 named.1 c.pop.new.self.items c.in-Some.event left in
    (next.position, (c.in-Some.event, next.stands, sym c.name.ensures), next.free)

pub loop-event-preserved : goal.loop-event-preserved
loop-event-preserved g c =
    let history = c.args.self.now.history in
    let into = c.args.removed.now.items in
    let rest = c.pop.new.self.items in
    let event = c.in-Some.event in
    let pushed = c.push_reserved.ensures in
    let longer = pushed.len in
    let same_room = pushed.capacity in
    let fewer = ap (λ (l : List Event). length l) c.in-Some.ensures.items in
    let room = c.loop-event.invariant.room in
    let kept = c.loop-event.invariant.kept in
    record {
      setup = c.restore.ensures.setup ∙ c.loop-event.invariant.setup;
      left = λ at named.
          let left = rw c.in-Some.ensures.items at (c.loop-event.invariant.left at named) in
          let next = next_free history at into named.0 named.1 rest event left in
          let gone = c.restore.ensures.event next.position (event, next.stands, sym c.name.ensures) in
          rw (gone.1, pushed.items) next.then;
      kept = omega (arith, same_room, kept);
      room = omega (arith, longer, same_room, fewer, room, length-append rest (event ∷ []));
    }

pub returns-clause-number : goal.returns-clause-number
returns-clause-number g c =
    let run = c.args.self.now in
    let stands = c.requires in
    let are = rw c.history.ensures.events at c.in_ok-events.ensures in
    let all = ap length (are stands.0 stands.1) in
    let number = c.len-number.ensures in
    let long = c.in_ok-events.events.ok.0 in
    number_result g.P.Process.table run c.proper.ensures c.args.name stands c.len-number.result
    (omega (arith, number, long, all))

pub returns-clause-after : goal.returns-clause-after
returns-clause-after g c =
    let stands = c.requires in
    after_result g.P.Process.table c.args.self.now c.proper.ensures c.args.name stands c.loop-event.self
    c.loop-event.invariant.setup
    (none_left c.loop-event.events.items c.loop-event.events.ok.0 c.in_default.ensures.cases.0 (c.loop-event.invariant.left stands.0 stands.1))

pub returns-clause-list : goal.returns-clause-list
returns-clause-list g c =
    let stands = c.requires in
    list_result g.P.Process.table c.args.self.now c.proper.ensures c.args.name stands c.args.removed.now.items
    c.loop-event.removed.items
    (all_went c.loop-event.events.items c.loop-event.events.ok.0 c.in_default.ensures.cases.0 (c.loop-event.invariant.left stands.0 stands.1))

pub returns-in_err-events-clause-memory : goal.returns-in_err-events-clause-memory
returns-in_err-events-clause-memory g c =
    rw (err_from_is_err_and c.from_residual.result c.from_residual.ensures.1).1
    (rollback_granted g.P.Process.table c.args.self.now c.proper.ensures c.args.name c.requires)

pub returns-in_err-reserve-clause-memory : goal.returns-in_err-reserve-clause-memory
returns-in_err-reserve-clause-memory g c =
    rw (err_from_is_err_and c.from_residual-in_err-reserve.result c.from_residual-in_err-reserve.ensures.1).1
    (rollback_granted g.P.Process.table c.args.self.now c.proper.ensures c.args.name c.requires)
