use Rattle.std.proofs.Common.{sym, subst, arith}
use Rattle.std.specs.Prelude.{Ok}
use Rattle.cdb_control.proofs.Own.{Begins-refl}
use Rattle.cdb_shared_session.specs.KeptAlone.{KeptView, IsLaterKept}
use Rattle.cdb_shared_session.proofs.KeptCalls.{later_kept}
use Rattle.cdb_shared_session.proofs.KeptEntries.{keeps_none}
use Rattle.cdb_shared_session.proofs.alone.hold_kept.Goals as goal

pub returns : goal.returns
returns g c =
    let stream = g.J.Sink.stream in
    let rules = g.R.Runs.rules in
    let begun = c.args.control in
    let first : KeptView g.row.J.Denot = record { control = begun; file = c.args.file; count = Ok 0 } in
    let last = c.run-caller.result.0 in
    let at_end : KeptView g.row.J.Denot = record { control = c.caller.inside.control; file = c.caller.inside.file; count = c.caller.inside.count } in
    let its : IsLaterKept stream first at_end =
    subst (IsLaterKept stream first) (sym c.caller.view_is) (later_kept stream first last c.requires.few c.run-caller.ensures.later) in
    let kept = its.keeps c.args.file (keeps_none stream c.args.file 0 begun.journal (omega arith)) in
    let added = c.keep_rest-kept.ensures c.args.file c.caller.inside.control.journal (rw c.journal.ensures.entries (Begins-refl _)) kept in
    let made = c.run-caller.ensures.session in (
      made.0,
      made.1,
      record {
        control = c.caller.inside.control;
        setup_is = its.setup;
        seats_are = its.seats;
        begins = its.begins;
        session = rw (← c.requires.greeting, ← c.greeting_at.ensures) (rw (← c.caller.view_is) at made.2);
        keeps = rw (← c.journal.ensures.entries) added;
      },
    )
