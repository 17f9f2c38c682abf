use Rattle.std.specs.Prelude.{Err}
use Rattle.std.proofs.lemmas.Result.{err_from_is_err_and}
use Rattle.cdb_session.proofs.MovesInOrder.{both_texts_said, first_text_cut_off}
use Rattle.cdb_session.proofs.repl.write_opening.Goals as goal

pub returns-in_err-write_all : goal.returns-in_err-write_all
returns-in_err-write_all g c =
    let p = err_from_is_err_and c.from_residual.result c.from_residual.ensures.1 in
    let now = g.T.Console.known c.write_all.new.console in
    rw (p.1, ← c.style.view_is)
    (first_text_cut_off (Unit {0}) (Unit {0}) (g.T.Console.known c.args.console.now) now now c.style.inside.greeting.now _
    (Unit {0}) (Unit {0}) tt tt c.in_err-write_all.ensures)

pub returns-in_err-write_all-2 : goal.returns-in_err-write_all-2
returns-in_err-write_all-2 g c =
    let p = err_from_is_err_and c.from_residual-in_err-write_all-2.result c.from_residual-in_err-write_all-2.ensures.1 in
    let known = g.T.Console.known in
    let now = known c.write_all-2.new.console in
    rw (p.1, ← c.style.view_is)
    (both_texts_said (Unit {0}) (Unit {0}) (known c.args.console.now) (known c.write_all.new.console) now c.style.inside.greeting.now _
    (Unit {0}) (Unit {0}) (Err tt) tt c.in_ok-write_all.ensures (first_text_cut_off (Unit {0}) (Unit {0}) (known c.write_all.new.console) now now
    c.style.inside.number.now _ (Unit {0}) (Unit {0}) tt tt c.in_err-write_all-2.ensures))

pub returns : goal.returns
returns g c =
    let known = g.T.Console.known in
    let mid = known c.write_all.new.console in
    let now = known c.write_all-3.new.console in
    rw (← c.style.view_is)
    (both_texts_said (Unit {0}) (Unit {0}) (known c.args.console.now) mid now c.style.inside.greeting.now _ _ _ c.write_all-3.result tt
    c.in_ok-write_all.ensures (both_texts_said (Unit {0}) (Unit {0}) mid (known c.write_all-2.new.console) now c.style.inside.number.now _ _ _
    c.write_all-3.result tt c.in_ok-write_all-2.ensures c.write_all-3.ensures))
