use Rattle.std.proofs.Common.{◌≡◌, take, ◌+◌, ◌∷◌, ◌++◌, [], List, ℕ, sym, ap, append-nil, arith, length, length-append}
use Rattle.std.proofs.lemmas.List.{length-take}
use Rattle.std.proofs.lemmas.Result.{err_from_is_err_and}
use Rattle.cdb_setup.specs.Format.{longest}
use Rattle.cdb_session.specs.Lines.{seen_by}
use Rattle.cdb_session.specs.Styles.{stays}
use Rattle.cdb_session.specs.declared.session.Place.{Place}
use Rattle.cdb_session.proofs.CallChain.{Onward-trans}
use Rattle.cdb_session.proofs.NextState.{memory_out, holds, responds, quits, fails}
use Rattle.cdb_session.proofs.feed.feed.Goals as goal

pub loop-line-init : goal.loop-line-init
loop-line-init g c =
    record { few = c.requires.unfinished; lines = omega arith; sits = c.requires.sits; later = stays; goes = λ begun first read a. a }

pub returns-in_err-hold-clause-feeds : goal.returns-in_err-hold-clause-feeds
returns-in_err-hold-clause-feeds g c =
    let p = err_from_is_err_and c.from_residual.result c.from_residual.ensures.1 in
    rw (p.1, p.2) (λ begun first read a. memory_out (c.loop-line.invariant.goes begun first read a))

pub returns-in_err-respond_to_line-clause-feeds : goal.returns-in_err-respond_to_line-clause-feeds
returns-in_err-respond_to_line-clause-feeds g c =
    let p = err_from_is_err_and c.from_residual-in_err-respond_to_line.result c.from_residual-in_err-respond_to_line.ensures.1 in
    let some = c.in-Some.ensures.some in
    rw (p.1, p.2) (λ begun first read a. fails (holds (c.loop-line.invariant.goes begun first read a) _ (10 ∷ c.in-Some.behind.now) c.hold.new.unfinished.items
    some.1 some.0 c.in_ok-hold.ensures) c.in_err-respond_to_line.field-0.0 (seen_by g.C.Caller.part c.respond_to_line.new.session)
    c.respond_to_line.new.unfinished.items c.in_err-respond_to_line.ensures.unfinished)

pub returns-then-branch-clause-feeds : goal.returns-then-branch-clause-feeds
returns-then-branch-clause-feeds g c = λ begun first read a.
    let some = c.in-Some.ensures.some in
    quits (holds (c.loop-line.invariant.goes begun first read a) _ (10 ∷ c.in-Some.behind.now) c.hold.new.unfinished.items some.1 some.0 c.in_ok-hold.ensures)
    c.in_ok-respond_to_line.field-0 c.in_ok-respond_to_line.ensures.unfinished c.if-branch.true

pub loop-line-preserved : goal.loop-line-preserved
loop-line-preserved g c =
    let some = c.in-Some.ensures.some in
    let done = c.in_ok-respond_to_line.ensures.unfinished in
    record {
      few = omega (arith, ap length done.1.emptied);
      lines = omega (
        arith,
        c.loop-line.invariant.lines,
        ap (λ (p : Place). p.lines) done.0.place,
        ap length some.1,
        length-append c.in-Some.line.now (10 ∷ c.in-Some.behind.now),
      );
      sits = c.in_ok-respond_to_line.ensures.sits;
      later = Onward-trans g.C.Caller.later _ _ _ c.loop-line.invariant.later c.respond_to_line.ensures.later;
      goes = λ begun first read a.
          responds (holds (c.loop-line.invariant.goes begun first read a) _ (10 ∷ c.in-Some.behind.now) c.hold.new.unfinished.items some.1 some.0
          c.in_ok-hold.ensures) c.in_ok-respond_to_line.field-0 c.in_ok-respond_to_line.ensures.unfinished c.if-branch.false;
    }

pub returns-in_err-hold-2-clause-feeds : goal.returns-in_err-hold-2-clause-feeds
returns-in_err-hold-2-clause-feeds g c =
    let p = err_from_is_err_and c.from_residual-in_err-hold-2.result c.from_residual-in_err-hold-2.ensures.1 in
    rw (p.1, p.2) (λ begun first read a. memory_out (c.loop-line.invariant.goes begun first read a))

pub returns-clause-feeds : goal.returns-clause-feeds
returns-clause-feeds g c = λ begun first read a.
    let rest = c.loop-line.rest.now in
    holds (c.loop-line.invariant.goes begun first read a) rest [] c.hold-2.new.unfinished.items
    (sym (append-nil rest)) c.in_default.ensures.none c.in_ok-hold-2.ensures

pub returns-clause-unfinished : goal.returns-clause-unfinished
returns-clause-unfinished g c =
    let more : List ℕ = c.loop-line.unfinished.items ++ c.loop-line.rest.now in
    let held : c.hold-2.new.unfinished.items ≡ take (longest + 1) more = c.in_ok-hold-2.ensures in
    omega (arith, ap length held, length-take (longest + 1) more)
