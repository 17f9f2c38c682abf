use Rattle.std.proofs.Common.{ap, arith, length}
use Rattle.std.proofs.lemmas.List.{length-take}
use Rattle.std.proofs.lemmas.Result.{err_from_is_err_and}
use Rattle.cdb_session.specs.Lines.{seen_by}
use Rattle.cdb_session.specs.Styles.{stays}
use Rattle.cdb_session.specs.declared.session.Place.{Place}
use Rattle.cdb_session.proofs.CallChain.{Onward-trans}
use Rattle.cdb_session.proofs.NextState.{started, not_started, not_read, given, over_at_most, over_at_end}
use Rattle.cdb_session.proofs.repl.run_from_first.Goals as goal

pub returns-in_default-clause-all : goal.returns-in_default-clause-all
returns-in_default-clause-all g c =
    not_started g.C.Caller.answers c.args.style.now (seen_by g.C.Caller.part c.args.session.now)
    (Unit {0}) (Unit {0}) tt c.in_default.ensures

pub loop-read-init : goal.loop-read-init
loop-read-init g c = record {
  few = omega (arith, ap length c.requires.empty);
  bound = omega arith;
  lines = omega (arith, ap (λ (p : Place). p.lines) c.requires.first);
  sits = c.requires.sits;
  later = stays;
  arrives =
      rw c.requires.empty (started g.C.Caller.answers c.args.style.now (seen_by g.C.Caller.part c.args.session.now)
      (Unit {0}) (Unit {0}) tt c.requires.first c.in-Ok.ensures);
}

pub returns-in_default-read-clause-all : goal.returns-in_default-read-clause-all
returns-in_default-read-clause-all g c = not_read g.C.Caller.answers c.args.style.now c.loop-read.invariant.arrives c.in_default-read.ensures.moves

pub returns-then-count-eq0-clause-all : goal.returns-then-count-eq0-clause-all
returns-then-count-eq0-clause-all g c =
    over_at_end g.C.Caller.answers c.args.style.now c.loop-read.invariant.arrives c.in-Ok-read.count c.read.new.buffer
    c.in-Ok-read.ensures.moves c.if-count-eq0.true (seen_by g.C.Caller.part c.respond_to_last.new.session) c.respond_to_last.ensures.last

pub returns-in_err-feed-clause-all : goal.returns-in_err-feed-clause-all
returns-in_err-feed-clause-all g c =
    let p = err_from_is_err_and c.from_residual.result c.from_residual.ensures.1 in
    rw (p.1, p.2) (c.in_err-feed.ensures.feeds _ _ _ (given g.C.Caller.answers c.args.style.now c.loop-read.invariant.arrives
    c.in-Ok-read.count c.read.new.buffer c.in-Ok-read.ensures.moves (omega (arith, c.in-Ok-read.ensures.within)) c.if-count-eq0.false))

pub returns-then-branch-clause-all : goal.returns-then-branch-clause-all
returns-then-branch-clause-all g c =
    let feeds = rw c.if-branch.true at c.in_ok-feed.ensures.feeds in
    feeds _ _ _ (given g.C.Caller.answers c.args.style.now c.loop-read.invariant.arrives c.in-Ok-read.count c.read.new.buffer
    c.in-Ok-read.ensures.moves (omega (arith, c.in-Ok-read.ensures.within)) c.if-count-eq0.false)

pub loop-read-preserved : goal.loop-read-preserved
loop-read-preserved g c =
    let within = c.in-Ok-read.ensures.within in
    let feeds = rw c.if-branch.false at c.in_ok-feed.ensures.feeds in
    record {
      few = c.in_ok-feed.ensures.unfinished;
      bound = omega (arith, c.loop-read-test.true, within);
      lines = omega (arith, c.in_ok-feed.ensures.lines, c.loop-read.invariant.lines, length-take c.in-Ok-read.count c.read.new.buffer, within);
      sits = c.in_ok-feed.ensures.sits;
      later = Onward-trans g.C.Caller.later _ _ _ c.loop-read.invariant.later c.feed.ensures.later;
      arrives =
          feeds _ _ _ (given g.C.Caller.answers c.args.style.now c.loop-read.invariant.arrives c.in-Ok-read.count c.read.new.buffer
          c.in-Ok-read.ensures.moves (omega (arith, within)) c.if-count-eq0.false);
    }

pub returns-clause-all : goal.returns-clause-all
returns-clause-all g c =
    over_at_most g.C.Caller.answers c.args.style.now c.loop-read.invariant.arrives c.loop-read-test.false
    (seen_by g.C.Caller.part c.respond_to_last-2.new.session) c.respond_to_last-2.ensures.last
