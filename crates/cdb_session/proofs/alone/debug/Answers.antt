use Rattle.std.proofs.Common.{◌≡◌, ℕ, List, [], arith, inl, inr, length, refl, ap, subst, ◌∙◌}
use Rattle.std.proofs.lemmas.Result.{err_from_is_err_and}
use Rattle.cdb_control.specs.Journal.{Journaled}
use Rattle.cdb_journal.proofs.RepliesToSeats.{read_few}
use Rattle.cdb_session.specs.Alone.{nine, whole_part}
use Rattle.cdb_session.specs.Greetings.{greeting_at, greeting_text}
use Rattle.cdb_session.specs.Served.{HoldsSession}
use Rattle.cdb_session.proofs.MovesInOrder.{Makes-nothing}
use Rattle.cdb_session.proofs.OwnControl.{later_control}
use Rattle.cdb_session.proofs.alone.debug.Goals as goal

pub returns-in_err-begun : goal.returns-in_err-begun
returns-in_err-begun g c =
    let p = err_from_is_err_and c.from_residual.result c.from_residual.ensures.1 in
    rw (p.1, p.2) ([], Makes-nothing _, inl (c.in_err-begun.ensures.fault, refl))

pub returns : goal.returns
returns g c =
    let first = c.in_ok-begun.begun.0 in
    let last = c.run-own.result.0 in
    let (setup, encodes, opened, greets) = c.in_ok-begun.ensures.begun in
    let (before, lines, is) = opened in
    let rules = g.R.Runs.rules in
    let prompt = c.args.prompt.now in
    let greeted : c.greeting_at.result.now ≡ greeting_at prompt (greeting_text setup) =
    c.greeting_at.ensures ∙ ap (greeting_at prompt) (c.as_slice.ensures.value ∙ greets) in
    let ran =
    subst (λ (greeting : List ℕ). HoldsSession g.A.Answers.answers (nine greeting prompt) (whole_part rules first) (whole_part rules last)
    c.run-own.result.1 (g.T.Console.known c.args.console.now) (g.T.Console.known c.run-own.new.console)) greeted c.run-own.ensures.session in
    let few = read_few before c.args.from.now lines.0 in
    let its = later_control first last (omega (arith, ap (λ (c : Journaled). length c.journal) is, few)) c.run-own.ensures.later in (
      ran.0,
      ran.1,
      inr (record {
        setup = setup;
        encodes = encodes;
        begun = first;
        goes_on = opened;
        control = last;
        setup_is = its.setup ∙ ap (λ (c : Journaled). c.setup) is;
        seats_are = its.seats ∙ ap (λ (c : Journaled). c.seats) is;
        begins = its.begins;
        few = its.few;
        session = ran.2;
      }),
    )
