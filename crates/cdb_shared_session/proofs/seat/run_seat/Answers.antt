use Rattle.std.proofs.Common.{subst, ◌∙◌}
use Rattle.cdb_session.specs.Styles.{StyleView}
use Rattle.cdb_shared_session.specs.Promises.{RunsSeat}
use Rattle.cdb_shared_session.proofs.AllSeats.{same_style}
use Rattle.cdb_shared_session.proofs.seat.run_seat.Goals as goal

pub returns : goal.returns
returns g c =
    let prompt = c.in-Ok.endpoint.prompt.now in
    let before = c.args.seat in
    let after = c.run_styled-seat.result.0 in
    let number = c.number_at.ensures c.number-first.result (c.as_bytes-number.ensures.value ∙ c.format.ensures.text) in
    let same =
    same_style prompt c.args.welcome.greeting.now c.greeting_at.result.now c.number_at.result.now c.args.welcome.seats c.number-first.result before after
    c.run_styled-seat.ensures.later c.requires.greeting c.requires.seats c.greeting_at.ensures number c.number-first.ensures.number in
    let known = g.P.Seat.Console.known in
    record {
      later = c.run_styled-seat.ensures.later;
      served = (
        record { console = known c.in-Ok.endpoint.console; prompt = prompt },
        c.in-Ok.ensures,
        subst (λ (style : StyleView). RunsSeat g.R.Runs.rules g.A.Answers.answers style before after c.run_styled-seat.result.1
            (known c.in-Ok.endpoint.console) (known c.run_styled-seat.new.console)) same c.run_styled-seat.ensures.session,
      );
    }
