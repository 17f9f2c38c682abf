use Rattle.std.proofs.Common.{inl, inr, refl}
use Rattle.std.proofs.lemmas.Result.{err_from_is_err_and, IfErr-weaker}
use Rattle.cdb_race.specs.Faults.{IsFaultBehind}
use Rattle.cdb_play.specs.Races.{bytes_of}
use Rattle.cdb_play.proofs.Ends.{race_unwritten_setup, race_unwritten_scripts}
use Rattle.cdb_streams.proofs.StreamEnds.{written_as}
use Rattle.cdb_play.proofs.RunningFaults.{of_race, of_setup_read, not_of_reading}
use Rattle.cdb_play.proofs.SeatsFit.{same_setup}
use Rattle.cdb_play.proofs.races.race_with.Goals as goal

pub returns-in_err-parts : goal.returns-in_err-parts
returns-in_err-parts g c =
    let p = err_from_is_err_and c.from_residual.result c.from_residual.ensures.1 in
    rw (p.1, p.2) (record {
      wrote = race_unwritten_setup g.W.Sink.stream (Unit {0}) _ _ c.in_err-parts.field-0.0;
      agree = λ majority. tt;
      proposed = λ parts encodes. tt;
      fault = of_setup_read (IsFaultBehind g.row.T.Denot g.T.Runs.rules g.G.Gate.calls g.G.Gate.passes c.args.gates.items)
          c.args.turns c.args.setup.now (bytes_of c.args.scripts.now) c.in_err-parts.field-0.0 c.in_err-parts.ensures.fault
          (λ long. cc (c.in_err-parts.ensures.too_long long));
      passes = λ all. tt;
    })

pub returns-in_err-commands : goal.returns-in_err-commands
returns-in_err-commands g c =
    let p = err_from_is_err_and c.from_residual-in_err-commands.result c.from_residual-in_err-commands.ensures.1 in
    rw (p.1, p.2) (record {
      wrote = race_unwritten_scripts g.W.Sink.stream (Unit {0}) _ _ c.in_err-commands.field-0.0 (bytes_of c.args.scripts.now) c.in_err-commands.ensures.fault;
      agree = λ majority. tt;
      proposed = λ parts encodes. tt;
      fault = of_race (IsFaultBehind g.row.T.Denot g.T.Runs.rules g.G.Gate.calls g.G.Gate.passes c.args.gates.items) _ _ _ _
          c.in_ok-parts.ensures.found _ (inl c.in_err-commands.ensures.fault);
      passes = λ all. not_of_reading _ _ c.in_err-commands.ensures.fault;
    })

pub returns-clause-wrote : goal.returns-clause-wrote
returns-clause-wrote g c =
    written_as _ _ _ _ _ _ (λ text is. (c.in_ok-parts.parts, c.in_ok-parts.ensures.found, (_, c.in_ok-commands.ensures.read, is)))
    (rw c.as_slice.ensures.value at c.run_race.ensures.wrote)

pub returns-clause-fault : goal.returns-clause-fault
returns-clause-fault g c =
    IfErr-weaker _ _ _ (λ fault is.
    of_race (IsFaultBehind g.row.T.Denot g.T.Runs.rules g.G.Gate.calls g.G.Gate.passes c.args.gates.items) _ _ _ _
    c.in_ok-parts.ensures.found fault (inr (_, c.in_ok-commands.ensures.read, is))) (rw c.as_slice.ensures.value at c.run_race.ensures.fault)

pub returns-clause-proposed : goal.returns-clause-proposed
returns-clause-proposed g c = λ parts encodes. rw (← same_setup _ _ _ refl (c.in_ok-parts.ensures.only parts encodes)) c.run_race.ensures.proposed

pub returns-clause-agree : goal.returns-clause-agree
returns-clause-agree g c = λ so.
    c.run_race.ensures.agree (rw (same_setup _ _ _ refl (c.in_ok-parts.ensures.only so.0 so.1)) so.2)
