use Rattle.std.proofs.Common.{true, None, refl, inl, inr}
use Rattle.std.proofs.lemmas.Result.{err_from_is_err_and}
use Rattle.cdb_race.specs.Faults.{IsFaultBehind}
use Rattle.cdb_play.specs.declared.races.Open.{Open}
use Rattle.cdb_play.specs.Races.{bytes_of}
use Rattle.cdb_play.proofs.Ends.{race_unwritten_scripts}
use Rattle.cdb_streams.proofs.StreamEnds.{written_as}
use Rattle.cdb_play.proofs.RunningFaults.{both, ungated}
use Rattle.cdb_play.proofs.races.race_on.Goals as goal

pub returns-in_err-commands : goal.returns-in_err-commands
returns-in_err-commands g c =
    let p = err_from_is_err_and c.from_residual.result c.from_residual.ensures.1 in
    rw (p.1, p.2) (record {
      wrote = race_unwritten_scripts g.W.Sink.stream (Unit {0}) _ _ c.in_err-commands.field-0.0 (bytes_of c.args.scripts.now) c.in_err-commands.ensures.fault;
      agree = λ majority. tt;
      proposed = tt;
      fault = inl c.in_err-commands.ensures.fault;
    })

pub returns-clause-wrote : goal.returns-clause-wrote
returns-clause-wrote g c =
    written_as _ _ _ _ _ _ (λ text is. (_, c.in_ok-commands.ensures.read, is)) (rw c.as_slice.ensures.value at c.run_race.ensures.wrote)

pub returns-clause-fault : goal.returns-clause-fault
returns-clause-fault g c =
    both _ _ _ _
    (λ fault is none.
    inr (
      c.in_ok-commands.commands.items,
      c.in_ok-commands.ensures.read,
      ungated (IsFaultBehind g.row.T.Denot g.T.Runs.rules (λ (gate : Open). None) (λ (gate : Open). true) c.in_ok-gates.gates.items) c.args.turns
          c.args.setup c.in_ok-commands.commands.items fault is none,
    ))
    (rw c.as_slice.ensures.value at c.run_race.ensures.fault) (c.run_race.ensures.passes (λ k gate low. refl))

pub returns-in_err-gates-clause-fault : goal.returns-in_err-gates-clause-fault
returns-in_err-gates-clause-fault g c =
    let p = err_from_is_err_and c.from_residual-in_err-gates.result c.from_residual-in_err-gates.ensures.1 in
    rw (p.1, p.2) (inr (_, c.in_ok-commands.ensures.read, tt))
