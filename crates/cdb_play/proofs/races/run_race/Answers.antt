use Rattle.std.proofs.Common.{◌≡◌, ◌-◌, ◌∙◌, sym, ap, Err, arith, length, map, drop, rules, string_bytes}
use Rattle.std.proofs.lemmas.List.{length-map, length-take, length-drop}
use Rattle.cdb_commands.specs.ReplyView.{reply_view}
use Rattle.cdb_setup.specs.Parts.{Parts}
use Rattle.std.proofs.lemmas.Result.{err_from_is_err_and}
use Rattle.cdb_streams.specs.declared.fault.RaceFault.{RaceFault}
use Rattle.cdb_race.specs.Faults.{IsFaultBehind}
use Rattle.cdb_streams.specs.Endings.{Complete}
use Rattle.cdb_play.specs.Races.{EndsInAgreement, EndsInProposed, IsTextOfCommands}
use Rattle.cdb_play.proofs.Ends.{race_unwritten_threads, race_wrote}
use Rattle.cdb_streams.proofs.StreamEnds.{only_as}
use Rattle.cdb_play.proofs.RaceTexts.{text_of_race}
use Rattle.cdb_play.proofs.RunningFaults.{of_threads, of_writing}
use Rattle.cdb_play.proofs.Agreement.{agrees, proposes}
use Rattle.cdb_play.proofs.races.run_race.Goals as goal

pub returns-in_err-raced : goal.returns-in_err-raced
returns-in_err-raced g c =
    let p = err_from_is_err_and c.from_residual.result c.from_residual.ensures.1 in
    let said = c.in_err-raced.ensures in
    rw (p.1, p.2) (record {
      wrote = race_unwritten_threads g.W.Sink.stream (Unit {0}) _ _ _ _ said.fault;
      agree = λ majority. tt;
      proposed = tt;
      fault = of_threads _ _ _ _ _ _ _ _ _ said.fault (λ is. said.most (ap (λ (f : RaceFault). Err f) is)) said.of_one;
      passes = said.passes;
    })

pub returns-in_err-write_text : goal.returns-in_err-write_text
returns-in_err-write_text g c =
    let p = err_from_is_err_and c.from_residual-in_err-write_text.result c.from_residual-in_err-write_text.ensures.1 in
    let same : c.as_bytes.result.now ≡ string_bytes c.in_ok-text.text = search rules in
    let made = rw c.in_ok-text.was at c.text_with-made.ensures in
    rw (p.1, p.2) (record {
      wrote = race_wrote g.W.Sink.stream (Unit {0}) (IsTextOfCommands g.T.Runs.rules c.args.setup c.args.turns c.args.scripts.now) _ _ _ _
          (text_of_race c.deref.ensures.value (c.from-processes.ensures ∙ c.n.ensures.value) c.in_ok-raced.ensures.raced)
          (rw (same, made) at c.in_err-write_text.ensures);
      agree = λ majority. tt;
      proposed = tt;
      fault = of_writing (IsFaultBehind g.row.T.Denot g.T.Runs.rules g.G.Gate.calls g.G.Gate.passes c.args.gates.items)
          c.args.turns c.args.setup c.args.scripts.now c.in_err-write_text.field-0.0;
      passes = λ all. tt;
    })

pub returns : goal.returns
returns g c =
    let same : c.as_bytes.result.now ≡ string_bytes c.in_ok-text.text = search rules in
    let made = rw c.in_ok-text.was at c.text_with-made.ensures in
    let wrote = rw (same, made) at c.in_ok-write_text.ensures in
    let stream = g.W.Sink.stream in
    let raced = c.in_ok-raced.ensures.raced in
    record {
      wrote =
          only_as stream Complete _ _ _ (IsTextOfCommands g.T.Runs.rules c.args.setup c.args.turns c.args.scripts.now)
          (text_of_race c.deref.ensures.value (c.from-processes.ensures ∙ c.n.ensures.value) raced) wrote;
      agree = λ majority.
          only_as stream Complete _ _ _ EndsInAgreement
          (agrees g.T.Runs.rules g.T.Runs.same_state c.in_ok-raced.raced.control raced.setup_is c.in_ok-raced.ensures.headline _ majority) wrote;
      proposed =
          only_as stream Complete _ _ _ (EndsInProposed c.args.setup)
          (proposes g.T.Runs.rules g.T.Runs.same_state c.in_ok-raced.raced.control raced.setup_is c.in_ok-raced.ensures.headline _) wrote;
      fault = tt;
      passes = λ all. tt;
    }

-- how many lists of replies there are
pub slice_bounds-text_with-count : goal.slice_bounds-text_with-count
slice_bounds-text_with-count g c =
    let long = ap length c.deref.ensures.value ∙ sym (length-map c.in_ok-raced.raced.replies.items (λ list. map reply_view list.items)) in
    omega (arith, c.n.ensures.value, c.in_ok-raced.ensures.raced.many, c.in_ok-raced.ensures.raced.seats_are)

pub slice_bounds-text_with-start : goal.slice_bounds-text_with-start
slice_bounds-text_with-start g c = slice_bounds-text_with-count g c

pub text_with-made-requires : goal.text_with-made-requires
text_with-made-requires g c =
    let raced = c.in_ok-raced.ensures.raced in
    let long = ap length c.deref.ensures.value ∙ sym (length-map c.in_ok-raced.raced.replies.items (λ list. map reply_view list.items)) in
    let same = ap (λ (s : Parts). s.processes) raced.setup_is in
    let all = c.deref.result.now in
    let first = c.from-processes.result in
    omega (arith, c.n.ensures.value, raced.many, raced.seats_are, length-take (length all - first) (drop first all), length-drop first all)
