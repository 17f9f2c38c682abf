use Rattle.std.proofs.Common.{◌≡◌, ℕ, List, Some, refl, inl, inr}
use Rattle.std.proofs.lemmas.Result.{err_from_is_err_and}
use Rattle.cdb_program.proofs.Seen.{stream_written, text_seen}
use Rattle.cdb_program.specs.Known.{in_memory}
use Rattle.cdb_program.proofs.replays.replay_files.Goals as goal

pub returns-in_err-json-clause-does : goal.returns-in_err-json-clause-does
returns-in_err-json-clause-does g c =
    let p = err_from_is_err_and c.from_residual.result c.from_residual.ensures.1 in
    rw (p.1, p.2, ← c.world.view_is) (refl, inl (c.in_err-json.ensures, refl))

pub returns-clause-does : goal.returns-clause-does
returns-clause-does g c =
    let json = c.in_ok-json.json.items in
    let bytes = c.in_ok-json.bytes.items in
    let said = c.replay-replayed.ensures in
    let json_is : c.as_slice.result.now ≡ json = c.as_slice.ensures.value in
    let bytes_is : c.new-entries.result ≡ bytes = c.new-entries.ensures in
    rw (← c.world.view_is) (
      refl,
      inr (
        json,
        bytes,
        c.in_ok-json.ensures.0,
        c.in_ok-json.ensures.1,
        (
          c.replay-replayed.result,
          Some c.replay-replayed.new.journal,
          c.of_play.ensures,
          rw (← json_is, ← bytes_is)
              (record {
                text =
                    text_seen (λ (bytes : List ℕ). in_memory (Some bytes)) g.O.Sink.stream (λ fault. fault) c.replay-replayed.result _ _ _
                    c.new-entries.result c.replay-replayed.new.journal _ _ said.wrote said.fault said.unread said.read;
                again = stream_written g.O.Sink.stream _ _ _ _ said.again;
              }),
        ),
      ),
    )
