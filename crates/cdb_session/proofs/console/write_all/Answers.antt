use Rattle.std.proofs.Common.{◌-◌, List, ℕ, arith, refl, ap, length, take, drop}
use Rattle.std.proofs.lemmas.List.{length-drop, length-take}
use Rattle.std.proofs.lemmas.Result.{err_from_is_err_and}
use Rattle.cdb_session.specs.Moves.{Wrote, WriteFailed, says}
use Rattle.cdb_session.proofs.MovesInOrder.{nothing_said, piece_said, cut_off}
use Rattle.cdb_session.proofs.console.write_all.Goals as goal

pub returns-in_err-count : goal.returns-in_err-count
returns-in_err-count g c =
    let p = err_from_is_err_and c.from_residual.result c.from_residual.ensures.1 in
    rw p.1 (cut_off _ _ _ c.args.bytes.now c.loop-done.done c.loop-done.invariant.said
    (Unit {0}) (Unit {0}) tt WriteFailed tt (λ asks. asks) refl c.in_err-count.ensures.moves)

pub returns-then-count-eq0 : goal.returns-then-count-eq0
returns-then-count-eq0 g c =
    let bytes = c.args.bytes.now in
    let done = c.loop-done.done in
    let piece : List ℕ = take (length bytes - done) (drop done bytes) in
    let none = ap (λ n. take n piece) c.if-count-eq0.true in
    cut_off _ _ _ bytes done c.loop-done.invariant.said (Unit {0}) (Unit {0}) tt
    (Wrote (take c.in_ok-count.count piece)) none (λ asks. asks) (ap says none) c.in_ok-count.ensures.moves

pub loop-done-init : goal.loop-done-init
loop-done-init g c = record { within = omega arith; said = nothing_said _ _ }

pub loop-done-preserved : goal.loop-done-preserved
loop-done-preserved g c =
    let bytes = c.args.bytes.now in
    let done = c.loop-done.done in
    record {
      within = omega (arith, c.in_ok-count.ensures.within, length-take (length bytes - done) (drop done bytes), length-drop done bytes);
      said = piece_said _ _ _ bytes done c.loop-done.invariant.said c.in_ok-count.count c.in_ok-count.ensures.moves;
    }
