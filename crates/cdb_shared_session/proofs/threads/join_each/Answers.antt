use Rattle.std.proofs.Common.{◌≡◌, ℕ, refl, arith, [], ◌∷◌, ◌++◌, get_or, length, map, reverse}
use Rattle.std.proofs.lemmas.Grind.{common_steps}
use Rattle.std.specs.declared.thread.PromisedHandle.{PromisedHandle}
use Rattle.cdb_shared.specs.Seats.{SeatView}
use Rattle.cdb_shared.proofs.Ends.{pair_push, get_or-middle}
use Rattle.cdb_shared_session.specs.Promises.{HasRun, seats_promised, openers_promised}
use Rattle.cdb_shared_session.specs.declared.endpoint.Finished.{Finished}
use Rattle.cdb_shared_session.specs.declared.seat.SeatPromise.{SeatPromise}
use Rattle.cdb_shared_session.specs.declared.seat.SeatResult.{SeatResult}
use Rattle.cdb_shared_session.proofs.threads.join_each.Goals as goal

pub loop-handle-init : goal.loop-handle-init
loop-handle-init g c = record {
  joined = ([], refl, omega (arith, c.requires.empty.0));
  count = omega (arith, c.requires.empty.0);
  both = omega (arith, c.requires.empty.0, c.requires.empty.1);
  room = c.requires.room;
  each = λ k seat its low first opener. absurd (omega (arith, low, c.requires.empty.0, c.args.seats.ok.0));
}

pub loop-handle-preserved : goal.loop-handle-preserved
loop-handle-preserved g c =
    let was = c.loop-handle.invariant in
    let all = c.args.handles.items in
    let popped = c.in-Some.ensures.items in
    let less = c.in-Some.ensures.cases in
    let handle = c.in-Some.handle in
    let front = c.pop.new.self.items in
    let seats = c.push_reserved.ensures in
    let ends = c.push_reserved-in-Some.ensures in
    let done = was.joined.0 in
    let Handle = PromisedHandle (SeatResult g.row.R.Denot g.row.P-Seat.Denot) (SeatPromise g.row.R.Denot g.row.A.Denot g.row.P.Denot) in
    let of_seat : Handle → SeatView = λ h. h.promise.seat.value in
    let of_opener : Handle → g.row.P.Denot = λ h. h.promise.opener.value in
    let whole : reverse all ≡ done ++ (handle ∷ reverse front) = grind (arith, common_steps, was.joined.1, popped) in
    let n = length c.loop-handle.seats.items in
    let at : n ≡ length done = omega (arith, was.joined.2, c.loop-handle.seats.ok.0) in
    let Run : ℕ → SeatView → Finished g.row.P-Seat.Denot → Type 0 = λ k seat its. ((first : SeatView) (opener : g.row.P.Denot)
    → HasRun g.R.Runs.rules g.A.Answers.answers g.P.Seat.Console.known g.P.Opener.opens
    (get_or (seats_promised all) k first) (get_or (openers_promised all) k opener) seat its) in
    record {
      joined = (done ++ handle ∷ [], grind (arith, common_steps, whole), grind (arith, common_steps, was.joined.2, seats.len));
      count = omega (arith, less, seats.len, was.count);
      both = omega (arith, seats.len, ends.len, was.both);
      room = (omega (arith, seats.capacity, was.room.0), omega (arith, ends.capacity, was.room.1));
      each =
          pair_push Run c.loop-handle.seats.items _ c.loop-handle.all.items _ c.join-seat.result.seat c.join-seat.result.finished
          seats.items ends.items (omega (arith, was.both, c.loop-handle.seats.ok.0, c.loop-handle.all.ok.0)) was.each
          (λ first opener. rw (
            get_or-middle (map of_seat done) (map of_seat (reverse front)) (seats_promised all) (of_seat handle) first n
                (grind (arith, common_steps, whole)) (grind (arith, common_steps, at)),
            get_or-middle (map of_opener done) (map of_opener (reverse front)) (openers_promised all) (of_opener handle) opener n
                (grind (arith, common_steps, whole)) (grind (arith, common_steps, at)),
          ) c.join-seat.ensures);
    }

pub returns : goal.returns
returns g c =
    let was = c.loop-handle.invariant in
    let none = c.in_default.ensures.cases.0 in
    record {
      count = (omega (arith, none, was.count), omega (arith, none, was.count, was.both));
      each = λ k seat its low first opener. was.each k seat its low first opener;
    }
