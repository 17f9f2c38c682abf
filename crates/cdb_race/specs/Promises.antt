-- What a started thread promises, and what it hands back.
use Rattle.std.specs.Prelude.{◌≡◌, ◌≢◌, ◌≤◌, Bool, true, List, [], All, Option, map, reverse}
use Rattle.std.specs.declared.thread.PromisedHandle.{PromisedHandle}
use Rattle.cdb_commands.specs.ReplyView.{reply_view}
use Rattle.cdb_race.specs.Runs.{HasRun}
use Rattle.cdb_race.specs.declared.worker.Ran.{Ran}
use Rattle.cdb_race.specs.declared.worker.SeatPromise.{SeatPromise}
use Rattle.cdb_rules.specs.Rules.{Rules}
use Rattle.cdb_setup.specs.Parts.{Parts}
use Rattle.cdb_shared.specs.Gates.{GateCall, CallsGate}
use Rattle.cdb_shared.specs.Seats.{SeatView, RestsAt}
use Rattle.cdb_shared.specs.declared.session.End.{End}
use Rattle.cdb_shared.specs.declared.session.End.TheVariants.{Stopped}
use Rattle.atomic_table.specs.Seated.{TableId}
use Rattle.cdb_race.specs.Plans.{seats_of, Plan}

-- a promise of this seat, with this gate, by this plan
pub record IsPromise {T G : Type 0} (plan : Plan) (seat : SeatView)
    (gate : G) (promise : SeatPromise T G) : Type 0 where
  pub plan_is : promise.plan ≡ plan
  pub seat_is : promise.seat.value ≡ seat
  pub gate_is : promise.gate.value ≡ gate

-- each of the handles promises that of a seat and its gate, the last seat's first
pub record ArePromised {T G : Type 0} (plan : Plan) (seats : List SeatView) (gates : List G)
    (handles : List (PromisedHandle (Ran T) (SeatPromise T G))) : Type 0 where
  pub plan_is : All (λ handle. handle.promise.plan ≡ plan) handles
  pub seats_are : map (λ handle. handle.promise.seat.value) handles ≡ reverse seats
  pub gates_are : map (λ handle. handle.promise.gate.value) handles ≡ reverse gates

-- what the seat's thread hands back says what the seat has done
abbrev pub HasRan : {T : Type 0} → (Parts → Rules) → Plan → SeatView → Ran T → Type 0
HasRan rules plan before ran = HasRun rules plan before ran.seat (map reply_view ran.replies.items) ran.end

-- how a session ended: these were its calls of the gate, and a gate that lets all calls go on has stopped none
pub record HasEndedAtGate {G : Type 0} (gate_calls : G → Option (List GateCall))
    (passes : G → Bool) (gate : G) (before after : SeatView) (end : End) : Type 0 where
  pub last : G
  pub calls : CallsGate (gate_calls gate) (gate_calls last) before after end
  pub passed : passes gate ≡ true → end ≢ Stopped

-- a seat of the plan that has seen nothing yet
pub record IsReady (shared : TableId) (plan : Plan) (seat : SeatView) : Type 0 where
  pub rests : RestsAt shared seat
  pub new : seat.seen ≡ []
  pub planned : seat.number ≤ seats_of plan
