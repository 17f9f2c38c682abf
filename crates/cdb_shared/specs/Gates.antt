-- The calls of a gate by a session: it is asked before each call, and notified after each reply.
use Rattle.std.specs.Prelude.{◌≡◌, ◌≢◌, ℕ, ◌+◌, Bool, true, false, List, [], ◌∷◌, ◌++◌, length, Option, Some, None}
use Rattle.cdb_base.specs.Memory.{no_memory}
use Rattle.cdb_commands.specs.ReplyView.{ReplyView}
use Rattle.cdb_commands.specs.declared.command.Command.{Command}
use Rattle.cdb_rules.specs.Rules.{Rules}
use Rattle.cdb_setup.specs.Parts.{Parts}
use Rattle.cdb_shared.specs.Seats.{SeatView, IsLater, SeesFull, SeesRoom}
use Rattle.cdb_shared.specs.Sessions.{calls_of, replies_to}
use Rattle.cdb_shared.specs.declared.session.End.{End}
use Rattle.cdb_shared.specs.declared.session.End.TheVariants.{All, Done, Stopped, NoMemory, JournalFull}

-- Asked before the call of this number, and whether it let it go on; or notified after it. Beside the number stand
-- the calls that the seat had made then.
pub data GateCall : Type 0 where
  Asked : ℕ → List Command → Bool → GateCall
  Notified : ℕ → List Command → GateCall

-- calls of a gate and more of them, where they are known
abbrev pub and_calls : Option (List GateCall) → List GateCall → Option (List GateCall)
and_calls None more = None
and_calls (Some gate_calls) more = Some (gate_calls ++ more)

-- one call more
abbrev pub Adds : Option (List GateCall) → Option (List GateCall) → GateCall → Type 0
Adds old new one = new ≡ and_calls old (one ∷ [])

-- the gate is asked before a call of the seat, or notified after it
abbrev pub IsAsked : Option (List GateCall) → Option (List GateCall) → ℕ → SeatView → Bool → Type 0
IsAsked old new call seat goes_on = Adds old new (Asked call (calls_of seat) goes_on)

abbrev pub IsNotified : Option (List GateCall) → Option (List GateCall) → ℕ → SeatView → Type 0
IsNotified old new call seat = Adds old new (Notified call (calls_of seat))

-- of calls with replies, numbered from this one on, after those made before: asked for each, which goes on, and
-- notified of it
abbrev pub gate_calls_of : ℕ → List Command → List Command → List GateCall
gate_calls_of number made [] = []
gate_calls_of number made (command ∷ rest) =
    let all = made ++ command ∷ [] in
    Asked number made true ∷ Notified number all ∷ gate_calls_of (number + 1) all rest

-- of the call that a session ended at: it was asked for, and there was nothing to notify of
abbrev pub last_gate_calls : End → ℕ → List Command → List GateCall
last_gate_calls All number made = []
last_gate_calls Done number made = []
last_gate_calls Stopped number made = Asked number made false ∷ []
last_gate_calls (NoMemory refused) number made = Asked number made true ∷ []
last_gate_calls JournalFull number made = Asked number made true ∷ []

-- of a session whose calls with replies are these, numbered from 1
abbrev pub gate_calls_in : List Command → List Command → End → List GateCall
gate_calls_in made replied end =
    gate_calls_of 1 made replied ++ last_gate_calls end (length replied + 1) (made ++ replied)

-- the calls of a gate by a session that led one seat to the other
pub record CallsGate (old new : Option (List GateCall)) (before after : SeatView) (end : End) : Type 0 where
  pub replied : List Command
  pub calls : calls_of after ≡ calls_of before ++ replied
  pub gate_calls : new ≡ and_calls old (gate_calls_in (calls_of before) replied end)

-- What a session has done that led one seat to the other and ended so: it gave these commands, and had these replies.
pub record IsSession (rules : Parts → Rules) (passes : Bool) (old new : Option (List GateCall))
    (before after : SeatView) (end : End) (commands : List Command) (replies : List ReplyView) : Type 0 where
  pub seat : IsLater before after
  pub calls : calls_of after ≡ calls_of before ++ commands
  pub replied : replies_to rules after ≡ replies_to rules before ++ replies
  -- the calls of its gate; one that lets every call go on stops none
  pub gate : CallsGate old new before after end
  pub passed : passes ≡ true → end ≢ Stopped
  -- a full journal and a lack of memory end it where the seat sees a full journal, and one with room
  pub full : end ≡ JournalFull → SeesFull after
  pub short : end ≡ NoMemory no_memory → SeesRoom after
