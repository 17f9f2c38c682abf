-- What a seat has when its streams are open.
use Rattle.std.specs.Prelude.{ℕ, List, Result, Ok, Err}
use Rattle.cdb_session.specs.Moves.{Known}
use Rattle.cdb_streams.specs.declared.source.ReadFault.{ReadFault}
use Rattle.cdb_shared_session.specs.declared.endpoint.Endpoint.{Endpoint}

-- what is known of what its session reads from and writes to, and the prompt before each line
pub record SeatSeen : Type 0 where
  pub console : Known
  pub prompt : List ℕ

-- what is known of how the opening ended
abbrev pub seat_seen : {T : Type 0} → (T → Known) → Result (Endpoint T) ReadFault → Result SeatSeen ReadFault
seat_seen known (Ok endpoint) = Ok (record { console = known endpoint.console; prompt = endpoint.prompt.now })
seat_seen known (Err fault) = Err fault
