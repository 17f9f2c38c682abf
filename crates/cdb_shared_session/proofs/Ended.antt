-- What came of a seat, by what its opener can give.
use Rattle.std.proofs.Common.{ℕ}
use Rattle.std.specs.Prelude.{Option, Some, None, Result, Ok, Err}
use Rattle.cdb_control.specs.Journal.{Journaled}
use Rattle.cdb_rules.specs.RunView.{RunView}
use Rattle.cdb_rules.specs.Rules.{Rules}
use Rattle.cdb_session.specs.Exchanges.{Answer}
use Rattle.cdb_session.specs.declared.inquiry.Inquiry.{Inquiry}
use Rattle.cdb_session.specs.Moves.{Known}
use Rattle.cdb_setup.specs.Parts.{Parts}
use Rattle.cdb_streams.specs.declared.fault.PlayFault.{PlayFault}
use Rattle.cdb_streams.specs.declared.source.ReadFault.{ReadFault}
use Rattle.cdb_shared_session.specs.Openings.{SeatSeen}
use Rattle.cdb_shared_session.specs.SharedSessions.{HasEnded}

-- where all that it can give is of this kind
pub ended_by : (rules : Parts → Rules) (Answers : RunView → Inquiry → Answer → Type 0) (begun c : Journaled) (seat : ℕ)
    (Opens Others : Result SeatSeen ReadFault → Type 0) → ((opened : Result SeatSeen ReadFault) → Opens opened → Others opened)
    → (ended : Option Known) (outcome : Result (Unit {0}) PlayFault)
    → HasEnded rules Answers begun c seat Opens ended outcome → HasEnded rules Answers begun c seat Others ended outcome
ended_by rules Answers begun c seat Opens Others of (Some ended) outcome (opened, opens, held) = (opened, of (Ok opened) opens, held)
ended_by rules Answers begun c seat Opens Others of None outcome (fault, opens, unopened) = (fault, of (Err fault) opens, unopened)
