-- How requests end.
use Rattle.std.specs.Prelude.{◌≡◌, ℕ, Bool, true, false, List, codes, Result, Ok, Err}
use Rattle.cdb_explain.specs.declared.fault.AnswerFault.{AnswerFault}
use Rattle.cdb_streams.specs.declared.buffer.OutputFault.{OutputFault}
use Rattle.cdb_streams.specs.declared.fault.PlayFault.{PlayFault}
use Rattle.cdb_streams.specs.declared.fault.RaceFault.{RaceFault}
use Rattle.cdb_program.specs.declared.fault.Fault.{Fault}
use Rattle.cdb_program.specs.declared.fault.Fault.TheVariants.{Play, Race, Answer, Journal, Page, Different}

-- how a request ended
abbrev pub RequestEnd : Type 0
RequestEnd = Result (Unit {0}) Fault

-- it ended as the play did, whose fault has the name of the script
abbrev pub IsOfPlay : List ℕ → Result (Unit {0}) PlayFault → RequestEnd → Type 0
IsOfPlay name (Ok done) (Ok its_done) = Unit {0}
IsOfPlay name (Err fault) (Err (Play its_fault its_name)) = (its_fault ≡ fault) × (its_name.now ≡ name)
IsOfPlay name played outcome = ⊥

-- it ended as the last writing of the page did
abbrev pub IsOfPage : Result (Unit {0}) AnswerFault → RequestEnd → Type 0
IsOfPage (Ok done) outcome = outcome ≡ Ok tt
IsOfPage (Err fault) outcome = outcome ≡ Err (Page fault)

-- it ended as the session did, and else as the keeping of its journal, and else as the page
abbrev pub IsOfSession : Result (Unit {0}) PlayFault → Result (Unit {0}) OutputFault
    → Result (Unit {0}) AnswerFault → RequestEnd → Type 0
IsOfSession (Err fault) kept shown outcome = IsOfPlay (codes "standard input") (Err fault) outcome
IsOfSession (Ok done) (Err fault) shown outcome = outcome ≡ Err (Journal fault)
IsOfSession (Ok done) (Ok kept) shown outcome = IsOfPage shown outcome

-- it ended as the race did
abbrev pub IsOfRace : Result (Unit {0}) RaceFault → RequestEnd → Type 0
IsOfRace (Ok done) (Ok its_done) = Unit {0}
IsOfRace (Err fault) (Err (Race its_fault)) = its_fault ≡ fault
IsOfRace raced outcome = ⊥

-- it ended as the answer did, whose fault has this name
abbrev pub IsOfAnswer : List ℕ → Result (Unit {0}) AnswerFault → RequestEnd → Type 0
IsOfAnswer name (Ok done) (Ok its_done) = Unit {0}
IsOfAnswer name (Err fault) (Err (Answer its_fault its_name)) = (its_fault ≡ fault) × (its_name.now ≡ name)
IsOfAnswer name answered outcome = ⊥

-- it ended well where the runs are the same, and else that they differ; a fault is that of a play
abbrev pub IsOfSame : Result Bool PlayFault → RequestEnd → Type 0
IsOfSame (Ok true) (Ok done) = Unit {0}
IsOfSame (Ok false) (Err Different) = Unit {0}
IsOfSame (Err fault) (Err (Play its_fault its_name)) = its_fault ≡ fault
IsOfSame compared outcome = ⊥
