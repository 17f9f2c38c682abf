-- The number, the name and the text of each refusal.
use Rattle.std.specs.Prelude.{ℕ, List, [], ◌++◌, codes, decimal}
use Rattle.cdb_base.specs.declared.refusal.Refusal.{Refusal}
use Rattle.cdb_base.specs.declared.refusal.Refusal.TheVariants.{NoProcess, Crashed, Done, NotNow, NoMessage}
use Rattle.cdb_base.specs.declared.refusal.Refusal.TheVariants.{Taken, BadLeader, NoAnswer, StepLimit, NoStep}
use Rattle.cdb_base.specs.declared.refusal.Refusal.TheVariants.{NeededBy, Idle, Paused, NothingToRedo, NoBreak}
use Rattle.cdb_base.specs.declared.refusal.Refusal.TheVariants.{BreakLimit, Moved, Lost, NoLoss}
use Rattle.cdb_base.specs.NameTexts.{name_text}

abbrev pub refusal_number : Refusal → ℕ
refusal_number NoProcess = 1
refusal_number Crashed = 2
refusal_number Done = 3
refusal_number NotNow = 4
refusal_number NoMessage = 5
refusal_number Taken = 6
refusal_number BadLeader = 7
refusal_number NoAnswer = 8
refusal_number StepLimit = 9
refusal_number NoStep = 10
refusal_number (NeededBy step) = 11
refusal_number Idle = 12
refusal_number (Paused b) = 13
refusal_number NothingToRedo = 14
refusal_number NoBreak = 15
refusal_number BreakLimit = 16
refusal_number Moved = 17
refusal_number Lost = 19
refusal_number NoLoss = 20

abbrev pub refusal_name : Refusal → List ℕ
refusal_name NoProcess = codes "NoProcess"
refusal_name Crashed = codes "Crashed"
refusal_name Done = codes "Done"
refusal_name NotNow = codes "NotNow"
refusal_name NoMessage = codes "NoMessage"
refusal_name Taken = codes "Taken"
refusal_name BadLeader = codes "BadLeader"
refusal_name NoAnswer = codes "NoAnswer"
refusal_name StepLimit = codes "StepLimit"
refusal_name NoStep = codes "NoStep"
refusal_name (NeededBy event) = codes "NeededBy"
refusal_name Idle = codes "Idle"
refusal_name (Paused b) = codes "Paused"
refusal_name NothingToRedo = codes "NothingToRedo"
refusal_name NoBreak = codes "NoBreak"
refusal_name BreakLimit = codes "BreakLimit"
refusal_name Moved = codes "Moved"
refusal_name Lost = codes "Lost"
refusal_name NoLoss = codes "NoLoss"

-- after a space what the refusal carries, if it carries anything
abbrev pub refusal_detail : Refusal → List ℕ
refusal_detail (NeededBy event) = codes " " ++ name_text event
refusal_detail (Paused b) = codes " " ++ decimal b
refusal_detail other = []

-- `refused N Name`, and the detail
abbrev pub refusal_text : Refusal → List ℕ
refusal_text why =
    codes "refused " ++ decimal (refusal_number why) ++ codes " "
    ++ refusal_name why ++ refusal_detail why
