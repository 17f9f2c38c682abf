-- The explanation of a step: what led to it, as text.
use Rattle.std.specs.Prelude.{◌≡◌, ℕ, ◌-◌, List, [], ◌++◌, codes, decimal, length, take}
use Rattle.std.specs.Prelude.{Option, Some, None, Result, Ok, Err, Bool}
use Rattle.std.specs.List.{flat_map}
use Rattle.std.specs.Option.{option_map_or}
use Rattle.cdb_base.specs.Event.{event_name}
use Rattle.cdb_base.specs.Positions.{nth}
use Rattle.cdb_base.specs.declared.event.Event.{Event}
use Rattle.cdb_base.specs.declared.event.Event.TheVariants.{Step, Lost}
use Rattle.cdb_base.specs.declared.event.Kind.{Kind}
use Rattle.cdb_base.specs.declared.event.Kind.TheVariants.{Send, Recv, Read, Write}
use Rattle.cdb_base.specs.declared.name.StepId.{StepId}
use Rattle.cdb_base.specs.declared.payload.Payload.{Payload}
use Rattle.cdb_base.specs.declared.refusal.Refusal.{Refusal}
use Rattle.cdb_base.specs.declared.register.Cell.{Cell}
use Rattle.cdb_base.specs.declared.register.Reg.{Reg}
use Rattle.cdb_base.specs.declared.register.Reg.TheVariants.{R, Dec}
use Rattle.cdb_control.specs.Commands.{decides}
use Rattle.cdb_deeds.specs.Deeds.{deed_in}
use Rattle.cdb_deeds.specs.declared.deed.Deed.{Deed}
use Rattle.cdb_deeds.specs.declared.deed.Deed.TheVariants.{Nothing}
use Rattle.cdb_explain.specs.Asked.{IsStepAsked}
use Rattle.cdb_explain.specs.DeedTexts.{deed_text}
use Rattle.cdb_explain.specs.Flagged.{flagged_of_first}
use Rattle.cdb_explain.specs.declared.line.Causes.{Causes}
use Rattle.cdb_explain.specs.declared.line.Causes.TheVariants.{Shown, Hidden}
use Rattle.cdb_message.specs.Mail.{message_name, payload_of}
use Rattle.cdb_rules.specs.Flags.{FlagsPast}
use Rattle.cdb_rules.specs.ByRules.{cell_in, mail_in}
use Rattle.cdb_rules.specs.RunView.{RunView}
use Rattle.cdb_rules.specs.Rules.{Rules}
use Rattle.cdb_rules.specs.Runs.{causes_in, with_history}
use Rattle.cdb_setup.specs.Parts.{Parts}
use Rattle.cdb_text.specs.Events.{event_text}
use Rattle.cdb_text.specs.Reports.{causes_text, payload_text, value_text}
use Rattle.cdb_text.specs.Texts.{decides_text}

-- ---- what a step carries

-- the payload of a message, after a space
abbrev pub message_detail : Option Payload → List ℕ
message_detail None = []
message_detail (Some payload) = codes " " ++ payload_text payload

-- what a register holds, after a space, as `show regs` prints it
abbrev pub cell_detail : Reg → Option Cell → List ℕ
cell_detail register None = []
cell_detail (R p) (Some cell) =
    codes " lre " ++ decimal cell.lre ++ codes " lrww " ++ decimal cell.lrww
    ++ codes " val " ++ value_text cell.val
cell_detail Dec (Some cell) = codes " " ++ value_text cell.val

-- what a step of process p of that kind sent or received, read or wrote, where the run stands after it
abbrev pub kind_detail : (Parts → Rules) → RunView → ℕ → Kind → List ℕ
kind_detail rules run p (Send m) = message_detail (payload_of (mail_in rules run) (message_name p m))
kind_detail rules run p (Recv s m) = message_detail (payload_of (mail_in rules run) (message_name s m))
kind_detail rules run p (Read register) = cell_detail register (cell_in rules run register)
kind_detail rules run p (Write register) = cell_detail register (cell_in rules run register)
kind_detail rules run p kind = []

abbrev pub detail_text : (Parts → Rules) → RunView → Event → List ℕ
detail_text rules run (Step p k kind) = kind_detail rules run p kind
detail_text rules run (Lost copy) = []

-- the direct causes of a standing event, as `why` prints them
abbrev pub because_text : Result (List StepId) Refusal → List ℕ
because_text (Ok causes) = codes " because" ++ causes_text causes
because_text (Err why) = []

-- those of an event of the run, where they are shown
abbrev pub shown_causes : Causes → RunView → Event → List ℕ
shown_causes Shown run event = because_text (causes_in run (event_name event))
shown_causes Hidden run event = []

-- ---- a line for each event

-- the run once it had come to the event at that position
abbrev pub run_after : RunView → ℕ → RunView
run_after run position = with_history run (take position run.history)

-- what that event did, in the run before it
abbrev pub deed_at : RunView → ℕ → Deed
deed_at run position = option_map_or (deed_in (run_after run (position - 1))) (nth run.history position) Nothing

-- the whole text of an event that did that, where the run stands so after it: as `show history` prints it, what it
-- carries and decides, what it did, and its direct causes where they are shown
abbrev pub whole_text : (Parts → Rules) → Causes → RunView → Deed → RunView → Event → List ℕ
whole_text rules causes run did after event =
    event_text event ++ detail_text rules after event
    ++ decides_text (decides (rules after.setup) after.history event) ++ deed_text did ++ shown_causes causes run event

-- the same as a line
abbrev pub line_text : (Parts → Rules) → Causes → RunView → Deed → RunView → Event → List ℕ
line_text rules causes run did after event = whole_text rules causes run did after event ++ codes "\n"

-- the line of the event at that position, where one stands there
abbrev pub line_at : (Parts → Rules) → Causes → RunView → ℕ → List ℕ
line_at rules causes run position =
    option_map_or (line_text rules causes run (deed_at run position) (run_after run position))
    (nth run.history position) []

-- `N of M standing events`
abbrev pub count_text : ℕ → ℕ → List ℕ
count_text count all =
    decimal count ++ codes " of " ++ decimal all ++ codes " standing" ++ codes " events\n"

-- the lines of the flagged events, in the order of the history, and how many they are of how many
abbrev pub events_text : (Parts → Rules) → Causes → RunView → List Bool → List ℕ
events_text rules causes run flags = flat_map (line_at rules causes run) (flagged_of_first (length run.history) flags)

abbrev pub flagged_text : RunView → List Bool → List ℕ
flagged_text run flags = count_text (length (flagged_of_first (length run.history) flags)) (length run.history)

abbrev pub lines_text : (Parts → Rules) → RunView → List Bool → List ℕ
lines_text rules run flags = events_text rules Shown run flags ++ flagged_text run flags

-- The text is that of what led to the event at that position: of that event, and of each from which a
-- chain of dependences leads to it, with what they did and their causes.
abbrev pub IsExplanation : (Parts → Rules) → RunView → ℕ → List ℕ → Type 0
IsExplanation rules run position text =
    (flags : List Bool) × FlagsPast run.history position flags × (text ≡ lines_text rules run flags)

-- the text is the explanation of that step: of p.k, or without k of the last standing step of p
abbrev pub IsStepExplained : (Parts → Rules) → RunView → ℕ → Option ℕ → List ℕ → Type 0
IsStepExplained rules run p k text =
    (position : ℕ) × IsStepAsked run.history p k position × IsExplanation rules run position text
