-- The texts of what is shown: processes, registers, mail, history and decisions.
use Rattle.std.specs.Prelude.{ℕ, ◌+◌, Bool, List, [], ◌∷◌, ◌++◌, codes, decimal, Option, Some, None, if◌then◌else◌}
use Rattle.std.specs.List.{flat_map}
use Rattle.cdb_base.specs.declared.event.Event.{Event}
use Rattle.cdb_base.specs.declared.name.MsgName.{MsgName}
use Rattle.cdb_base.specs.declared.name.StepId.{StepId}
use Rattle.cdb_base.specs.declared.payload.Payload.{Payload}
use Rattle.cdb_base.specs.declared.payload.Payload.TheVariants.{P1, P2, D}
use Rattle.cdb_base.specs.declared.register.Cell.{Cell}
use Rattle.cdb_base.specs.declared.proc_view.ProcView.{ProcView}
use Rattle.cdb_text.specs.Events.{event_text}
use Rattle.cdb_base.specs.NameTexts.{message_text, name_text}

-- a value, or `none`
abbrev pub value_text : Option ℕ → List ℕ
value_text None = codes "none"
value_text (Some v) = decimal v

-- ---- a process

abbrev pub machine_letter : Bool → List ℕ
machine_letter alpha = if alpha then codes "A" else codes "L"

abbrev pub life_word : Bool → List ℕ
life_word alive = if alive then codes "alive" else codes "crashed"

-- `process P PLACE round R alive steps C queries Q decision V`
abbrev pub process_text : ProcView → List ℕ
process_text view =
    codes "process " ++ decimal view.p
    ++ codes " " ++ machine_letter view.alpha ++ decimal view.place
    ++ codes " round " ++ decimal view.round
    ++ codes " " ++ life_word view.alive
    ++ codes " steps " ++ decimal view.steps
    ++ codes " queries " ++ decimal view.queries
    ++ codes " decision " ++ value_text view.decision ++ codes "\n"

-- ---- causes

abbrev pub cause_text : StepId → List ℕ
cause_text name = codes " " ++ name_text name

-- each cause after a space, or ` none`
abbrev pub causes_text : List StepId → List ℕ
causes_text [] = codes " none"
causes_text (name ∷ names) = flat_map cause_text (name ∷ names)

-- ---- the history

abbrev pub event_line : Event → List ℕ
event_line event = event_text event ++ codes "\n"

-- each event in a line, or `no steps`
abbrev pub history_text : List Event → List ℕ
history_text [] = codes "no steps\n"
history_text (event ∷ events) = flat_map event_line (event ∷ events)

-- ---- the mail

abbrev pub payload_text : Payload → List ℕ
payload_text (P1 round est lead) =
    codes "p1 " ++ decimal round ++ codes " " ++ decimal est ++ codes " " ++ decimal lead
payload_text (P2 round aux) = codes "p2 " ++ decimal round ++ codes " " ++ value_text aux
payload_text (D est) = codes "d " ++ decimal est

-- `to P S#M PAYLOAD`
abbrev pub copy_line : ℕ × MsgName × Payload → List ℕ
copy_line copy =
    codes "to " ++ decimal copy.0 ++ codes " " ++ message_text (copy.1).s (copy.1).m
    ++ codes " " ++ payload_text copy.2 ++ codes "\n"

-- each copy in a line, or `no mail`
abbrev pub mail_text : List (ℕ × MsgName × Payload) → List ℕ
mail_text [] = codes "no mail\n"
mail_text (copy ∷ copies) = flat_map copy_line (copy ∷ copies)

-- ---- decisions

abbrev pub decision_text : ℕ × ℕ → List ℕ
decision_text pair = codes " " ++ decimal pair.0 ++ codes "=" ++ decimal pair.1

-- `decisions` and then each decision after a space, or `decisions none`
abbrev pub decisions_text : List (ℕ × ℕ) → List ℕ
decisions_text [] = codes "decisions none\n"
decisions_text (pair ∷ pairs) =
    codes "decisions" ++ flat_map decision_text (pair ∷ pairs) ++ codes "\n"

-- ---- registers

-- `rI lre A lrww B val V`
abbrev pub register_line : ℕ → Cell → List ℕ
register_line i cell =
    codes "r" ++ decimal i
    ++ codes " lre " ++ decimal cell.lre
    ++ codes " lrww " ++ decimal cell.lrww
    ++ codes " val " ++ value_text cell.val ++ codes "\n"

-- `dec V`
abbrev pub decision_line : Cell → List ℕ
decision_line cell = codes "dec " ++ value_text cell.val ++ codes "\n"

-- the registers from number i on, the last of which is the one of the decision
abbrev pub registers_from : ℕ → List Cell → List ℕ
registers_from i [] = []
registers_from i (cell ∷ []) = decision_line cell
registers_from i (cell ∷ next ∷ cells) =
    register_line i cell ++ registers_from (i + 1) (next ∷ cells)

-- each register in a line, or `no registers`
abbrev pub registers_text : List Cell → List ℕ
registers_text [] = codes "no registers\n"
registers_text (cell ∷ cells) = registers_from 1 (cell ∷ cells)
