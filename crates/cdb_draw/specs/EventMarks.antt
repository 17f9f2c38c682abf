-- The marks of a picture: one for each event, on the lane of its process, with its name and its whole text. What stands
-- at a mark is at most as wide as a column: three rows above it, and two below it, with the value that it carries, the
-- leader and the round, or what it did in two words. A write has the value that its register then holds on the lane of
-- the register.
use Rattle.std.specs.Prelude.{ℕ, List, [], ◌∷◌, ◌++◌, codes, decimal, Option, None, Some}
use Rattle.std.specs.List.{concat}
use Rattle.std.specs.Option.{option_map_or}
use Rattle.cdb_base.specs.Positions.{nth}
use Rattle.cdb_base.specs.declared.event.Event.{Event}
use Rattle.cdb_base.specs.declared.event.Event.TheVariants.{Step, Lost}
use Rattle.cdb_base.specs.declared.event.Kind.{Kind}
use Rattle.cdb_base.specs.declared.event.Kind.TheVariants.{Query, Send, Recv, Read, Write, Local, Learn, Crash}
use Rattle.cdb_base.specs.declared.payload.Payload.{Payload}
use Rattle.cdb_base.specs.declared.payload.Payload.TheVariants.{P1, P2, D}
use Rattle.cdb_base.specs.declared.register.Cell.{Cell}
use Rattle.cdb_base.specs.declared.register.Reg.{Reg}
use Rattle.cdb_base.specs.NameTexts.{message_text, register_text, step_text}
use Rattle.cdb_control.specs.Commands.{decides}
use Rattle.cdb_deeds.specs.declared.deed.Deed.{Deed}
use Rattle.cdb_deeds.specs.declared.deed.Deed.TheVariants.{Settles, Adopts, Keeps, Learns, Votes, VotesNone}
use Rattle.cdb_deeds.specs.declared.deed.Deed.TheVariants.{SettlesRegister, SettlesInput, GivesUp, Carries, Round}
use Rattle.cdb_explain.specs.Explanations.{deed_at, run_after, whole_text}
use Rattle.cdb_explain.specs.declared.line.Causes.TheVariants.{Shown}
use Rattle.cdb_message.specs.Mail.{MailState, message_name, payload_of}
use Rattle.cdb_rules.specs.ByRules.{cell_in, mail_in}
use Rattle.cdb_rules.specs.RunView.{RunView}
use Rattle.cdb_rules.specs.Rules.{Rules}
use Rattle.cdb_setup.specs.Parts.{Parts}
use Rattle.cdb_text.specs.Reports.{value_text}
use Rattle.cdb_draw.specs.Arrows.{register_spot}
use Rattle.cdb_draw.specs.Layout.{spot, Grid}
use Rattle.cdb_draw.specs.Ways.{point_text}
use Rattle.cdb_draw.specs.Weights.{weight_at, weight_text, Weight}

-- what a step does, in a word, which names the shape of its mark too, and with what: the message or the register
abbrev pub kind_texts : ℕ → Kind → List ℕ × List ℕ
kind_texts p (Query leader) = (codes "query", [])
kind_texts p (Send m) = (codes "send", message_text p m)
kind_texts p (Recv s m) = (codes "recv", message_text s m)
kind_texts p (Read register) = (codes "read", register_text register)
kind_texts p (Write register) = (codes "write", register_text register)
kind_texts p Local = (codes "local", [])
kind_texts p Learn = (codes "learn", [])
kind_texts p Crash = (codes "crash", [])

-- the shape of a mark, and the three rows above it: a step by its name and by what it does with what, a lost copy by
-- its name
abbrev pub rows : Event → List ℕ × List ℕ × List ℕ × List ℕ
rows (Step p k kind) = ((kind_texts p kind).0, step_text p k, (kind_texts p kind).0, (kind_texts p kind).1)
rows (Lost copy) =
    (codes "lost", codes "lost", message_text (copy.msg).s (copy.msg).m, codes "to " ++ decimal copy.to)

-- ---- below it

-- the value that a message carries
abbrev pub value_of : Payload → Option ℕ
value_of (P1 round est lead) = Some est
value_of (P2 round aux) = aux
value_of (D est) = Some est

abbrev pub carried_text : Option Payload → List ℕ
carried_text None = []
carried_text (Some payload) = value_text (value_of payload)

-- what a step did, in a word, and with which value or round
abbrev pub deed_texts : Deed → List ℕ × List ℕ
deed_texts (Votes source leader by) = (codes "votes", decimal source.value)
deed_texts (VotesNone by) = (codes "votes", codes "none")
deed_texts (Settles source by) = (codes "settles", decimal source.value)
deed_texts (Adopts source by) = (codes "adopts", decimal source.value)
deed_texts (Keeps value by) = (codes "keeps", decimal value)
deed_texts (Learns source) = (codes "learns", decimal source.value)
deed_texts (SettlesRegister value register) = (codes "settles", decimal value)
deed_texts (SettlesInput value) = (codes "settles", decimal value)
deed_texts (GivesUp round register) = (codes "gives up", codes "round " ++ decimal round)
deed_texts (Carries round) = (codes "carries", codes "round " ++ decimal round)
deed_texts did = ([], [])

-- the first row: the value of a decision, or else the value, the leader, or what a step by itself did
abbrev pub below_text : Option ℕ → MailState → Deed → Event → List ℕ
below_text (Some v) mail did event = decimal v
below_text None mail did (Step p k (Query leader)) = codes "leader " ++ decimal leader
below_text None mail did (Step p k (Send m)) = carried_text (payload_of mail (message_name p m))
below_text None mail did (Step p k (Recv s m)) = carried_text (payload_of mail (message_name s m))
below_text None mail did (Step p k Local) = (deed_texts did).0
below_text None mail did (Step p k Learn) = (deed_texts did).0
below_text None mail did event = []

-- where: from a read and a write an arrow runs straight down, so that the value of a decision stands beside it
abbrev pub below_place : Option ℕ → Event → List ℕ
below_place None event = codes "class='value' y='22'"
below_place (Some v) (Step p k (Read register)) = codes "class='beside' x='3' y='33'"
below_place (Some v) (Step p k (Write register)) = codes "class='beside' x='3' y='33'"
below_place (Some v) event = codes "class='decision' y='22'"

-- a decision has a ring round the mark too, and `decides` above it
abbrev pub decided_text : Option ℕ → List ℕ
decided_text None = []
decided_text (Some v) = codes "<use href='#decided'/><text class='decision' y='-48'>decides</text>"

-- ---- the round that it begins

-- the query with which a process begins a round does so
abbrev pub begun : Deed → Option ℕ
begun (Round round) = Some round
begun did = None

-- a tick on the lane, left of the mark

abbrev pub tick_text : Option ℕ → List ℕ
tick_text None = []
tick_text (Some round) = codes "<path d='M-15,-5v10'/>"

-- the second row: that round, or with what a step by itself did what it did
abbrev pub note_text : Option ℕ → Deed → Event → List ℕ
note_text (Some round) did event = codes "round " ++ decimal round
note_text None did (Step p k Local) = (deed_texts did).1
note_text None did (Step p k Learn) = (deed_texts did).1
note_text None did event = []

-- ---- the mark

-- the process on whose lane an event stands: a loss on that of the receiver
abbrev pub lane_of : Event → ℕ
lane_of (Step p k kind) = p
lane_of (Lost copy) = copy.to

-- the mark of an event at that position, which did that, and after which the run stands so, with its whole text
unfoldable pub marked_text : (Parts → Rules) → Grid → Deed → RunView → Weight → ℕ → Event → List ℕ → List ℕ
marked_text rules grid did after weight position event whole =
    let decided = decides (rules after.setup) after.history event in
    let round = begun did in
    let its = rows event in
    concat
    (codes "<g class='" ∷ weight_text weight ∷ codes "' transform='translate("
    ∷ point_text (spot grid position (lane_of event)) ∷ codes ")'><title>" ∷ whole
    ∷ codes "</title>" ∷ decided_text decided ∷ tick_text round ∷ codes "<use href='#" ∷ its.0
    ∷ codes "'/><text y='-37'>" ∷ its.1 ∷ codes "</text><text y='-26'>" ∷ its.2
    ∷ codes "</text><text y='-15'>" ∷ its.3 ∷ codes "</text><text " ∷ below_place decided event
    ∷ codes ">" ∷ below_text decided (mail_in rules after) did event ∷ codes "</text><text class='note' y='33'>"
    ∷ note_text round did event ∷ codes "</text></g>\n" ∷ [])

-- ---- what a register holds

abbrev pub held_text : Option Cell → List ℕ
held_text None = []
held_text (Some cell) = value_text cell.val

-- that value on the lane of a register, to the right of the head of the arrow at that position
unfoldable pub holding_text : Grid → Weight → ℕ → Reg → List ℕ → List ℕ
holding_text grid weight position register value =
    concat
    (codes "<g class='holds " ∷ weight_text weight ∷ codes "' transform='translate("
    ∷ point_text (register_spot grid position register) ∷ codes ")'><text x='6' y='-3'>" ∷ value
    ∷ codes "</text></g>\n" ∷ [])

-- what a write leaves in its register
abbrev pub written_text : (Parts → Rules) → Grid → RunView → Weight → ℕ → Event → List ℕ
written_text rules grid after weight position (Step p k (Write register)) =
    holding_text grid weight position register (held_text (cell_in rules after register))
written_text rules grid after weight position event = []

-- ---- with its whole text, which is shown where a pointer rests on the mark

abbrev pub mark_text : (Parts → Rules) → Grid → RunView → Deed → RunView → Weight → ℕ → Event → List ℕ
mark_text rules grid run did after weight position event =
    marked_text rules grid did after weight position event (whole_text rules Shown run did after event)
    ++ written_text rules grid after weight position event

abbrev pub mark_at : (Parts → Rules) → Grid → RunView → List Weight → ℕ → List ℕ
mark_at rules grid run weights position =
    let did = deed_at run position in
    let mark = mark_text rules grid run did (run_after run position) (weight_at weights position) position in
    option_map_or mark (nth run.history position) []
