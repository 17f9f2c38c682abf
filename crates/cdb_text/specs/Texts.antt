-- The texts of replies. Each line ends with byte 10, and numbers are decimal.
use Rattle.std.specs.Prelude.{ℕ, List, [], ◌++◌, codes, decimal, Option, Some, None}
use Rattle.cdb_commands.specs.ReplyView.{ReplyView, Stepped, Undone, Redone, RolledBack, Because, BreakSet, BreakGone}
use Rattle.cdb_commands.specs.ReplyView.{Resumed, Forgot, Proc, Regs, Mail, History, Decisions, Refused}
use Rattle.cdb_text.specs.Events.{event_text}
use Rattle.cdb_base.specs.NameTexts.{name_text}
use Rattle.cdb_base.specs.Refusal.{refusal_text}
use Rattle.cdb_text.specs.Reports.{process_text, registers_text, mail_text, causes_text, history_text, decisions_text}

-- ` decides V`, where the event is a decision
abbrev pub decides_text : Option ℕ → List ℕ
decides_text None = []
decides_text (Some v) = codes " decides " ++ decimal v

-- ` break B`, where a breakpoint set a pause
abbrev pub break_text : Option ℕ → List ℕ
break_text None = []
break_text (Some b) = codes " break " ++ decimal b

abbrev pub text_of : ReplyView → List ℕ
text_of (Stepped event decides paused) =
    event_text event ++ decides_text decides ++ break_text paused ++ codes "\n"
text_of (Undone event) = codes "undone " ++ event_text event ++ codes "\n"
text_of (Redone event decides) =
    codes "redone " ++ event_text event ++ decides_text decides ++ codes "\n"
text_of (RolledBack count) = codes "rolled back " ++ decimal count ++ codes "\n"
text_of (Because name causes) =
    name_text name ++ codes " because" ++ causes_text causes ++ codes "\n"
text_of (BreakSet b) = codes "break " ++ decimal b ++ codes "\n"
text_of (BreakGone b) = codes "unbreak " ++ decimal b ++ codes "\n"
text_of Resumed = codes "resumed\n"
text_of (Forgot count) = codes "forgot " ++ decimal count ++ codes "\n"
text_of (Proc view) = process_text view
text_of (Regs cells) = registers_text cells
text_of (Mail copies) = mail_text copies
text_of (History events) = history_text events
text_of (Decisions pairs) = decisions_text pairs
text_of (Refused why) = refusal_text why ++ codes "\n"
