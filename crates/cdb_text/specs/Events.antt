-- The texts of events.
use Rattle.std.specs.Prelude.{ℕ, List, ◌++◌, codes, decimal}
use Rattle.cdb_base.specs.declared.event.Event.{Event}
use Rattle.cdb_base.specs.declared.event.Event.TheVariants.{Step, Lost}
use Rattle.cdb_base.specs.declared.event.Kind.{Kind}
use Rattle.cdb_base.specs.declared.event.Kind.TheVariants.{Query, Send, Recv, Read, Write, Local, Learn, Crash}
use Rattle.cdb_base.specs.NameTexts.{step_text, message_text, loss_text, register_text}

-- what a step of process p does
abbrev pub kind_text : ℕ → Kind → List ℕ
kind_text p (Query l) = codes "query " ++ decimal l
kind_text p (Send m) = codes "send " ++ message_text p m
kind_text p (Recv s m) = codes "recv " ++ message_text s m
kind_text p (Read x) = codes "read " ++ register_text x
kind_text p (Write x) = codes "write " ++ register_text x
kind_text p Local = codes "local"
kind_text p Learn = codes "learn"
kind_text p Crash = codes "crash"

-- `P.K KIND`, or `lost S#M to P`
abbrev pub event_text : Event → List ℕ
event_text (Step p k kind) = step_text p k ++ codes " " ++ kind_text p kind
event_text (Lost copy) = loss_text copy
