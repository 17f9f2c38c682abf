-- That a deed names only messages that its process received before.
use Rattle.std.specs.Prelude.{ℕ, List, [], ◌∷◌, Contains}
use Rattle.cdb_base.specs.declared.event.Event.{Event}
use Rattle.cdb_base.specs.declared.event.Event.TheVariants.{Step}
use Rattle.cdb_base.specs.declared.event.Kind.{Kind}
use Rattle.cdb_base.specs.declared.event.Kind.TheVariants.{Recv}
use Rattle.cdb_base.specs.declared.name.MsgName.{MsgName}
use Rattle.cdb_causal.specs.Exchange.{IsIn}
use Rattle.cdb_deeds.specs.Deeds.{deed_in}
use Rattle.cdb_deeds.specs.declared.deed.Deed.{Deed}
use Rattle.cdb_deeds.specs.declared.deed.Deed.TheVariants.{Votes, VotesNone, Settles, Adopts, Keeps, Learns}
use Rattle.cdb_rules.specs.RunView.{RunView}

-- the messages that a deed names
abbrev pub messages_named : Deed → List MsgName
messages_named (Votes source leader by) = source.message ∷ by
messages_named (VotesNone by) = by
messages_named (Settles source by) = source.message ∷ by
messages_named (Adopts source by) = source.message ∷ by
messages_named (Keeps value by) = by
messages_named (Learns source) = source.message ∷ []
messages_named deed = []

-- process p has received the message
abbrev pub HasReceived : List Event → ℕ → MsgName → Type 0
HasReceived history p name = (k : ℕ) × IsIn (Step p k (Recv name.s name.m)) history

-- each message that the deed of a step names was received by its process before
abbrev pub NamesReceived : Type 0
NamesReceived =
    (run : RunView) (p k : ℕ) (kind : Kind) (name : MsgName)
    → Contains (messages_named (deed_in run (Step p k kind))) name
    → HasReceived run.history p name
