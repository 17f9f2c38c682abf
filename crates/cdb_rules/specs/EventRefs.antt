-- Events by the numbers that a session gives.
use Rattle.std.specs.Prelude.{◌<◌, ◌^◌}
use Rattle.cdb_base.specs.Limits.{MAX_PROCESSES}
use Rattle.cdb_base.specs.declared.name.StepId.{StepId}
use Rattle.cdb_base.specs.declared.name.StepId.TheVariants as named
use Rattle.cdb_message.specs.Mail.{message_name, copy_name}
use Rattle.cdb_rules.specs.declared.event_ref.EventRef.{EventRef}
use Rattle.cdb_rules.specs.declared.event_ref.EventRef.TheVariants.{Step, Lost}
use Rattle.cdb_setup.specs.Parts.{IsWithin}

-- its processes are from 1 to 9, and its number is one of 16 bits
abbrev pub CanName : EventRef → Type 0
CanName (Step p k) = IsWithin 1 MAX_PROCESSES p × (k < 2 ^ 16)
CanName (Lost s m p) = IsWithin 1 MAX_PROCESSES s × (m < 2 ^ 16) × IsWithin 1 MAX_PROCESSES p

-- a step by its process and number, a loss by the message and the process for which the copy was meant
abbrev pub name_given : EventRef → StepId
name_given (Step p k) = named.Step (record { p = p; k = k })
name_given (Lost s m p) = named.Lost (copy_name (message_name s m) p)
