-- What a step did, as text: from a space on, or nothing.
use Rattle.std.specs.Prelude.{ℕ, List, [], ◌++◌, codes, decimal}
use Rattle.std.specs.List.{flat_map}
use Rattle.cdb_base.specs.NameTexts.{message_text}
use Rattle.cdb_base.specs.declared.name.MsgName.{MsgName}
use Rattle.cdb_deeds.specs.declared.deed.Deed.{Deed}
use Rattle.cdb_deeds.specs.declared.deed.Deed.TheVariants.{Nothing, Round, Votes, VotesNone}
use Rattle.cdb_deeds.specs.declared.deed.Deed.TheVariants.{Settles, Adopts, Keeps, Learns}
use Rattle.cdb_deeds.specs.declared.deed.Deed.TheVariants.{SettlesRegister, SettlesInput, GivesUp, Carries}
use Rattle.cdb_deeds.specs.declared.deed.Source.{Source}

-- ` S#M`
abbrev pub named_text : MsgName → List ℕ
named_text name = codes " " ++ message_text name.s name.m

-- ` by S#M ..`
abbrev pub by_text : List MsgName → List ℕ
by_text names = codes " by" ++ flat_map named_text names

-- `V of S#M`
abbrev pub source_text : Source → List ℕ
source_text source = decimal source.value ++ codes " of" ++ named_text source.message

-- ` of rJ`, ` by rJ`
abbrev pub register_text : ℕ → List ℕ
register_text register = codes " r" ++ decimal register

abbrev pub deed_text : Deed → List ℕ
deed_text Nothing = []
deed_text (Round round) = codes " round " ++ decimal round
deed_text (Votes source leader by) =
    codes " votes " ++ source_text source ++ codes " for leader " ++ decimal leader ++ by_text by
deed_text (VotesNone by) = codes " votes none" ++ by_text by
deed_text (Settles source by) = codes " settles " ++ source_text source ++ by_text by
deed_text (Adopts source by) = codes " adopts " ++ source_text source ++ by_text by
deed_text (Keeps value by) = codes " keeps " ++ decimal value ++ by_text by
deed_text (Learns source) = codes " learns " ++ source_text source
deed_text (SettlesRegister value register) = codes " settles " ++ decimal value ++ codes " of" ++ register_text register
deed_text (SettlesInput value) = codes " settles " ++ decimal value ++ codes ", its input"
deed_text (GivesUp round register) = codes " gives up round " ++ decimal round ++ codes " by" ++ register_text register
deed_text (Carries round) = codes " carries round " ++ decimal round
