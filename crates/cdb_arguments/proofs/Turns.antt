-- A race that the matches ask for has turns.
use Rattle.std.proofs.Common.{◌≡◌, ◌≤◌, ℕ, List, Option, Some, None}
use Rattle.std.specs.Option.{MatchOption}
use Rattle.clap.specs.Words.{Row}
use Rattle.cdb_base.specs.Limits.{MAX_TURNS}
use Rattle.cdb_base.specs.Requests.{Race, Text}
use Rattle.cdb_arguments.specs.CommandLine.{subcommand_named}
use Rattle.cdb_arguments.specs.RequestsOfRows.{AsksDrawing, AsksFor, NamesAsked}
use Rattle.cdb_arguments.specs.declared.command_line.Subcommand.{Subcommand}
use Rattle.cdb_arguments.specs.declared.command_line.Subcommand.TheVariants as sub

module _ (setup : Text) (turns : ℕ) (scripts : List Text) where
  is_no_drawing : (columns : ℕ) (folder : Option Text) (rows : List Row) → AsksDrawing columns folder rows (Race setup turns scripts) → ⊥
  is_no_drawing columns None rows asks = let same = asks.2 in absurd (cc)
  is_no_drawing columns (Some folder) rows asks = let same = asks.2 in absurd (cc)

  of_subcommand : (it : Subcommand) (rows : List Row) → AsksFor it rows (Race setup turns scripts) → turns ≤ MAX_TURNS
  of_subcommand sub.Race rows asks = let same = asks.2 in let turns_are : turns ≡ asks.0 = cc in rw turns_are asks.1.0
  of_subcommand sub.Draw rows asks = absurd (is_no_drawing asks.0 _ rows asks.2)
  of_subcommand sub.Explain rows asks = let same = asks.2 in absurd (cc)
  of_subcommand sub.Trail rows asks = let same = asks.2 in absurd (cc)
  of_subcommand sub.Slice rows asks = let same = asks.2 in absurd (cc)
  of_subcommand sub.Search rows asks = let same = asks.4 in absurd (cc)
  of_subcommand other rows asks = absurd (cc)

  pub race_has_turns : (found : Option (Text × List Row)) → NamesAsked found (Race setup turns scripts) → turns ≤ MAX_TURNS
  race_has_turns None asks = absurd (cc)
  race_has_turns (Some found) asks = of_named (subcommand_named found.0) asks
    where
      of_named : (it : Option Subcommand) → MatchOption it ⊥ (λ it. AsksFor it found.1 (Race setup turns scripts)) → turns ≤ MAX_TURNS
      of_named None none = absurd none
      of_named (Some it) its = of_subcommand it found.1 its
