-- The command line of the program, as tables: its arguments, and its subcommands.
use Rattle.std.specs.Prelude.{codes, find, fold, List, [], ◌∷◌, Option, Some, true, pos}
use Rattle.std.specs.Str.{bytes_eq}
use Rattle.clap.specs.Lexer.{usize_max}
use Rattle.clap.specs.Simple.{on_top}
use Rattle.clap.specs.Words.{App, Rule, Text, new_app, new_rule, with_rule, with_subcommand}
use Rattle.clap.specs.declared.builder.value_parser.ValueParser.TheVariants as vp
use Rattle.cdb_base.specs.Limits.{MAX_NUMBER, MAX_TURNS}
use Rattle.cdb_arguments.specs.declared.command_line.Argument.{Argument}
use Rattle.cdb_arguments.specs.declared.command_line.Argument.TheVariants as arg
use Rattle.cdb_arguments.specs.declared.command_line.Subcommand.{Subcommand}
use Rattle.cdb_arguments.specs.declared.command_line.Subcommand.TheVariants as sub

-- a positional argument that has to be given
abbrev pub required_rule : Text → Rule
required_rule id = record (new_rule id) { required = true }

-- `--NAME ID`, which may be left out
abbrev pub option_rule : Text → Text → Rule
option_rule id name = record (new_rule id) { long = Some name }

-- a number from 0 on
abbrev pub counted : Rule → Rule
counted rule = record rule { parser = Some (vp.Signed (pos 0) (pos MAX_TURNS)) }

-- a number from 1 on
abbrev pub numbered : Rule → Rule
numbered rule = record rule { parser = Some (vp.Signed (pos 1) (pos MAX_NUMBER)) }

-- one value or more, as many as a machine's word counts
abbrev pub several : Rule → Rule
several rule = record rule { range = Some (record { start_inclusive = 1; end_inclusive = usize_max }) }

-- each argument
abbrev pub rule_named : Argument → Rule
rule_named arg.Setup = required_rule (codes "SETUP")
rule_named arg.Script = required_rule (codes "SCRIPT")
rule_named arg.Journal = required_rule (codes "JOURNAL")
rule_named arg.Goal = required_rule (codes "GOAL")
rule_named arg.Seed = numbered (required_rule (codes "SEED"))
rule_named arg.Walks = numbered (required_rule (codes "WALKS"))
rule_named arg.First = required_rule (codes "FIRST")
rule_named arg.Second = required_rule (codes "SECOND")
rule_named arg.Turns = counted (required_rule (codes "TURNS"))
rule_named arg.Scripts = several (required_rule (codes "SCRIPT"))
rule_named arg.Process = numbered (required_rule (codes "P"))
rule_named arg.AnyProcess = numbered (new_rule (codes "P"))
rule_named arg.Step = numbered (new_rule (codes "K"))
rule_named arg.Seats = several (new_rule (codes "SEAT"))
rule_named arg.Kept = option_rule (codes "FILE") (codes "journal")
rule_named arg.From = option_rule (codes "JOURNAL") (codes "from")
rule_named arg.Page = option_rule (codes "PAGE") (codes "page")
rule_named arg.Columns = counted (option_rule (codes "N") (codes "rows"))
rule_named arg.Frames = option_rule (codes "FOLDER") (codes "frames")

-- the subcommands, in the order in which help lists them
abbrev pub all_subcommands : List Subcommand
all_subcommands =
    sub.Play ∷ sub.Race ∷ sub.Explain ∷ sub.Trail ∷ sub.Draw ∷ sub.Slice ∷ sub.Debug ∷ sub.Replay ∷ sub.Search
    ∷ sub.Same ∷ sub.Clocks ∷ sub.Shrink ∷ sub.Page ∷ []

abbrev pub name_of : Subcommand → Text
name_of sub.Play = codes "play"
name_of sub.Race = codes "race"
name_of sub.Explain = codes "explain"
name_of sub.Trail = codes "trail"
name_of sub.Draw = codes "draw"
name_of sub.Slice = codes "slice"
name_of sub.Debug = codes "debug"
name_of sub.Replay = codes "replay"
name_of sub.Search = codes "search"
name_of sub.Shrink = codes "shrink"
name_of sub.Same = codes "same"
name_of sub.Clocks = codes "clocks"
name_of sub.Page = codes "page"

-- the subcommand of this name
abbrev pub subcommand_named : Text → Option Subcommand
subcommand_named name = find (λ subcommand. bytes_eq name (name_of subcommand)) all_subcommands

-- the arguments of each, in their order
abbrev pub arguments_of : Subcommand → List Argument
arguments_of sub.Race = arg.Setup ∷ arg.Turns ∷ arg.Scripts ∷ []
arguments_of sub.Explain = arg.Setup ∷ arg.Script ∷ arg.Process ∷ arg.Step ∷ []
arguments_of sub.Trail = arg.Setup ∷ arg.Script ∷ arg.Process ∷ arg.Step ∷ []
arguments_of sub.Draw = arg.Setup ∷ arg.Script ∷ arg.AnyProcess ∷ arg.Step ∷ arg.Columns ∷ arg.Frames ∷ []
arguments_of sub.Slice = arg.Setup ∷ arg.Script ∷ arg.AnyProcess ∷ arg.Step ∷ []
arguments_of sub.Debug = arg.Setup ∷ arg.Seats ∷ arg.Kept ∷ arg.From ∷ arg.Page ∷ []
arguments_of sub.Replay = arg.Setup ∷ arg.Journal ∷ []
arguments_of sub.Search = arg.Setup ∷ arg.Goal ∷ arg.Seed ∷ arg.Walks ∷ []
arguments_of sub.Shrink = arg.Setup ∷ arg.Script ∷ arg.Goal ∷ []
arguments_of sub.Same = arg.Setup ∷ arg.First ∷ arg.Second ∷ []
arguments_of other = arg.Setup ∷ arg.Script ∷ []

abbrev pub with_argument : App → Argument → App
with_argument app argument = with_rule app (rule_named argument)

abbrev pub app_named : Subcommand → App
app_named subcommand = fold with_argument (new_app (name_of subcommand)) (arguments_of subcommand)

abbrev pub with_named : App → Subcommand → App
with_named app subcommand = with_subcommand app (app_named subcommand).top

-- the program with its version and none for help, without its subcommands
abbrev pub bare_program : App
bare_program = on_top (λ s. record s { has_version = true; disable_help_subcommand = true }) (new_app (codes "revdbg"))

-- the program with its subcommands
unfoldable pub program : App
program = fold with_named bare_program all_subcommands
