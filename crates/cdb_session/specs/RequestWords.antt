-- What the code keeps for itself: what a line asks for that is no command of a script, by its words.
use Rattle.std.specs.Prelude.{ℕ, true, false, nat_le, List, [], ◌∷◌, Option, None, Some, option_map}
use Rattle.std.specs.Prelude.{if◌then◌else◌}
use Rattle.std.specs.Option.{option_and_then}
use Rattle.cdb_commands.specs.declared.command.Command.TheVariants.{Auto}
use Rattle.cdb_base.specs.declared.question.StepAsked.{StepAsked}
use Rattle.cdb_text.specs.Numbers.{number_of}
use Rattle.cdb_session.specs.Inquiries.{is_file_name}
use Rattle.cdb_session.specs.Requests.{most_seats}
use Rattle.cdb_session.specs.Topics.{topic_of}
use Rattle.cdb_session.specs.declared.inquiry.Inquiry.{Inquiry}
use Rattle.cdb_session.specs.declared.request.Request.{Request}
use Rattle.cdb_session.specs.declared.request.Request.TheVariants.{Call, Ask, Watch, Seat, Help, Quit}
use Rattle.cdb_session.specs.declared.topic.Topic.{Topic}
use Rattle.cdb_session.specs.declared.topic.Topic.TheVariants as topic
use Rattle.cdb_session.specs.declared.inquiry.Inquiry.TheVariants.{Explain, Trail, Draw}

abbrev pub step_with : ℕ → Option ℕ → StepAsked
step_with p k = record { p = p; k = k }

-- the step that the words name, if they do: the last of a process, or that of a number
unfoldable pub step_in : List (List ℕ) → Option StepAsked
step_in [] = None
step_in (first ∷ []) = option_map (λ p. step_with p None) (number_of first)
step_in (first ∷ second ∷ []) =
    option_and_then (λ p. option_map (λ k. step_with p (Some k)) (number_of second)) (number_of first)
step_in (first ∷ second ∷ third ∷ words) = None

-- the step that the words name, none where there are no words
unfoldable pub any_step_in : List (List ℕ) → Option (Option StepAsked)
any_step_in [] = Some None
any_step_in (word ∷ words) = option_map Some (step_in (word ∷ words))

-- the picture that the words name, if they do: a file, and maybe a step
unfoldable pub drawing_in : List (List ℕ) → Option Inquiry
drawing_in [] = None
drawing_in (name ∷ others) = if is_file_name name then option_map (Draw name) (any_step_in others) else None

-- the word, where it is the only one
abbrev pub only_in : List (List ℕ) → Option (List ℕ)
only_in (word ∷ []) = Some word
only_in words = None

-- the seat that a word names
abbrev pub seat_from : ℕ → Option ℕ
seat_from n = if nat_le n most_seats then Some n else None

abbrev pub seat_named : List ℕ → Option ℕ
seat_named word = option_and_then seat_from (number_of word)

-- what a first word asks for where no other follows it
abbrev pub alone : Request → List (List ℕ) → Option Request
alone request [] = Some request
alone request (word ∷ words) = None

-- what the words behind `help` ask for, and what the numbers behind `auto`
abbrev pub help_in : List (List ℕ) → Option Request
help_in [] = Some (Help None)
help_in words = option_map (λ topic. Help (Some topic)) (option_and_then topic_of (only_in words))

abbrev pub repeat_from : StepAsked → Option Request
repeat_from step = option_map (Call (Auto step.p)) step.k

-- what the words behind the first one ask for, in a line of a session's own
abbrev pub own_behind : Topic → List (List ℕ) → Option Request
own_behind topic.Auto words = option_and_then repeat_from (step_in words)
own_behind topic.Explain words = option_map (λ step. Ask (Explain step)) (step_in words)
own_behind topic.Trail words = option_map (λ step. Ask (Trail step)) (step_in words)
own_behind topic.Draw words = option_map Ask (drawing_in words)
own_behind topic.Watch words = alone (Watch true) words
own_behind topic.Unwatch words = alone (Watch false) words
own_behind topic.Help words = help_in words
own_behind topic.Quit words = alone Quit words
own_behind topic.Seat words = option_map Seat (option_and_then seat_named (only_in words))
own_behind other words = None

unfoldable pub own_in : List (List ℕ) → Option Request
own_in [] = None
own_in (word ∷ others) = option_and_then (λ first. own_behind first others) (topic_of word)
