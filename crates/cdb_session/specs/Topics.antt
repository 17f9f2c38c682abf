-- What the help can be asked about: the words that may begin a line.
use Rattle.std.specs.Prelude.{ℕ, List, [], ◌∷◌, codes, find, Option}
use Rattle.std.specs.Str.{bytes_eq}
use Rattle.cdb_session.specs.declared.topic.Topic.{Topic}
use Rattle.cdb_session.specs.declared.topic.Topic.TheVariants.{Step, Auto, Lose, Undo, Redo, Forget, Rollback}
use Rattle.cdb_session.specs.declared.topic.Topic.TheVariants.{Why, Break, Unbreak, Resume, Show, Decisions}
use Rattle.cdb_session.specs.declared.topic.Topic.TheVariants.{Explain, Trail, Draw, Watch, Unwatch, Help, Quit, Seat}

abbrev pub topic_word : Topic → List ℕ
topic_word Step = codes "step"
topic_word Auto = codes "auto"
topic_word Lose = codes "lose"
topic_word Undo = codes "undo"
topic_word Redo = codes "redo"
topic_word Forget = codes "forget"
topic_word Rollback = codes "rollback"
topic_word Why = codes "why"
topic_word Break = codes "break"
topic_word Unbreak = codes "unbreak"
topic_word Resume = codes "resume"
topic_word Show = codes "show"
topic_word Decisions = codes "decisions"
topic_word Explain = codes "explain"
topic_word Trail = codes "trail"
topic_word Draw = codes "draw"
topic_word Watch = codes "watch"
topic_word Unwatch = codes "unwatch"
topic_word Help = codes "help"
topic_word Quit = codes "quit"
topic_word Seat = codes "seat"

-- each of them
abbrev pub topics : List Topic
topics =
    Step ∷ Auto ∷ Lose ∷ Undo ∷ Redo ∷ Forget ∷ Rollback ∷ Why ∷ Break ∷ Unbreak ∷ Resume ∷ Show ∷ Decisions
    ∷ Explain ∷ Trail ∷ Draw ∷ Watch ∷ Unwatch ∷ Help ∷ Quit ∷ Seat ∷ []

-- the one that this word is
unfoldable pub topic_of : List ℕ → Option Topic
topic_of word = find (λ topic. bytes_eq word (topic_word topic)) topics
