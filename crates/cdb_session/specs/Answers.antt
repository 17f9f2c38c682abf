-- Of which run a question is answered, and what was done of all lines.
use Rattle.std.specs.Prelude.{◌≡◌, ℕ, ◌+◌, List, [], ◌∷◌, ◌++◌, length, Result, Ok, Err, Vec}
use Rattle.std.specs.Global.{Global}
use Rattle.std.specs.List.{flat_map}
use Rattle.cdb_control.specs.Journal.{replay}
use Rattle.cdb_control.specs.declared.control.Entry.{Entry}
use Rattle.cdb_rules.specs.RunView.{RunView}
use Rattle.cdb_rules.specs.Rules.{Rules}
use Rattle.cdb_setup.specs.Parts.{Parts}
use Rattle.cdb_session.specs.Exchanges.{Answer, Exchange, replies_at}
use Rattle.cdb_session.specs.News.{HasNewsAfter}
use Rattle.cdb_session.specs.Parts.{HaveJust, entries_at}
use Rattle.cdb_session.specs.Repeats.{AreAllReplies}
use Rattle.cdb_session.specs.Replies.{first_place, next_place}
use Rattle.cdb_session.specs.Styles.{StyleView, Part, IsFull}
use Rattle.cdb_session.specs.declared.inquiry.Inquiry.{Inquiry}
use Rattle.cdb_session.specs.declared.request.Request.TheVariants.{Call, Ask}
use Rattle.cdb_session.specs.declared.session.Place.{Place}

-- an answer, by its bytes
abbrev pub answer_seen : Result (Vec ℕ Global) (Vec ℕ Global) → Answer
answer_seen (Ok text) = Ok text.items
answer_seen (Err text) = Err text.items

-- the run that a journal leaves, of a control with this setup and this number of seats
abbrev pub run_left : (Parts → Rules) → Parts → ℕ → List Entry → RunView
run_left rules setup seats journal =
    record { setup = setup; history = (replay (rules setup) setup seats journal).history }

module _ (style : StyleView) where
  -- the entries of these lines, each of the seat that was chosen last
  abbrev pub entries_from : Place → List Exchange → List Entry
  entries_from at [] = []
  entries_from at (exchange ∷ exchanges) =
      entries_at at.seat exchange ++ entries_from (next_place style at exchange) exchanges

  -- this holds of each of these lines; the count is that of the commands before it
  abbrev pub EachLine : (ℕ → Place → Exchange → Type 0) → ℕ → Place → List Exchange → Type 0
  EachLine IsSo count at [] = Unit {0}
  EachLine IsSo count at (exchange ∷ exchanges) =
      IsSo count at exchange
      × EachLine IsSo (count + length (entries_at at.seat exchange)) (next_place style at exchange) exchanges

-- of a run, what is asked of it and an answer, whether it is that answer
module _ (Answers : RunView → Inquiry → Answer → Type 0) where
  -- this answers what is asked of the run that some first entries leave, at least a given number, which hold exactly
  -- this count of the session's commands
  abbrev pub AnswersAfter : ℕ → Part → ℕ → Inquiry → Answer → Type 0
  AnswersAfter least part count inquiry answer =
      (first : ℕ) × HaveJust least part count first × Answers (part.left_by first) inquiry answer

  -- What a line asks of the run is answered so. Its command got all replies; where there is no more room for it in the
  -- journal, that has no command of the session behind it.
  abbrev pub IsDoneAfter : ℕ → Part → ℕ → Exchange → Type 0
  IsDoneAfter least part count (Call command times, effect) =
      AreAllReplies (IsFull part × (length part.calls ≡ count + length effect.got)) times effect.got
  IsDoneAfter least part count (Ask inquiry, effect) = AnswersAfter least part count inquiry effect.answer
  IsDoneAfter least part count other = Unit {0}

  -- and whoever watches is shown the news
  abbrev pub IsShownAfter : ℕ → Part → ℕ → Place → Exchange → Type 0
  IsShownAfter least part count at exchange =
      IsDoneAfter least part count exchange × HasNewsAfter least part count at.watched exchange

  -- Behind what was there when the session began the journal has the commands of these lines, in order and each as
  -- often as it got a reply, and no other of the session; they got those replies; and each line was done.
  pub record HasExchanges (style : StyleView) (begun part : Part) (exchanges : List Exchange) : Type 0 where
    pub calls : part.calls ≡ begun.calls ++ entries_from style (first_place style) exchanges
    pub replies : part.replies ≡ begun.replies ++ flat_map replies_at exchanges
    pub each : EachLine style (IsShownAfter begun.entries part) (length begun.calls) (first_place style) exchanges

  -- this answers what is asked of the run that the journal leaves as it stands
  abbrev pub AnswersNow : Part → Inquiry → Answer → Type 0
  AnswersNow part inquiry answer =
      (part.calls_in part.entries ≡ length part.calls) × Answers (part.left_by part.entries) inquiry answer
