-- What one line does.
use Rattle.std.specs.Prelude.{◌≡◌, ◌⊎◌, ℕ, ◌≤◌, Bool, true, List, [], ◌∷◌, ◌++◌, length, map, if◌then◌else◌}
use Rattle.std.specs.Prelude.{Option, None, Some, Result, Ok, Err, IfOk}
use Rattle.cdb_commands.specs.ReplyView.{ReplyView, is_refused}
use Rattle.cdb_control.specs.declared.control.Entry.{Entry}
use Rattle.cdb_rules.specs.RunView.{RunView}
use Rattle.cdb_text.specs.Texts.{text_of}
use Rattle.cdb_session.specs.Answers.{IsDoneAfter}
use Rattle.cdb_session.specs.Dialogues.{full_text}
use Rattle.cdb_session.specs.Exchanges.{Answer, Effect, Exchange, replies_at}
use Rattle.cdb_session.specs.declared.inquiry.Inquiry.{Inquiry}
use Rattle.cdb_session.specs.declared.request.Request.{Request}
use Rattle.cdb_session.specs.declared.request.Request.TheVariants.{Call}
use Rattle.cdb_session.specs.Styles.{StyleView, Part, IsFull, AreCalled, MakesNone}
use Rattle.cdb_session.specs.Moves.{Output, file, says}
use Rattle.cdb_session.specs.News.{HasNews}
use Rattle.cdb_session.specs.Parts.{entries_of}
use Rattle.cdb_session.specs.Repeats.{AreAllReplies}
use Rattle.cdb_session.specs.Replies.{next_place, responded, shown}
use Rattle.cdb_session.specs.declared.session.Place.{Place}
use Rattle.cdb_session.specs.declared.session.Session.{Session}
use Rattle.cdb_session.specs.declared.shown.NewFile.{NewFile}
use Rattle.cdb_session.specs.declared.shown.Shown.{Shown}

-- a session between two lines: what the journal has of it, and where it is
pub record SessionView : Type 0 where
  pub part : Part
  pub place : Place

-- what is seen of a session, by what is seen of its caller
abbrev pub seen_by : {C : Type 0} → (C → Part) → Session C → SessionView
seen_by part s = record { part = part s.caller; place = s.place }

-- the session has given the command that the line asks for, if it asks for one, and got each time one of these replies
abbrev pub HasGot : ℕ → Part → Request → List ReplyView → Part → Type 0
HasGot seat old request got new = AreCalled old (entries_of seat request got) got new

-- the news were looked at before all else, and after all commands so far
abbrev pub HasLooked : SessionView → Exchange → Part → Type 0
HasLooked old exchange new =
    HasNews new (length old.part.calls) old.part.entries old.place.watched exchange.0 exchange.1.seen exchange.1.news

-- memory is out, and nothing was done of what the line asks for; or its command got these replies, and was to be given
-- more often
abbrev pub HasBegun : ℕ → Part → Request → Part → Type 0
HasBegun seat old (Call command times) new =
    (got : List ReplyView) × (length got ≤ times) × AreAllReplies ⊥ (length got) got
    × HasGot seat old (Call command times) got new
HasBegun seat old other new = MakesNone old new

-- the reply to a command that was given once is the last: it is a refusal, or there is none since the journal is full
abbrev pub is_last : List ReplyView → Bool
is_last [] = true
is_last (reply ∷ replies) = is_refused reply

abbrev pub text_once : List ReplyView → List ℕ
text_once [] = full_text
text_once (reply ∷ replies) = text_of reply

-- The command was given once more, and got a reply, or none where memory is out or the journal is full. Where this is
-- true it was the last time.
abbrev pub GivesOnce : {E : Type 0} → Result Bool E → Part → Entry → List ℕ → List ℕ → Part → Type 0
GivesOnce result old one before text new =
    (got : List ReplyView) × AreCalled old (map (λ reply. one) got) got new × (length got ≤ 1)
    × IfOk result (λ last. (got ≡ [] → IsFull new) × (last ≡ is_last got) × (text ≡ before ++ text_once got))

-- what is put out, where its file was written and where it could not be
abbrev pub outputs_with : Option NewFile → List ℕ → List ℕ → Bool → List Output
outputs_with None text failed saved = says text
outputs_with (Some its) text failed saved =
    file (record { name = its.name.now; text = its.text.items; done = saved }) ∷ says (if saved then text else failed)

-- and with these news before what is said
abbrev pub outputs_of : List ℕ → Shown → Bool → List Output
outputs_of news shown saved = outputs_with shown.file (news ++ shown.text.items) (news ++ shown.failed.items) saved

-- the news stand before what is shown, and this behind it
pub record IsAround (its all : Shown) (news behind : List ℕ) : Type 0 where
  pub file : all.file ≡ its.file
  pub text : all.text.items ≡ (news ++ its.text.items) ++ behind
  pub failed : all.failed.items ≡ (news ++ its.failed.items) ++ behind

-- a text is shown, and nothing is saved
abbrev pub IsText : Shown → List ℕ → Type 0
IsText its text = (news : List ℕ) (saved : Bool) → outputs_of news its saved ≡ says (news ++ text)

module _ (Answers : RunView → Inquiry → Answer → Type 0) where
  -- what a line asks for was done, by this seat
  pub record HasDone (seat : ℕ) (old : Part) (exchange : Exchange) (new : Part) : Type 0 where
    pub calls : HasGot seat old exchange.0 (replies_at exchange) new
    pub done : IsDoneAfter Answers old.entries new (length old.calls) exchange

  module _ (style : StyleView) where
    -- what is put out at a line that asks for this, without the prompt, whatever else came of the line; out of memory
    -- it may have been begun
    abbrev pub PutsOut : {E : Type 0} → Effect → Result Shown E → Place → Part → Request → Part → Type 0
    PutsOut effect (Ok its) place old request new =
        (got : List ReplyView) × (answer : Answer)
        × (let exchange : Exchange = (request, record effect { got = got; answer = answer }) in
        HasDone place.seat old exchange new
        × (outputs_of effect.news its effect.saved ≡ responded style place exchange))
    PutsOut effect (Err fault) place old request new = HasBegun place.seat old request new

    -- what is put out then, whether its file is written or not
    abbrev pub Shows : {E : Type 0} → Result Shown E → SessionView → Request → SessionView → Type 0
    Shows (Ok its) old request new =
        (saved : Bool) → (effect : Effect)
        × HasDone old.place.seat old.part (request, effect) new.part × HasLooked old (request, effect) new.part
        × (outputs_of [] its saved ≡ shown style old.place (request, effect))
        × (new.place ≡ next_place style old.place (request, effect))
    Shows (Err fault) old request new =
        MakesNone old.part new.part
        ⊎ (HasBegun old.place.seat old.part request new.part
        × (effect : Effect) × HasLooked old (request, effect) new.part)
