-- The responses of a session, by what came of its lines.
use Rattle.std.specs.Prelude.{ℕ, zero, suc, ◌+◌, List, [], ◌∷◌, ◌++◌, map, fold, None, if◌then◌else◌}
use Rattle.cdb_commands.specs.ReplyView.{ReplyView, is_refused}
use Rattle.cdb_text.specs.Texts.{text_of}
use Rattle.cdb_session.specs.Dialogues.{full_text, answer_text, own_response, prompt_after, saved_at}
use Rattle.cdb_session.specs.Exchanges.{Exchange}
use Rattle.cdb_session.specs.Moves.{Output, file, says}
use Rattle.cdb_session.specs.News.{watched_next}
use Rattle.cdb_session.specs.Parts.{seat_next}
use Rattle.cdb_session.specs.Styles.{StyleView}
use Rattle.cdb_session.specs.declared.request.Request.TheVariants.{Call, Ask}
use Rattle.cdb_session.specs.declared.session.Place.{Place}

-- The texts of the replies to a command that a line gives this many times at most. Where they end sooner, and not with
-- a refusal, the journal is full.
abbrev pub replies_text : ℕ → List ReplyView → List ℕ
replies_text zero got = []
replies_text (suc times) [] = full_text
replies_text (suc times) (reply ∷ got) = text_of reply ++ (if is_refused reply then [] else replies_text times got)

module _ (style : StyleView) where
  -- before the first line
  abbrev pub first_place : Place
  first_place = record { seat = style.first; lines = 0; watched = None }

  -- after a line
  abbrev pub next_place : Place → Exchange → Place
  next_place at exchange =
      record {
        seat = seat_next style.chooses at.seat exchange.0;
        lines = at.lines + 1;
        watched = watched_next at.watched exchange;
      }

  -- after all of these lines
  abbrev pub place_after : List Exchange → Place
  place_after exchanges = fold next_place first_place exchanges

  -- the response at a line
  abbrev pub response : Place → Exchange → List ℕ
  response at (Call command times, effect) = replies_text times effect.got
  response at (Ask inquiry, effect) = answer_text (at.lines + 1) inquiry effect.answer effect.saved
  response at exchange = own_response style.chooses (at.lines + 1) exchange.0

  -- what is saved comes first, and then the news
  abbrev pub responded : Place → Exchange → List Output
  responded at exchange = map file (saved_at exchange) ++ says (exchange.1.news ++ response at exchange)

  abbrev pub shown : Place → Exchange → List Output
  shown at exchange = responded at exchange ++ says (prompt_after style.prompt exchange.0)

  abbrev pub shown_from : Place → List Exchange → List Output
  shown_from at [] = []
  shown_from at (exchange ∷ exchanges) = shown at exchange ++ shown_from (next_place at exchange) exchanges

  -- all that is put out in a session, at these lines: the greeting stands before the first prompt
  abbrev pub dialogue : List Exchange → List Output
  dialogue exchanges = says (style.greeting ++ style.prompt) ++ shown_from first_place exchanges
