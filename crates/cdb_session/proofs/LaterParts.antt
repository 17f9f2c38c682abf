-- What was told of a journal is told of a longer one.
use Rattle.std.proofs.lemmas.Bool.{cases_Bool}
use Rattle.std.proofs.lemmas.Grind.{common_steps}
use Rattle.std.proofs.lemmas.Option.{gets}
use Rattle.std.proofs.Common.{◌≡◌, inl, inr, ℕ, zero, suc, ◌+◌, ◌≤◌, Bool, List, [], ◌∷◌, length, ap, subst, sym, ◌∙◌, arith}
use Rattle.std.specs.Prelude.{MatchBool, Option, is_some, unwrap_or}
use Rattle.cdb_commands.specs.ReplyView.{ReplyView, is_refused}
use Rattle.cdb_session.specs.News.{AreNews, HasNews, looks}
use Rattle.cdb_session.specs.Parts.{HaveJust, entries_at}
use Rattle.cdb_session.specs.Repeats.{AreAllReplies}
use Rattle.cdb_session.specs.Replies.{first_place, next_place}
use Rattle.cdb_rules.specs.RunView.{RunView}
use Rattle.cdb_session.specs.Answers.{EachLine, HasExchanges, IsDoneAfter, IsShownAfter}
use Rattle.cdb_session.specs.Exchanges.{Answer, Exchange}
use Rattle.cdb_session.specs.Styles.{Part, GoesOn, IsFull, MakesNone, StyleView}
use Rattle.cdb_session.specs.declared.inquiry.Inquiry.{Inquiry}
use Rattle.cdb_session.specs.declared.request.Request.{Request}
use Rattle.cdb_session.specs.declared.request.Request.TheVariants.{Call, Ask}
use Rattle.cdb_session.specs.declared.session.Place.{Place}

-- all replies, where less is said of a full journal
pub all_replies_on : (Full Then : Type 0) → (Full → Then) → (times : ℕ) (got : List ReplyView)
    → AreAllReplies Full times got → AreAllReplies Then times got
all_replies_on Full Then on zero got is = is
all_replies_on Full Then on (suc times) [] is = on is
all_replies_on Full Then on (suc times) (reply ∷ got) is =
    elim (cases_Bool (is_refused reply)) [
      | inl refused ↦ rw refused (rw refused at is)
      | inr taken ↦ rw taken (all_replies_on Full Then on times got (rw taken at is))
    ]

module _ (old new : Part) (on : GoesOn old new) where
  just_on : (least less count first : ℕ) → less ≤ least → HaveJust least old count first → HaveJust less new count first
  just_on least less count first fewer k = record {
    no_less = omega (arith, fewer, k.no_less);
    within = omega (arith, on.longer, k.within);
    commands = on.calls_in first k.within ∙ k.commands;
  }

  -- so are the news
  module _ (count least less : ℕ) (fewer : less ≤ least) (watched : Option ℕ) where
    are_on : (looked : Bool) (seen : ℕ) (news : List ℕ) → MatchBool looked (AreNews old count least watched seen news) (news ≡ [])
        → MatchBool looked (AreNews new count less watched seen news) (news ≡ [])
    are_on looked seen news are = grind (arith, common_steps, gets)

    pub news_on : (request : Request) (seen : ℕ) (news : List ℕ) → HasNews old count least watched request seen news
        → HasNews new count less watched request seen news
    news_on request seen news has = are_on (looks (is_some watched) request) seen news has

module _ (Answers : RunView → Inquiry → Answer → Type 0) (old new : Part) (on : GoesOn old new)
    (full : IsFull old → IsFull new × (new.calls ≡ old.calls)) where
  pub done_on : (least less : ℕ) → less ≤ least → (count : ℕ) (exchange : Exchange) → IsDoneAfter Answers least old count exchange
      → IsDoneAfter Answers less new count exchange
  done_on least less fewer count (Call command times, effect) is =
      all_replies_on (IsFull old × (length old.calls ≡ count + length effect.got)) (IsFull new × (length new.calls ≡ count + length effect.got))
      (λ at_end. let its = full at_end.0 in (its.0, ap length its.1 ∙ at_end.1)) times effect.got is
  done_on least less fewer count (Ask inquiry, effect) (first, just, answers) = (
    first,
    just_on old new on least less count first fewer just,
    subst (λ (run : RunView). Answers run inquiry effect.answer) (sym (on.left_by first just.within)) answers,
  )
  done_on least less fewer count exchange is = tt

  pub each_line_on : (style : StyleView) (least count : ℕ) (at : Place) (its : List Exchange)
      → EachLine style (IsShownAfter Answers least old) count at its → EachLine style (IsShownAfter Answers least new) count at its
  each_line_on style least count at [] said = tt
  each_line_on style least count at (exchange ∷ its) said = (
    (
      done_on least least (omega arith) count exchange said.0.0,
      news_on old new on count (unwrap_or at.watched least) (unwrap_or at.watched least) (omega arith) at.watched
          exchange.0 exchange.1.seen exchange.1.news said.0.1,
    ),
    each_line_on style least (count + length (entries_at at.seat exchange)) (next_place style at exchange) its said.1,
  )

-- what a journal has of a session, a longer one has, if the session made no further entry
pub has_later : (Answers : RunView → Inquiry → Answer → Type 0) (style : StyleView) (begun old new : Part) → MakesNone old new
    → (exchanges : List Exchange) → HasExchanges Answers style begun old exchanges → HasExchanges Answers style begun new exchanges
has_later Answers style begun old new none exchanges has = record {
  calls = none.calls ∙ has.calls;
  replies = none.replies ∙ has.replies;
  each =
      each_line_on Answers old new none.goes_on (λ full. (none.full full, none.calls)) style begun.entries (length begun.calls)
      (first_place style) exchanges has.each;
}
