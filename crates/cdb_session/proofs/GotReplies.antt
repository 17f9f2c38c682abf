-- What one line does to a session, and to what the journal has of it.
use Rattle.std.proofs.lemmas.Bool.{cases_Bool}
use Rattle.std.proofs.lemmas.Grind.{common_steps, flat_map-append, fold-append}
use Rattle.std.proofs.lemmas.Option.{gets}
use Rattle.std.proofs.Common.{rules, ◌≡◌, ℕ, ◌+◌, ◌≤◌, Bool, List, [], ◌∷◌, length, subst, sym, arith, ◌++◌, refl, ap, ◌∙◌, append_assoc}
use Rattle.std.proofs.Common.{append-nil, ◌⊎◌, inl, inr, zero, suc, length-append}
use Rattle.std.specs.List.{flat_map}
use Rattle.std.specs.Prelude.{MatchBool, Option, Some, None, unwrap_or, fold, ◌||◌, if◌then◌else◌}
use Rattle.cdb_commands.specs.ReplyView.{ReplyView, is_refused}
use Rattle.cdb_session.specs.News.{AreNews, HasNews}
use Rattle.cdb_session.specs.Parts.{entries_at, entries_of}
use Rattle.cdb_rules.specs.RunView.{RunView}
use Rattle.cdb_session.specs.Answers.{AnswersAfter, AnswersNow, EachLine, HasExchanges, IsShownAfter, entries_from}
use Rattle.cdb_session.specs.Exchanges.{Answer, Effect, Exchange, replies_at}
use Rattle.cdb_session.specs.Styles.{Part, GoesOn, StyleView, IsFull, AreCalled, MakesNone}
use Rattle.cdb_session.specs.declared.inquiry.Inquiry.{Inquiry}
use Rattle.cdb_session.specs.declared.request.Request.{Request}
use Rattle.cdb_control.specs.declared.control.Entry.{Entry}
use Rattle.cdb_session.specs.Moves.{says}
use Rattle.cdb_session.specs.Repeats.{AreAllReplies}
use Rattle.cdb_session.specs.Replies.{dialogue, first_place, next_place, place_after, shown, shown_from}
use Rattle.cdb_session.specs.declared.request.Request.TheVariants.{Call}
use Rattle.cdb_session.specs.Requests.{AsksFor, AsksForNoLess}
use Rattle.cdb_session.specs.Typed.{line_meant}
use Rattle.cdb_session.specs.Lines.{HasBegun, HasGot, HasDone}
use Rattle.cdb_session.specs.declared.session.Place.{Place}
use Rattle.cdb_session.proofs.LaterParts.{all_replies_on, done_on, each_line_on, has_later, news_on}

-- ---- one line more

module _ (style : StyleView) where
  pub place_after-more : (exchanges : List Exchange) (exchange : Exchange)
      → place_after style (exchanges ++ exchange ∷ []) ≡ next_place style (place_after style exchanges) exchange
  place_after-more exchanges exchange = fold-append (next_place style) (first_place style) exchanges (exchange ∷ [])

  abbrev place_from : Place → List Exchange → Place
  place_from at exchanges = fold (next_place style) at exchanges

  shown_from-more : (at : Place) (exchanges : List Exchange) (exchange : Exchange)
      → shown_from style at (exchanges ++ exchange ∷ []) ≡ shown_from style at exchanges ++ shown style (place_from at exchanges) exchange
  shown_from-more at [] exchange = append-nil (shown style at exchange)
  shown_from-more at (first ∷ exchanges) exchange =
      ap (λ text. shown style at first ++ text) (shown_from-more (next_place style at first) exchanges exchange)
      ∙ sym (append_assoc (shown style at first) (shown_from style (next_place style at first) exchanges)
      (shown style (place_from (next_place style at first) exchanges) exchange))

  pub dialogue-more : (exchanges : List Exchange) (exchange : Exchange)
      → dialogue style (exchanges ++ exchange ∷ []) ≡ dialogue style exchanges ++ shown style (place_after style exchanges) exchange
  dialogue-more exchanges exchange =
      ap (λ outputs. says (style.greeting ++ style.prompt) ++ outputs) (shown_from-more (first_place style) exchanges exchange)
      ∙ sym (append_assoc (says (style.greeting ++ style.prompt)) (shown_from style (first_place style) exchanges)
      (shown style (place_after style exchanges) exchange))

  entries_from-more : (at : Place) (exchanges : List Exchange) (exchange : Exchange)
      → entries_from style at (exchanges ++ exchange ∷ []) ≡ entries_from style at exchanges ++ entries_at (place_from at exchanges).seat exchange
  entries_from-more at [] exchange = append-nil (entries_at at.seat exchange)
  entries_from-more at (first ∷ exchanges) exchange =
      ap (λ (more : List Entry). entries_at at.seat first ++ more) (entries_from-more (next_place style at first) exchanges exchange)
      ∙ sym (append_assoc (entries_at at.seat first) (entries_from style (next_place style at first) exchanges)
      (entries_at (place_from (next_place style at first) exchanges).seat exchange))

  one_line_more : (IsSo : ℕ → Place → Exchange → Type 0) (count : ℕ) (at : Place) (its : List Exchange) (exchange : Exchange)
      → EachLine style IsSo count at its → IsSo (count + length (entries_from style at its)) (place_from at its) exchange
      → EachLine style IsSo count at (its ++ exchange ∷ [])
  one_line_more IsSo count at [] exchange said is =
      let none : count + 0 ≡ count = omega arith in (subst (λ n. IsSo n at exchange) none is, tt)
  one_line_more IsSo count at (first ∷ its) exchange said is =
      let one : List Entry = entries_at at.seat first in
      let others : List Entry = entries_from style (next_place style at first) its in
      let many : count + length (one ++ others) ≡ count + length one + length others = omega (arith, length-append one others) in (
        said.0,
        one_line_more IsSo (count + length one) (next_place style at first) its exchange said.1
            (subst (λ n. IsSo n (place_from (next_place style at first) its) exchange) many is),
      )

-- ---- what one line does to a session, and to what the journal has of it

pub GoesOn-refl : (part : Part) → GoesOn part part
GoesOn-refl part = search rules

pub GoesOn-trans : (old now new : Part) → GoesOn old now → GoesOn now new → GoesOn old new
GoesOn-trans old now new a b = search rules

pub MakesNone-refl : (part : Part) → MakesNone part part
MakesNone-refl part = record { goes_on = GoesOn-refl part; calls = refl; replies = refl; full = λ full. full }

pub none_called : (old new : Part) → MakesNone old new → AreCalled old [] [] new
none_called old new same = search rules

called_none : (old new : Part) → AreCalled old [] [] new → MakesNone old new
called_none old new k = record {
  goes_on = k.goes_on;
  calls = k.calls ∙ append-nil old.calls;
  replies = k.replies ∙ append-nil old.replies;
  full = λ full. (k.full full).1;
}

-- no entry stands for a command that got no reply
no_entry : (seat : ℕ) (request : Request) → entries_of seat request [] ≡ []
no_entry seat request = grind (arith, common_steps, gets)

-- a full journal has no further entry
full_on : (seat : ℕ) (request : Request) (got : List ReplyView) (old new : Part) → HasGot seat old request got new
    → IsFull old → IsFull new × (new.calls ≡ old.calls)
full_on seat request got old new calls full =
    let its = calls.full full in
    (its.1, calls.calls ∙ ap (λ (made : List Entry). old.calls ++ made) (ap (entries_of seat request) its.0 ∙ no_entry seat request) ∙ append-nil old.calls)

-- the answer of the run as it stands is one behind all commands so far
pub answer_behind : (Answers : RunView → Inquiry → Answer → Type 0) (old new : Part) (inquiry : Inquiry) (answer : Answer)
    → MakesNone old new → AnswersNow Answers new inquiry answer → AnswersAfter Answers old.entries new (length old.calls) inquiry answer
answer_behind Answers old new inquiry answer none now = (
  new.entries,
  record { no_less = none.goes_on.longer; within = omega arith; commands = now.0 ∙ ap length none.calls },
  now.1,
)

-- what was seen stands in the journal
pub seen_next : (first : ℕ) (part : Part) (count least : ℕ) (watched : Option ℕ) (before after : Bool) (seen : ℕ) (news : List ℕ)
    → first ≤ part.entries → MatchBool (before || after) (AreNews part count least watched seen news) (news ≡ [])
    → let next : Option ℕ = if after then Some seen else None in unwrap_or next first ≤ part.entries
seen_next first part count least watched before after seen news low has = grind (arith, common_steps, gets)

-- ---- what was done was begun

some_replies : (Full : Type 0) (times : ℕ) (got : List ReplyView) → AreAllReplies Full times got
    → (length got ≤ times) × AreAllReplies ⊥ (length got) got
some_replies Full zero got is = rw is (omega arith, refl)
some_replies Full (suc times) [] is = (omega arith, refl)
some_replies Full (suc times) (reply ∷ got) is =
    elim (cases_Bool (is_refused reply)) [
      | inl refused ↦ let none : got ≡ [] = rw refused at is in rw (none, refused) (omega arith, refl)
      | inr taken ↦ let more = some_replies Full times got (rw taken at is) in rw taken (omega (arith, more.0), more.1)
    ]

-- out of memory nothing was done of a line, or its command was given, once or more often
abbrev pub HasPart : (RunView → Inquiry → Answer → Type 0) → StyleView → Part → List Exchange → Part → Request → Type 0
HasPart Answers style begun exchanges new request =
    HasExchanges Answers style begun new exchanges
    ⊎ ((its : Exchange) × HasExchanges Answers style begun new (exchanges ++ its ∷ [])
    × ((line : List ℕ) → AsksFor request (line_meant line) → AsksForNoLess its line))

module _ (Answers : RunView → Inquiry → Answer → Type 0) where
  pub begun_where_done : (seat : ℕ) (old new : Part) (request : Request) (effect : Effect)
      → HasDone Answers seat old (request, effect) new → HasBegun seat old request new
  begun_where_done seat old new (Call command times) effect its =
      let some = some_replies (IsFull new × (length new.calls ≡ length old.calls + length effect.got)) times effect.got its.done in
      (effect.got, some.0, some.1, its.calls)
  begun_where_done seat old new request effect its = called_none old new its.calls

  module _ (style : StyleView) (begun old new : Part) (at : Place) (exchanges : List Exchange) (has : HasExchanges Answers style begun old exchanges)
      (is : at ≡ place_after style exchanges) (low : unwrap_or at.watched begun.entries ≤ old.entries) (longer : begun.entries ≤ old.entries) where
    -- ---- a line was done

    pub commands_done : (exchange : Exchange) → HasDone Answers at.seat old exchange new
        → HasNews new (length old.calls) old.entries at.watched exchange.0 exchange.1.seen exchange.1.news
        → HasExchanges Answers style begun new (exchanges ++ exchange ∷ [])
    commands_done exchange its looked =
        let calls = its.calls in
        let made : List ReplyView = replies_at exchange in
        let before : List Entry = entries_from style (first_place style) exchanges in
        let count : length old.calls ≡ length begun.calls + length before = ap length has.calls ∙ length-append begun.calls before in
        let full = full_on at.seat exchange.0 made old new calls in
        let news =
        news_on new new (GoesOn-refl new) (length old.calls) old.entries (unwrap_or at.watched begun.entries) low at.watched
        exchange.0 exchange.1.seen exchange.1.news looked in
        record {
          calls =
              calls.calls ∙ (λ i. has.calls i ++ entries_at (is i).seat exchange) ∙ append_assoc begun.calls before _
              ∙ ap (λ (all : List Entry). begun.calls ++ all) (sym (entries_from-more style (first_place style) exchanges exchange));
          replies =
              calls.replies ∙ (λ i. has.replies i ++ sym (append-nil made) i) ∙ append_assoc begun.replies (flat_map replies_at exchanges) _
              ∙ ap (λ (all : List ReplyView). begun.replies ++ all) (sym (flat_map-append replies_at exchanges (exchange ∷ [])));
          each =
              one_line_more style (IsShownAfter Answers begun.entries new) (length begun.calls) (first_place style) exchanges exchange
              (each_line_on Answers old new calls.goes_on full style begun.entries (length begun.calls) (first_place style) exchanges has.each)
              (subst (λ (k : ℕ × Place). IsShownAfter Answers begun.entries new k.0 k.1 exchange) (λ i. (count i, is i))
              (done_on Answers new new (GoesOn-refl new) (λ is. (is, refl)) old.entries begun.entries longer (length old.calls) exchange its.done, news));
        }

    pub commands_lost : (request : Request) → HasBegun at.seat old request new → (effect : Effect)
        → HasNews new (length old.calls) old.entries at.watched request effect.seen effect.news → HasPart Answers style begun exchanges new request
    commands_lost (Call command times) (got, few, all, calls) effect looked =
        let exchange : Exchange = (Call command (length got), record effect { got = got }) in
        let its : HasDone Answers at.seat old exchange new =
        record {
          calls = calls;
          done = all_replies_on ⊥ (IsFull new × (length new.calls ≡ length old.calls + length got)) (λ never. absurd never) (length got) got all;
        } in
        inr (exchange, commands_done exchange its looked, λ line asks. (times, few, asks))
    commands_lost request none effect looked = inl (has_later Answers style begun old new none exchanges has)
