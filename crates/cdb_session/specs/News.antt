-- What a session shows of others to whoever watches.
use Rattle.std.specs.Prelude.{◌≡◌, ℕ, ◌||◌, Bool, List, [], MatchBool, if◌then◌else◌, Option, Some, None}
use Rattle.std.specs.Prelude.{is_some, unwrap_or}
use Rattle.cdb_session.specs.Exchanges.{Exchange}
use Rattle.cdb_session.specs.Parts.{HaveJust}
use Rattle.cdb_session.specs.Styles.{Part}
use Rattle.cdb_session.specs.declared.request.Request.{Request}
use Rattle.cdb_session.specs.declared.request.Request.TheVariants.{Watch}

-- whether somebody watches after a line, where somebody did before it or nobody
abbrev pub watches : Bool → Request → Bool
watches before (Watch begins) = begins
watches before other = before

-- the journal is looked at where somebody watches before the line or after it
abbrev pub looks : Bool → Request → Bool
looks before request = before || watches before request

-- from which entry on others' are still to be shown after a line, or nobody watches
abbrev pub watched_next : Option ℕ → Exchange → Option ℕ
watched_next watched exchange = if watches (is_some watched) exchange.0 then Some exchange.1.seen else None

-- the news up to a position, from where somebody watches on
abbrev pub news_up_to : Part → Option ℕ → ℕ → List ℕ
news_up_to part None to = []
news_up_to part (Some from) to = part.news from to

-- For whoever watches, of a journal when it had this count of the session's commands, and at least the least of entries
module _ (part : Part) (count least : ℕ) (watched : Option ℕ) where
  -- it was seen up to there, and these are the news up to there
  pub record AreNews (seen : ℕ) (news : List ℕ) : Type 0 where
    pub seen_is : HaveJust least part count seen
    pub news_are : news ≡ news_up_to part watched seen

  -- at a line that asks for this; where nobody looks, there are none
  abbrev pub HasNews : Request → ℕ → List ℕ → Type 0
  HasNews request seen news = MatchBool (looks (is_some watched) request) (AreNews seen news) (news ≡ [])

-- A line shows the news from where those before have ended, or from the first of its session on: so each entry is shown
-- once, and in order.
abbrev pub HasNewsAfter : ℕ → Part → ℕ → Option ℕ → Exchange → Type 0
HasNewsAfter least part count watched exchange =
    HasNews part count (unwrap_or watched least) watched exchange.0 exchange.1.seen exchange.1.news
