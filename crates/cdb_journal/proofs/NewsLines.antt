-- News grow by one line after the other.
use Rattle.std.proofs.Common.{◌≡◌, ℕ, ◌≤◌, min, [], ◌∷◌, ◌++◌, drop, length, refl, arith, append-nil}
use Rattle.std.proofs.lemmas.Grind.{common_steps, flat_map-append}
use Rattle.std.proofs.lemmas.List.{drop-append-le, drop_all, take_all}
use Rattle.cdb_control.specs.Journal.{Journaled, extended, replay}
use Rattle.cdb_control.specs.State.{first_control_state}
use Rattle.cdb_control.specs.declared.control.Entry.{Entry}
use Rattle.cdb_rules.specs.Rules.{Rules}
use Rattle.cdb_setup.specs.Parts.{Parts}
use Rattle.cdb_journal.specs.SeatReplies.{news_in, news_line, news_lines, seat_replies_in}
use Rattle.cdb_journal.proofs.RepliesToSeats.{said, seat_replies-append, seat_replies-length}

module _ (rules : Parts → Rules) (c : Journaled) (reader from : ℕ) where
  a_reply_each : length (seat_replies_in rules c) ≡ length c.journal
  a_reply_each = seat_replies-length (rules c.setup) (first_control_state c.setup c.seats) c.journal

  -- behind the last entry there are none
  pub no_news : length c.journal ≤ from → news_lines reader (drop from (seat_replies_in rules c)) ≡ []
  no_news few = let many = a_reply_each in rw (drop_all from (seat_replies_in rules c) (omega arith)) refl

  -- one entry more
  module _ (e : Entry) where
    one_reply_more : seat_replies_in rules (extended rules c e.seat e.command) ≡ seat_replies_in rules c ++ said rules c e ∷ []
    unfolding replay
    one_reply_more = seat_replies-append (rules c.setup) (first_control_state c.setup c.seats) c.journal (e ∷ [])

    pub news_more : from ≤ length c.journal → news_lines reader (drop from (seat_replies_in rules (extended rules c e.seat e.command)))
        ≡ news_lines reader (drop from (seat_replies_in rules c)) ++ news_line reader (said rules c e)
    news_more low =
        let many = a_reply_each in
        let old = seat_replies_in rules c in
        rw (one_reply_more, drop-append-le from old (said rules c e ∷ []) (omega arith), flat_map-append, append-nil) refl

-- what a control tells behind some first entries is the news from a position on, where it has no fewer
pub news_listed : (rules : Parts → Rules) (c : Journaled) (reader from : ℕ)
    → news_lines reader (drop (min from (length c.journal)) (seat_replies_in rules c)) ≡ news_in rules c reader from
news_listed rules c reader from =
    let many = a_reply_each rules c reader from in
    rw (take_all (length c.journal) c.journal (omega arith)) (grind (arith, common_steps, drop_all))
