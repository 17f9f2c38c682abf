-- A replica follows what its seat sees.
use Rattle.std.proofs.Common.{◌≡◌, ℕ, ◌+◌, List, ◌++◌, drop, length, min}
use Rattle.std.proofs.Common.{Option, None, Some, refl, sym, ap, ◌∙◌, arith, length-append}
use Rattle.std.proofs.Math.Seq.{drop-append_seam}
use Rattle.std.specs.Prelude.{unwrap_or}
use Rattle.cdb_control.specs.Journal.{Begins, Journaled}
use Rattle.cdb_control.specs.declared.control.Entry.{Entry}
use Rattle.cdb_control.proofs.Own.{Begins-trans}
use Rattle.cdb_journal.specs.OpenedFrom.{opened_from}
use Rattle.cdb_journal.specs.SeatReplies.{news, news_in}
use Rattle.cdb_journal.proofs.NewsLines.{news_listed, no_news}
use Rattle.cdb_rules.specs.Rules.{Rules}
use Rattle.cdb_session.specs.News.{news_up_to}
use Rattle.cdb_setup.specs.Parts.{Parts}
use Rattle.cdb_shared.specs.Seats.{SeatView, IsLater}
use Rattle.cdb_shared_session.specs.Replicas.{IsReplica, HasReplica}
use Rattle.cdb_shared_session.specs.SeatParts.{part_seen}

-- it is one of the seat later too
pub replica_later : (old new : SeatView) (c : Journaled) → IsLater old new → IsReplica old c → IsReplica new c
replica_later old new c later so =
    record {
      opened_is = so.opened_is ∙ (λ i. opened_from (sym later.setup i) (sym later.seats i) c.journal);
      begins = Begins-trans c.journal old.seen new.seen so.begins later.begins;
    }

pub has_later : (old new : SeatView) (c : Option Journaled) → IsLater old new → HasReplica old c → HasReplica new c
has_later old new None later so = tt
has_later old new (Some c) later so = replica_later old new c later so

-- a control that has carried out a beginning of what the seat has seen is one
pub is_replica : (seat : SeatView) (c : Journaled) (journal : List Entry) → c ≡ opened_from seat.setup seat.seats journal → Begins journal seat.seen
    → IsReplica seat c
is_replica seat c journal is begins = rw is (record { opened_is = refl; begins = begins })

module _ (seat : SeatView) (c : Journaled) (so : IsReplica seat c) where
  -- what the seat has seen is what it has, and the rest
  abbrev pub rest : List Entry
  rest = drop (length c.journal) seat.seen

  pub all_seen : c.journal ++ rest ≡ seat.seen
  all_seen = ap (λ more. c.journal ++ more) (ap (drop (length c.journal)) so.begins.1 ∙ drop-append_seam c.journal so.begins.0) ∙ sym so.begins.1

  pub few_left : length c.journal + length rest ≡ length seat.seen
  few_left = sym (length-append c.journal rest) ∙ ap length all_seen

  -- and it has seen all once it has carried out the rest
  pub caught_up : (new : Journaled) → new ≡ record c { journal = c.journal ++ rest } → new ≡ opened_from seat.setup seat.seats seat.seen
  caught_up new is = is ∙ (λ i. record (so.opened_is i) { journal = all_seen i })

-- what it tells then, from the entry on where somebody watches, is the news up to what was seen
pub news_seen : (rules : Parts → Rules) (seat : SeatView) (from : Option ℕ) (first seen : ℕ)
    → first ≡ unwrap_or from seen → seen ≡ length seat.seen
    → news_in rules (opened_from seat.setup seat.seats seat.seen) seat.number first ≡ news_up_to (part_seen rules seat) from seen
news_seen rules seat None first seen is all =
    let k = opened_from seat.setup seat.seats seat.seen in
    ap (news_in rules k seat.number) is ∙ sym (news_listed rules k seat.number seen)
    ∙ no_news rules k seat.number (min seen (length seat.seen)) (omega (arith, all))
news_seen rules seat (Some from) first seen is all =
    λ i. news (rules seat.setup) seat.setup seat.seats seat.number seat.seen (is i) (sym all i)
