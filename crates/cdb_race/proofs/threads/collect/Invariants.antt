use Rattle.std.proofs.Common.{◌≡◌, ◌+◌, ◌≤◌, ◌++◌, map, reverse, vec_len, vec_capacity}
use Rattle.cdb_commands.specs.ReplyView.{reply_view}
use Rattle.cdb_race.specs.Races.{all_reply_views, Ran}
use Rattle.cdb_race.proofs.threads.collect.Given as goal

abbrev pub invariant-loop-ran : goal.invariant-loop-ran
invariant-loop-ran g l = record {
  count : vec_len l.rans + vec_len l.seats ≡ vec_len l.fn.rans;
  replied : vec_len l.replied ≡ vec_len l.seats;
  room : (vec_len l.fn.rans ≤ vec_capacity l.seats) × (vec_len l.fn.rans ≤ vec_capacity l.replied);
  seats : map (λ (r : Ran g.row.T.Denot). r.seat) (reverse l.fn.rans.items)
      ≡ l.seats.items ++ map (λ (r : Ran g.row.T.Denot). r.seat) (reverse l.rans.items);
  replies : map (λ (r : Ran g.row.T.Denot). map reply_view r.replies.items) (reverse l.fn.rans.items)
      ≡ all_reply_views l.replied.items ++ map (λ (r : Ran g.row.T.Denot). map reply_view r.replies.items) (reverse l.rans.items);
}

abbrev pub decreases-loop-ran : goal.decreases-loop-ran
decreases-loop-ran g l = vec_len l.rans
